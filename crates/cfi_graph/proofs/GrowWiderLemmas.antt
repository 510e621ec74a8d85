-- Links to wider classes, while tables are added.
use Rattle.std.proofs.Common.{◌≡◌, ◌∙◌, ◌⊎◌, ℕ, zero, suc, ◌<◌, List, [], ◌∷◌, ◌++◌, length, sym, ap, subst, inl, inr, arith, length-append}
use Rattle.std.specs.Prelude.{All}
use Rattle.std.specs.List.{Contains, AllByRecursion}
use Rattle.std.proofs.lemmas.Bool.{cases_eq}
use Rattle.std.proofs.lemmas.List.{get_or_append_left}
use Rattle.std.proofs.lemmas.List.Elements.{Contains-append_left, Contains-append_right, Contains-append_cases}
use Rattle.cfi_flow.specs.declared.links.Link.{Link}
use Rattle.cfi_flow.proofs.Members.{member_first, member_later, no_member, member_cases}
use Rattle.cfi_flow.proofs.RowLemmas.{make_link}
use Rattle.cfi_flow.proofs.TaggedLemmas.{more_path}
use Rattle.cfi_type_table.specs.Node.{Node, node_of}
use Rattle.cfi_type_table.specs.Spelling.{AreTypes}
use Rattle.cfi_types.specs.Classes.{table_of, class_of, IsNodePlace, AreClasses}
use Rattle.cfi_fits.specs.Fits.{VariadicFits}
use Rattle.cfi_fits.specs.Widening.{IsWider}
use Rattle.cfi_fits.proofs.FitsLemmas.{exactly}
use Rattle.cfi_fits.proofs.TypeLemmas.{IsWholePlace}
use Rattle.cfi_aux.specs.declared.placed.Placed.{Placed}
use Rattle.cfi_graph.specs.KeptGraph.{LeadToWider}
use Rattle.cfi_graph.specs.Reading.{tables_of}
use Rattle.cfi_graph.specs.inner.KeptGraph.{AreMoreWider}
use Rattle.cfi_graph.proofs.WideningLemmas.{AreExact}

-- ---- types of modules

types_at : (ms : List Placed) (t : ℕ) → All (λ m. AreTypes m.types) ms → t < length (tables_of ms)
    → AreTypes (table_of (tables_of ms) t)
types_at [] t all within = absurd (omega (arith, within))
types_at (m ∷ ms) zero all within = all 0 m (omega arith)
types_at (m ∷ ms) (suc t) all within =
    types_at ms t (λ k d low. all (suc k) d (omega (arith, low))) (omega (arith, within))

holds_at : (P : Node → Type 0) (xs : List Node) (a : ℕ) → AllByRecursion P xs → a < length xs → P (node_of xs a)
holds_at P [] a all within = absurd (omega (arith, within))
holds_at P (x ∷ xs) zero all within = all.0
holds_at P (x ∷ xs) (suc a) all within = holds_at P xs a all.1 (omega (arith, within))

-- links that lead to all wider classes lead from each to exactly those that it fits
pub lead_exact : (ms : List Placed) (classes : List (List ℕ)) (links : List Link) → All (λ m. AreTypes m.types) ms
    → AreClasses (tables_of ms) classes → LeadToWider (tables_of ms) classes links → AreExact (tables_of ms) classes links
lead_exact ms classes links types are lead =
    let names : (t a : ℕ) → IsNodePlace (tables_of ms) t a → IsWholePlace (tables_of ms) t a = λ t a place.
    let table = types_at ms t types place.0 in
    record { place = place; names = holds_at _ (table_of (tables_of ms) t) a table.names place.1 } in
    record {
      lead = lead;
      exact = λ t a u b here there callable.
          exactly (tables_of ms) classes are (λ v c place is. names v c place) links lead.sound lead.whole t a u b here
          there callable;
    }

-- ---- links that are in a list, or not

link_is_or_not : (links : List Link) (link : Link) → Contains links link ⊎ (Contains links link → ⊥)
link_is_or_not [] link = inr (λ has. no_member link has)
link_is_or_not (l ∷ links) link =
    elim (link_is_or_not links link) [
      | inl has ↦ inl (member_later l links link has)
      | inr missing ↦ elim (cases_eq l.from link.from) [
        | inr begins ↦ inr (λ has. elim (member_cases l links link has) [
          | inl same ↦ begins (ap (λ k. k.from) same)
          | inr rest ↦ missing rest
        ])
        | inl from ↦ elim (cases_eq l.to link.to) [
          | inr ends ↦ inr (λ has. elim (member_cases l links link has) [
            | inl same ↦ ends (ap (λ k. k.to) same)
            | inr rest ↦ missing rest
          ])
          | inl to ↦
              let same : l ≡ link = ap (λ n. make_link n l.to) from ∙ ap (λ n. make_link link.from n) to in
              inl (subst (λ k. Contains (l ∷ links) k) same (member_first l links))
        ]
      ]
    ]

-- ---- one table more

module _ (tables : List (List Node)) (table : List Node) (classes more : List (List ℕ))
    (same : (t : ℕ) → t < length tables → (a : ℕ) → class_of classes t a ≡ class_of more t a) where
  table_first : (t : ℕ) → t < length tables → table_of (tables ++ table ∷ []) t ≡ table_of tables t
  table_first t within = get_or_append_left tables (table ∷ []) [] t within

  place_on : (t a : ℕ) → IsNodePlace tables t a → IsNodePlace (tables ++ table ∷ []) t a
  place_on t a place =
      let long = length-append tables (table ∷ []) in
      let within : t < length tables = place.0 in
      (omega (arith, within, long), subst (λ xs. a < length xs) (sym (table_first t within)) place.1)

  wider_on : (from to t a u b : ℕ) → IsWider tables classes from to t a u b
      → IsWider (tables ++ table ∷ []) more from to t a u b
  wider_on from to t a u b is = record {
    here = place_on t a is.here;
    there = place_on u b is.there;
    wider = sym (same t is.here.0 a) ∙ is.wider;
    narrower = sym (same u is.there.0 b) ∙ is.narrower;
    fits = subst (λ xs. VariadicFits xs a (table_of (tables ++ table ∷ []) u) b) (sym (table_first t is.here.0))
        (subst (λ ys. VariadicFits (table_of tables t) a ys b) (sym (table_first u is.there.0)) is.fits);
  }

  -- the known links and those of all that are none of them
  pub lead_more : (known others : List Link) → LeadToWider tables classes known
      → AreMoreWider (tables ++ table ∷ []) more known others → LeadToWider (tables ++ table ∷ []) more (known ++ others)
  lead_more known others lead is = record {
    sound = λ from to has. elim (Contains-append_cases known others (make_link from to) has) [
      | inl old ↦
          let s = lead.sound from to old in
          (s.0, s.1, s.2, s.3, wider_on from to s.0 s.1 s.2 s.3 s.4)
      | inr new ↦ is.wide.sound from to (is.are.sound (make_link from to) new).0
    ];
    whole = λ t a u b here there fits.
        let path = is.wide.whole t a u b here there fits in (
          path.0,
          more_path is.all (known ++ others) (λ from to has. elim (link_is_or_not known (make_link from to)) [
            | inl old ↦ Contains-append_left known others (make_link from to) old
            | inr new ↦
                Contains-append_right known others (make_link from to) (is.are.whole (make_link from to) has new)
          ]) path.0 (class_of more u b) (class_of more t a) path.1,
        );
  }
