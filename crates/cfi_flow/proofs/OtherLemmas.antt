-- What is in none of some known ones, number by number and edge by edge.
use Rattle.std.proofs.Common.{◌≡◌, ◌∙◌, ◌↔◌, ◌⊎◌, ℕ, ◌==◌, List, [], ◌∷◌, ◌++◌, length, map, refl, sym, ap, subst, inl, inr, arith, IsTrue}
use Rattle.std.specs.Prelude.{Result, Ok, Err, IfOk, slice_index_or}
use Rattle.std.specs.declared.alloc.AllocError.{AllocError}
use Rattle.std.specs.Global.{Vec}
use Rattle.std.specs.List.{Contains}
use Rattle.std.specs.List.Sorted.{IsBinarySearchResult, IsSearchInRange}
use Rattle.std.specs.Result.{is_ok}
use Rattle.std.specs.declared.cmp.Ordering.TheVariants.{Less, Equal, Greater}
use Rattle.std.specs.Ordering.{nat_cmp, ordering_then}
use Rattle.std.specs.Cmp.{nat_cmp_is}
use Rattle.std.specs.Set.{is_member}
use Rattle.std.proofs.lemmas.Bool.{cases_Bool, cases_eq, cases_lt, false≢true}
use Rattle.std.proofs.lemmas.Bool.Decides.{Decides-eqb}
use Rattle.std.proofs.lemmas.Map.Made.{is_member-Decides}
use Rattle.std.proofs.lemmas.List.Elements.{Contains-append_left, Contains-append_right, Contains-append_cases, Contains-push, Contains-push_cases}
use Rattle.cfi_word.specs.declared.lists.Edge.{Edge}
use Rattle.cfi_word.specs.Edge.{edge_of}
use Rattle.cfi_flow.specs.declared.fan.Fan.{Fan}
use Rattle.cfi_flow.specs.declared.links.Link.{Link}
use Rattle.cfi_flow.specs.Fans.{link_edge, pairs_of, IsListed}
use Rattle.cfi_flow.specs.Fresh.{AreOthers}
use Rattle.cfi_flow.specs.inner.Others.{edge_cmp, CanBeSearched, AddsOthers}
use Rattle.cfi_flow.proofs.Members.{no_member, member_map, from_map, member_flat, from_flat}
use Rattle.cfi_flow.proofs.EdgeLemmas.{listed_link, from_edge}
use Rattle.cfi_flow.proofs.OrderLemmas.{make_edge}

-- ---- a search among edges

less_equal : Less ≡ Equal → ⊥
less_equal h = cc

greater_equal : Greater ≡ Equal → ⊥
greater_equal h = cc

equal_number : (a b : ℕ) → nat_cmp a b ≡ Equal → a ≡ b
equal_number a b h =
    elim (cases_eq a b) [
      | inl e ↦ e
      | inr n ↦ elim (cases_lt a b) [
        | inl l ↦ let is : Less ≡ nat_cmp a b = nat_cmp_is a b Less l in absurd (less_equal (is ∙ h))
        | inr m ↦ let is : Greater ≡ nat_cmp a b = nat_cmp_is a b Greater (omega (arith, m, n)) in absurd (greater_equal (is ∙ h))
      ]
    ]

itself : (a : ℕ) → nat_cmp a a ≡ Equal
itself a = sym (nat_cmp_is a a Equal refl)

-- an edge is level with itself alone
level_edge : (a b : Edge) → edge_cmp a b ≡ Equal → a ≡ b
level_edge a b h =
    elim (cases_eq a.branch b.branch) [
      | inl e ↦
          let first : Equal ≡ nat_cmp a.branch b.branch = nat_cmp_is a.branch b.branch Equal e in
          let rest : nat_cmp a.target b.target ≡ Equal = ap (λ o. ordering_then o (nat_cmp a.target b.target)) first ∙ h in
          let target = equal_number a.target b.target rest in
          ap (λ n. make_edge n a.target) e ∙ ap (λ n. make_edge b.branch n) target
      | inr n ↦ elim (cases_lt a.branch b.branch) [
        | inl l ↦
            let is : Less ≡ nat_cmp a.branch b.branch = nat_cmp_is a.branch b.branch Less l in
            absurd (less_equal (ap (λ o. ordering_then o (nat_cmp a.target b.target)) is ∙ h))
        | inr m ↦
            let is : Greater ≡ nat_cmp a.branch b.branch = nat_cmp_is a.branch b.branch Greater (omega (arith, m, n)) in
            absurd (greater_equal (ap (λ o. ordering_then o (nat_cmp a.target b.target)) is ∙ h))
      ]
    ]

itself_edge : (a : Edge) → edge_cmp a a ≡ Equal
itself_edge a = ap (λ o. ordering_then o (nat_cmp a.target a.target)) (itself a.branch) ∙ itself a.target

-- what a search answers
pub edge_found : (edges : List Edge) (edge : Edge) (r : Result ℕ ℕ) → CanBeSearched edges
    → IsSearchInRange r (length edges) → IsBinarySearchResult (λ e. edge_cmp e edge) edges r
    → (IsTrue (is_ok r) → Contains edges edge) × (Contains edges edge → IsTrue (is_ok r))
edge_found edges edge (Ok k) search within found = (
  λ t. (k, within, level_edge (slice_index_or edges k edge) edge (found edge)),
  λ h. refl,
)
edge_found edges edge (Err i) search within found = (
  λ t. absurd (false≢true t),
  λ h.
      let sides = found (search edge) in
      let level : edge_cmp (slice_index_or edges h.0 edge) edge ≡ Equal =
      ap (λ e. edge_cmp e edge) h.2 ∙ itself_edge edge in
      elim (cases_lt h.0 i) [
        | inl l ↦ absurd (less_equal (sym (sides.0 h.0 edge (omega arith) l) ∙ level))
        | inr m ↦ absurd (greater_equal (sym (sides.1 h.0 edge m h.1) ∙ level))
      ],
)

-- ---- others

-- a number is in a list, or it is not
pub is_or_not : (xs : List ℕ) (x : ℕ) → Contains xs x ⊎ (Contains xs x → ⊥)
is_or_not xs x =
    let decides = is_member-Decides Decides-eqb xs x in
    elim (cases_Bool (is_member (λ a b. a == b) xs x)) [
      | inl yes_is ↦ inl (decides.0 yes_is)
      | inr not_is ↦ inr (λ h. false≢true (sym not_is ∙ decides.1 h))
    ]

pub no_others : {X : Type 0} (known : List X) → AreOthers [] known []
no_others known = record {
  sound = λ x h. absurd (no_member x h);
  whole = λ x h new. absurd (no_member x h);
}

-- the next one is known
pub known_more : {X : Type 0} (all known others : List X) (y : X) → AreOthers all known others → Contains known y
    → AreOthers (all ++ y ∷ []) known others
known_more all known others y are h = record {
  sound = λ x m. let both = are.sound x m in (Contains-append_left all (y ∷ []) x both.0, both.1);
  whole = λ x m new. elim (Contains-push_cases all y x m) [
    | inl a ↦ are.whole x a new
    | inr e ↦ absurd (new (subst (λ z. Contains known z) e h))
  ];
}

-- it is not
pub other_more : {X : Type 0} (all known others : List X) (y : X) → AreOthers all known others
    → (Contains known y → ⊥) → AreOthers (all ++ y ∷ []) known (others ++ y ∷ [])
other_more all known others y are fresh = record {
  sound = λ x m. elim (Contains-push_cases others y x m) [
    | inl a ↦ let both = are.sound x a in (Contains-append_left all (y ∷ []) x both.0, both.1)
    | inr e ↦
        (subst (λ z. Contains (all ++ y ∷ []) z) e (Contains-push all y), λ h. fresh (subst (λ z. Contains known z) (sym e) h))
  ];
  whole = λ x m new. elim (Contains-push_cases all y x m) [
    | inl a ↦ Contains-append_left others (y ∷ []) x (are.whole x a new)
    | inr e ↦ subst (λ z. Contains (others ++ y ∷ []) z) e (Contains-push others y)
  ];
}

-- known ones in another order
pub others_by : {X : Type 0} (all all' known known' others : List X) → all ≡ all'
    → ((x : X) → Contains known x ↔ Contains known' x) → AreOthers all known others → AreOthers all' known' others
others_by all all' known known' others e same are =
    subst (λ xs. AreOthers xs known' others) e (record {
      sound = λ x m. let both = are.sound x m in (both.0, λ h. both.1 ((same x).1 h));
      whole = λ x m new. are.whole x m (λ h. new ((same x).0 h));
    })

-- the same of equal lists
pub others_are : {X : Type 0} (all all' known known' others : List X) → all ≡ all' → known ≡ known'
    → AreOthers all known others → AreOthers all' known' others
others_are all all' known known' others e f are =
    subst (λ xs. AreOthers xs known' others) e (subst (λ ks. AreOthers all ks others) f are)

-- the same of the edges of links
pub edge_others : (all known others : List Link) → AreOthers all known others
    → AreOthers (map link_edge all) (map link_edge known) (map link_edge others)
edge_others all known others are = record {
  sound = λ e m.
      let found = from_map link_edge others e m in
      let both = are.sound found.0 found.1 in (
        subst (λ x. Contains (map link_edge all) x) found.2 (member_map link_edge all found.0 both.0),
        λ h. both.1 (listed_link known found.0.from found.0.to
            (subst (λ x. Contains (map link_edge known) x) (sym found.2) h)),
      );
  whole = λ e m new.
      let found = from_map link_edge all e m in
      subst (λ x. Contains (map link_edge others) x) found.2
      (member_map link_edge others found.0 (are.whole found.0 found.1
      (λ h. new (subst (λ x. Contains (map link_edge known) x) found.2 (member_map link_edge known found.0 h)))));
}

-- the same of what making edges returned
pub others_when : (all known others list : List Edge) (r : Result (Vec Edge) AllocError) → list ≡ others
    → AreOthers all known others → IfOk r (λ edges. edges.items ≡ list) → IfOk r (λ edges. AreOthers all known edges.items)
others_when all known others list (Ok v) same are is = subst (λ os. AreOthers all known os) (sym (is ∙ same)) are
others_when all known others list (Err e) same are is = is

-- ---- pairs

-- pairs of equal lists
pub pairs_is : (slots slots' targets targets' : List ℕ) → slots ≡ slots' → targets ≡ targets'
    → pairs_of slots targets ≡ pairs_of slots' targets'
pairs_is slots slots' targets targets' e f =
    ap (λ s. pairs_of s targets) e ∙ ap (λ t. pairs_of slots' t) f

pair_listed : (slots targets : List ℕ) (slot address : ℕ) → Contains slots slot → Contains targets address
    → IsListed (pairs_of slots targets) slot address
pair_listed slots targets slot address s t =
    member_flat _ slots slot (edge_of slot address) s (member_map (edge_of slot) targets address t)

listed_pair : (slots targets : List ℕ) (slot address : ℕ) → IsListed (pairs_of slots targets) slot address
    → Contains slots slot × Contains targets address
listed_pair slots targets slot address h =
    let m = from_flat _ slots (edge_of slot address) h in
    let e = from_edge targets m.0 slot address m.2 in
    (subst (λ s. Contains slots s) e.0 m.1, e.1)

-- other branches to all addresses, and all branches to other addresses
pub adds_others : (old : List Edge) (fan known : Fan) (slots targets : List ℕ)
    → AreOthers fan.slots.items known.slots.items slots → AreOthers fan.targets.items known.targets.items targets
    → AddsOthers old fan known ((old ++ pairs_of slots fan.targets.items) ++ pairs_of fan.slots.items targets)
adds_others old fan known slots targets s t =
    let one = pairs_of slots fan.targets.items in
    let two = pairs_of fan.slots.items targets in
    record {
      kept = λ slot address h.
          Contains-append_left (old ++ one) two (edge_of slot address) (Contains-append_left old one (edge_of slot address) h);
      whole = λ slot address j. elim (is_or_not known.slots.items slot) [
        | inl known_slot ↦
            Contains-append_right (old ++ one) two (edge_of slot address)
            (pair_listed fan.slots.items targets slot address j.0.0
            (t.whole address j.0.1 (λ k. j.1 (known_slot, k))))
        | inr new ↦
            Contains-append_left (old ++ one) two (edge_of slot address)
            (Contains-append_right old one (edge_of slot address)
            (pair_listed slots fan.targets.items slot address (s.whole slot j.0.0 new) j.0.1))
      ];
      only = λ slot address h. elim (Contains-append_cases (old ++ one) two (edge_of slot address) h) [
        | inl a ↦ elim (Contains-append_cases old one (edge_of slot address) a) [
          | inl b ↦ inl b
          | inr b ↦
              let both = listed_pair slots fan.targets.items slot address b in
              let other = s.sound slot both.0 in
              inr ((other.0, both.1), λ k. other.1 k.0)
        ]
        | inr a ↦
            let both = listed_pair fan.slots.items targets slot address a in
            let other = t.sound address both.1 in
            inr ((both.0, other.0), λ k. other.1 k.1)
      ];
    }
