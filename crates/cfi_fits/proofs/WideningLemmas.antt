-- The links of nearest wider ones are widenings.
use Rattle.std.proofs.Common.{Result, Ok, Err, Vec, Global, ◌≡◌, ◌∙◌, ℕ, zero, suc, ◌<◌, ◌≤◌, Bool, true, false, List, [], ◌∷◌, length, get_or, Option, Some, None, refl, sym, ap, subst, inl, inr, arith}
use Rattle.std.specs.Prelude.{IfOk}
use Rattle.std.specs.declared.alloc.AllocError.{AllocError}
use Rattle.std.specs.List.{Contains}
use Rattle.std.proofs.lemmas.Bool.{cases_lt}
use Rattle.std.proofs.lemmas.List.{get_or_read, get_or_default}
use Rattle.std.proofs.lemmas.List.Elements.{All-get_or}
use Rattle.cfi_type_table.specs.declared.kind.TheConstants.{VARFUNC}
use Rattle.cfi_type_table.specs.Node.{Node}
use Rattle.cfi_types.specs.Classes.{table_of, class_of, IsNodePlace, AreClasses}
use Rattle.cfi_flow.specs.declared.links.Link.{Link}
use Rattle.cfi_flow.specs.Flow.{Reaches}
use Rattle.cfi_fits.specs.declared.signature.Signature.{Signature}
use Rattle.cfi_fits.specs.Fits.{IsCallable, VariadicFits}
use Rattle.cfi_fits.specs.Widening.{IsWider, AreWidenings}
use Rattle.cfi_fits.specs.inner.Prefix.{IsPrefix}
use Rattle.cfi_fits.specs.inner.Signatures.{kind_of, IsSignature, IsSomeones, AreGathered, Precedes, AreInOrder, Widens}
use Rattle.cfi_fits.specs.inner.Nearest.{IsNearest, AreNearest, IsLinked, AreLinksOf}
use Rattle.cfi_fits.proofs.PrefixLemmas.{same_prefix}
use Rattle.cfi_fits.proofs.TypeLemmas.{node_at, key_at, IsWholePlace, keys_from_fits, fits_from_keys, same_class}
use Rattle.cfi_fits.proofs.FitsLemmas.{AreSound, AreWhole, exactly}
use Rattle.cfi_fits.proofs.GatheringLemmas.{count_all}
use Rattle.cfi_fits.proofs.NearestLemmas.{widens_between}

-- ---- signatures of places

-- a list in which a place is has a signature
some_of : (signatures : List Signature) (k : ℕ) → k < length signatures → Signature
some_of [] k lt = absurd (omega (arith, lt))
some_of (s ∷ signatures) k lt = s

-- a place with a signature names nodes that are there
whole_place : (tables : List (List Node)) (classes : List (List ℕ)) (t a : ℕ) (s : Signature)
    → IsSignature tables classes t a s → IsWholePlace tables t a
whole_place tables classes t a s is = record { place = is.place; names = is.names }

-- a signature of a kind with variable arguments has them
fixed_cases : (fixed : Bool) (kind : ℕ) → kind ≡ kind_of fixed → kind ≡ VARFUNC → fixed ≡ false
fixed_cases true kind is varied = absurd (omega (arith, is, varied))
fixed_cases false kind is varied = refl

-- the kind of a signature is a function's
callable_kind : (fixed : Bool) (kind : ℕ) → kind ≡ kind_of fixed → IsCallable kind
callable_kind true kind is = inl is
callable_kind false kind is = inr is

module _ (tables : List (List Node)) (classes : List (List ℕ)) (are : AreClasses tables classes) where
  -- what fits by types widens by signatures
  fits_widens : (t a u b : ℕ) (r s : Signature) → IsSignature tables classes t a r → IsSignature tables classes u b s
      → VariadicFits (table_of tables t) a (table_of tables u) b → Widens r s
  fits_widens t a u b r s one other fits =
      let keys = keys_from_fits tables classes are t a u b (whole_place tables classes t a r one)
      (whole_place tables classes u b s other) fits in (
        fixed_cases r.fixed (node_at tables t a).kind one.made.kind fits.variadic,
        subst (λ k. IsPrefix k s.key.items) (sym one.made.key)
            (subst (λ k. IsPrefix (key_at tables classes t a) k) (sym other.made.key) keys.begins),
      )

  -- and the other way round
  widens_fits : (t a u b : ℕ) (r s : Signature) → IsSignature tables classes t a r → IsSignature tables classes u b s
      → Widens r s → VariadicFits (table_of tables t) a (table_of tables u) b
  widens_fits t a u b r s one other widens =
      fits_from_keys tables classes are t a u b (whole_place tables classes t a r one)
      (whole_place tables classes u b s other) (record {
        variadic = one.made.kind ∙ ap kind_of widens.0;
        callable = callable_kind s.fixed (node_at tables u b).kind other.made.kind;
        begins = subst (λ k. IsPrefix k (key_at tables classes u b)) one.made.key
            (subst (λ k. IsPrefix r.key.items k) other.made.key widens.1);
      })

  -- signatures with variable arguments and one key are of one class
  twins_class : (t a u b : ℕ) (r s : Signature) → IsSignature tables classes t a r → IsSignature tables classes u b s
      → r.fixed ≡ false → s.fixed ≡ false → r.key.items ≡ s.key.items → class_of classes t a ≡ class_of classes u b
  twins_class t a u b r s one other r_varied s_varied same =
      same_class tables classes are t a u b (whole_place tables classes t a r one)
      (whole_place tables classes u b s other) (one.made.kind ∙ ap kind_of r_varied)
      (other.made.kind ∙ ap kind_of s_varied) (sym one.made.key ∙ same ∙ other.made.key)

  -- ---- all of it

  module _ (signatures : List Signature) (all : AreGathered tables classes (length tables) 0 signatures)
      (order : AreInOrder signatures) (nearest : List (Option ℕ))
      (near : AreNearest signatures nearest (length signatures)) (links : List Link)
      (made : AreLinksOf signatures nearest (length signatures) links) where
    -- the class of a place
    class_at : ℕ → Signature → ℕ
    class_at k d = (get_or signatures k d).class

    -- one link is taken, and then those that lead on
    leads_by : (j v : ℕ) (d : Signature) (found : Option ℕ) → get_or nearest j None ≡ found → j < length signatures
        → v < j → Widens (get_or signatures v d) (get_or signatures j d) → IsNearest signatures j found
        → ((w : ℕ) → w < j → v ≤ w → Widens (get_or signatures v d) (get_or signatures w d)
        → Reaches links (class_at w d) (class_at v d)) → Reaches links (class_at j d) (class_at v d)
    unfolding class_at
    leads_by j v d None is within before widens nearest_is rest = absurd (nearest_is.holds v d before widens)
    leads_by j v d (Some w) is within before widens nearest_is rest =
        let at_most : v ≤ w = nearest_is.holds v d before widens in
        let lower : w < j = nearest_is.before in
        let on = rest w lower at_most
        (widens_between signatures order v w j d at_most (omega (arith, lower)) within widens) in
        let linked : IsLinked signatures nearest j w (get_or signatures j d).class (get_or signatures w d).class = (
          is,
          λ e. (
            ap (λ s. s.class) (get_or_default signatures j e d within),
            ap (λ s. s.class) (get_or_default signatures w e d (omega (arith, lower, within))),
          ),
        ) in
        elim (made.whole j w (get_or signatures j d).class (get_or signatures w d).class within linked) [
          | inl same ↦ subst (λ k. Reaches links k (get_or signatures v d).class) (sym same) on
          | inr link ↦ (suc on.0, ((get_or signatures w d).class, link, on.1))
        ]

    -- the links lead from a place to each wider one before it
    leads : (fuel j v : ℕ) (d : Signature) → j < fuel → j < length signatures → v ≤ j
        → Widens (get_or signatures v d) (get_or signatures j d) → Reaches links (class_at j d) (class_at v d)
    unfolding class_at
    leads zero j v d less within low widens = absurd (omega (arith, less))
    leads (suc fuel) j v d less within low widens = elim (cases_lt v j) [
      | inl before ↦
          leads_by j v d (get_or nearest j None) refl within before widens (near.each j within) (λ w lower at_most wide.
          leads fuel w v d (omega (arith, lower, less)) (omega (arith, lower, within)) at_most wide)
      | inr last ↦
          let same : j ≡ v = omega (arith, low, last) in
          (0, ap (λ k. (get_or signatures k d).class) same)
    ]

    -- a signature is reached from the class of another that it widens
    reaches : (t a u b : ℕ) (r s : Signature) → IsSignature tables classes t a r → IsSignature tables classes u b s
        → Contains signatures r → Contains signatures s → Widens r s
        → Reaches links (class_of classes u b) (class_of classes t a)
    unfolding class_at
    reaches t a u b r s one other has_r has_s widens =
        let v = has_r.0 in
        let j = has_s.0 in
        let v_in : v < length signatures = has_r.1 in
        let j_in : j < length signatures = has_s.1 in
        let at_v : r ≡ get_or signatures v s = get_or_read signatures v r v_in (sym has_r.2) s in
        let at_j : s ≡ get_or signatures j s = sym has_s.2 in
        elim (cases_lt j v) [
          | inl behind ↦
              let precede : Precedes s r =
              subst (λ x. Precedes x r) (sym at_j) (subst (λ x. Precedes (get_or signatures j s) x) (sym at_v)
              (order j v s (omega (arith, behind)) v_in)) in
              let same : r.key.items ≡ s.key.items = same_prefix r.key.items s.key.items widens.1 precede.keys in
              (0, sym (twins_class t a u b r s one other widens.0 (precede.ties (sym same) widens.0) same))
          | inr before ↦
              let wide : Widens (get_or signatures v s) (get_or signatures j s) =
              subst (λ x. Widens x (get_or signatures j s)) at_v (subst (λ x. Widens r x) at_j widens) in
              let path = leads (suc j) j v s (omega arith) j_in before wide in
              subst (λ k. Reaches links k (class_of classes t a)) (ap (λ x. x.class) (sym at_j) ∙ other.made.class)
              (subst (λ k. Reaches links (get_or signatures j s).class k)
              (ap (λ x. x.class) (sym at_v) ∙ one.made.class) path)
        ]

    -- what a link leads to is wider
    wider : (from to place w : ℕ) → place < length signatures → IsLinked signatures nearest place w from to
        → (t : ℕ) × (a : ℕ) × (u : ℕ) × (b : ℕ) × IsWider tables classes from to t a u b
    wider from to place w within linked =
        let near_is : IsNearest signatures place (Some w) =
        subst (λ o. IsNearest signatures place o) linked.0 (near.each place within) in
        let lower : w < place = near_is.before in
        let none = some_of signatures place within in
        let narrow = get_or signatures place none in
        let wide = get_or signatures w none in
        let some : IsSomeones tables classes narrow =
        All-get_or (λ s. IsSomeones tables classes s) signatures place none within all.sound in
        let other : IsSomeones tables classes wide =
        All-get_or (λ s. IsSomeones tables classes s) signatures w none (omega (arith, lower, within)) all.sound in (
          other.0,
          other.1,
          some.0,
          some.1,
          record {
            here = other.2.place;
            there = some.2.place;
            wider = sym other.2.made.class ∙ (linked.1 none).1;
            narrower = sym some.2.made.class ∙ (linked.1 none).0;
            fits = widens_fits other.0 other.1 some.0 some.1 wide narrow other.2 some.2 (near_is.wider none);
          },
        )

    -- each link leads to a wider class
    sound : AreSound tables classes links
    sound from to h =
        let had = made.sound from to h in
        wider from to had.0 had.2 had.1 had.3

    -- the links lead to all wider classes
    whole : AreWhole tables classes links
    whole t a u b here there fits =
        let r = all.whole t a here (inl here.0) (inr fits.variadic) in
        let s = all.whole u b there (inl there.0) fits.callable in
        reaches t a u b r.0 s.0 r.2 s.2 r.1 s.1 (fits_widens t a u b r.0 s.0 r.2 s.2 fits)

    -- places of functions' types name nodes that are there
    whole_places : (t a : ℕ) → IsNodePlace tables t a → IsCallable (node_at tables t a).kind → IsWholePlace tables t a
    whole_places t a here callable =
        let s = all.whole t a here (inl here.0) callable in
        whole_place tables classes t a s.0 s.2

    -- the links are widenings
    pub are_widenings : AreWidenings tables classes links
    are_widenings = record {
      sound = sound;
      whole = whole;
      exact = λ t a u b. exactly tables classes are whole_places links sound whole t a u b;
      few = omega (arith, made.few, all.few, count_all tables);
    }

-- the same of what making links returned
pub widenings_when : (tables : List (List Node)) (classes : List (List ℕ)) → AreClasses tables classes
    → (signatures : List Signature) → AreGathered tables classes (length tables) 0 signatures
    → AreInOrder signatures → (nearest : List (Option ℕ)) → AreNearest signatures nearest (length signatures)
    → (r : Result (Vec Link Global) AllocError)
    → IfOk r (λ links. AreLinksOf signatures nearest (length signatures) links.items)
    → IfOk r (λ links. AreWidenings tables classes links.items)
widenings_when tables classes are signatures all order nearest near (Ok links) made =
    are_widenings tables classes are signatures all order nearest near links.items made
widenings_when tables classes are signatures all order nearest near (Err e) made = tt
