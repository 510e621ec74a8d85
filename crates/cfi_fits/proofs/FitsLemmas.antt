-- Fitting and links: what leads to wider classes one after another leads to what fits.
use Rattle.std.proofs.Common.{◌≡◌, ◌∙◌, ℕ, zero, suc, ◌⊎◌, List, refl, sym, subst, inl, inr}
use Rattle.std.specs.Prelude.{◌↔◌}
use Rattle.cfi_type_table.specs.Node.{Node}
use Rattle.cfi_types.specs.Classes.{table_of, class_of, IsNodePlace, AreClasses}
use Rattle.cfi_flow.specs.declared.links.Link.{Link}
use Rattle.cfi_flow.specs.Flow.{Links, IsPath, Reaches}
use Rattle.cfi_fits.specs.Fits.{IsCallable, VariadicFits, Fits}
use Rattle.cfi_fits.specs.Widening.{IsWider}
use Rattle.cfi_fits.specs.inner.Prefix.{IsPrefix}
use Rattle.cfi_fits.proofs.PrefixLemmas.{prefix_itself, prefix_trans}
use Rattle.cfi_fits.proofs.TypeLemmas.{node_at, key_at, IsWholePlace, FitsByKeys, keys_from_fits, fits_from_keys, same_kind, same_key}

-- each link leads to a wider class
abbrev pub AreSound : List (List Node) → List (List ℕ) → List Link → Type 0
AreSound tables classes links = (from to : ℕ) → Links links from to
    → (t : ℕ) × (a : ℕ) × (u : ℕ) × (b : ℕ) × IsWider tables classes from to t a u b

-- the links lead to all wider classes
abbrev pub AreWhole : List (List Node) → List (List ℕ) → List Link → Type 0
AreWhole tables classes links = (t a u b : ℕ) → IsNodePlace tables t a → IsNodePlace tables u b
    → VariadicFits (table_of tables t) a (table_of tables u) b
    → Reaches links (class_of classes u b) (class_of classes t a)

-- functions of class `from` fit pointers of class `to`
abbrev AllFit : List (List Node) → List (List ℕ) → (from to : ℕ) → Type 0
AllFit tables classes from to = (t a u b : ℕ) → IsNodePlace tables t a → IsNodePlace tables u b
    → class_of classes t a ≡ to → class_of classes u b ≡ from → FitsByKeys tables classes t a u b

-- what fits a type that fits another fits this one
fits_trans : (tables : List (List Node)) (classes : List (List ℕ)) (t a v c u b : ℕ)
    → FitsByKeys tables classes t a v c → FitsByKeys tables classes v c u b → FitsByKeys tables classes t a u b
fits_trans tables classes t a v c u b p q = record {
  variadic = p.variadic;
  callable = q.callable;
  begins = prefix_trans (key_at tables classes t a) (key_at tables classes v c) (key_at tables classes u b) p.begins
      q.begins;
}

module _ (tables : List (List Node)) (classes : List (List ℕ)) (are : AreClasses tables classes)
    (names : (t a : ℕ) → IsNodePlace tables t a → IsCallable (node_at tables t a).kind → IsWholePlace tables t a) where
  -- fitting is told by classes
  moved : (t a u b v c w d : ℕ) → IsNodePlace tables t a → IsNodePlace tables u b → IsNodePlace tables v c
      → IsNodePlace tables w d → class_of classes t a ≡ class_of classes v c
      → class_of classes u b ≡ class_of classes w d → VariadicFits (table_of tables v) c (table_of tables w) d
      → FitsByKeys tables classes t a u b
  moved t a u b v c w d p q r s one other fits =
      let wide = same_kind tables classes are t a v c p r one in
      let narrow = same_kind tables classes are u b w d q s other in
      let varied = wide ∙ fits.variadic in
      let callable = subst (λ k. IsCallable k) (sym narrow) fits.callable in
      let there = names v c r (inr fits.variadic) in
      let off = names w d s fits.callable in
      let keys = keys_from_fits tables classes are v c w d there off fits in
      record {
        variadic = varied;
        callable = callable;
        begins = subst (λ k. IsPrefix k (key_at tables classes u b))
            (sym (same_key tables classes are t a v c (names t a p (inr varied)) there one))
            (subst (λ k. IsPrefix (key_at tables classes v c) k)
            (sym (same_key tables classes are u b w d (names u b q callable) off other)) keys.begins);
      }

  module _ (links : List Link) (sound : AreSound tables classes links) where
    -- what links lead to is the same or fits
    reached : (steps from to : ℕ) → IsPath links steps from to → (from ≡ to) ⊎ AllFit tables classes from to
    reached zero from to path = inl path
    reached (suc steps) from to path =
        let next = path.0 in
        let s = sound from next path.1 in
        let is = s.4 in
        elim (reached steps next to path.2) [
          | inl same ↦ inr (λ t a u b here there is_to is_from.
              moved t a u b s.0 s.1 s.2 s.3 here there is.here is.there (is_to ∙ sym same ∙ sym is.wider)
              (is_from ∙ sym is.narrower) is.fits)
          | inr fits ↦ inr (λ t a u b here there is_to is_from.
              fits_trans tables classes t a s.0 s.1 u b (fits t a s.0 s.1 here is.here is_to is.wider)
              (moved s.0 s.1 u b s.0 s.1 s.2 s.3 is.here there is.here is.there refl (is_from ∙ sym is.narrower)
              is.fits))
        ]

    -- types of one class fit one another
    one_class : (t a u b : ℕ) → IsNodePlace tables t a → IsNodePlace tables u b → IsCallable (node_at tables t a).kind
        → class_of classes t a ≡ class_of classes u b → Fits (table_of tables t) a (table_of tables u) b
    one_class t a u b here there callable same =
        elim callable [
          | inl fixed ↦ inl (fixed, (are.equal t a u b here there).0 same)
          | inr varied ↦
              let other = sym (same_kind tables classes are t a u b here there same) ∙ varied in
              let p = names t a here (inr varied) in
              let q = names u b there (inr other) in
              inr (fits_from_keys tables classes are t a u b p q (record {
                variadic = varied;
                callable = inr other;
                begins = subst (λ k. IsPrefix (key_at tables classes t a) k)
                    (same_key tables classes are t a u b p q same)
                    (prefix_itself (key_at tables classes t a));
              }))
        ]

    -- links lead to a type's class exactly from those that fit it
    pub exactly : AreWhole tables classes links → (t a u b : ℕ) → IsNodePlace tables t a → IsNodePlace tables u b
        → IsCallable (node_at tables t a).kind
        → Fits (table_of tables t) a (table_of tables u) b ↔ Reaches links (class_of classes u b) (class_of classes t a)
    exactly whole t a u b here there callable = (
      λ fits. elim fits [
        | inl fixed ↦ (0, sym ((are.equal t a u b here there).1 fixed.1))
        | inr varied ↦ whole t a u b here there varied
      ],
      λ path. elim (reached path.0 (class_of classes u b) (class_of classes t a) path.1) [
        | inl same ↦ one_class t a u b here there callable (sym same)
        | inr fits ↦
            let keys = fits t a u b here there refl refl in
            inr (fits_from_keys tables classes are t a u b (names t a here callable)
            (names u b there keys.callable) keys)
      ],
    )
