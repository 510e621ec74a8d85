-- The first nodes of keys, and what one more node leaves.
use Rattle.std.proofs.Common.{◌≡◌, ◌≢◌, ℕ, ◌+◌, ◌<◌, List, Option, Some, None, refl, sym, ap, subst, ◌∙◌, arith, inl, inr}
use Rattle.std.specs.Prelude.{unwrap_or, ◌⊎◌}
use Rattle.std.specs.Str.{bytes_eq}
use Rattle.std.proofs.lemmas.Bool.{cases_Bool, cases_lt, false≢true}
use Rattle.std.proofs.lemmas.Slice.Eq.{bytes_eq-Decides}
use Rattle.cfi_types.specs.inner.Leader.{PutsFirst}
use Rattle.cfi_types.specs.inner.Splitting.{IsFirstOfKey}

-- o is the first node below i that has the key q, if one has
abbrev pub IsFirstBelow : (key : ℕ → List ℕ) → (i : ℕ) → (q : List ℕ) → Option ℕ → Type 0
IsFirstBelow key i q None = (l : ℕ) → l < i → key l ≢ q
IsFirstBelow key i q (Some m) = (m < i) × (key m ≡ q) × ((l : ℕ) → l < m → key l ≢ q)

-- f has the first node below i of each key
pub record AreFirsts (key : ℕ → List ℕ) (i : ℕ) (f : List ℕ → Option ℕ) : Type 0 where
  pub each : (q : List ℕ) → IsFirstBelow key i q (f q)

pub same_or_not : (p q : List ℕ) → (p ≡ q) ⊎ (p ≢ q)
same_or_not p q =
    elim (cases_Bool (bytes_eq p q)) [
      | inl agree ↦ inl ((bytes_eq-Decides p q).0 agree)
      | inr differ ↦ inr (λ e. false≢true (sym differ ∙ (bytes_eq-Decides p q).1 e))
    ]

least_by : (key : ℕ → List ℕ) (i m : ℕ) (o : Option ℕ) → IsFirstBelow key i (key i) o → m ≡ unwrap_or o i
    → IsFirstOfKey key i m
least_by key i m None h e = subst (IsFirstOfKey key i) (sym e) (record { within = omega arith; alike = refl; least = h })
least_by key i m (Some n) h e =
    subst (IsFirstOfKey key i) (sym e) (record { within = omega (arith, h.0); alike = h.1; least = h.2 })

-- what is found for node i is the least node of its key
pub least_found : (key : ℕ → List ℕ) (i : ℕ) (f g : List ℕ → Option ℕ) (m : ℕ) → AreFirsts key i f
    → PutsFirst f g (key i) i m → IsFirstOfKey key i m
least_found key i f g m firsts puts = least_by key i m (f (key i)) (firsts.each (key i)) puts.first

stays_first : (key : ℕ → List ℕ) (i : ℕ) (q : List ℕ) (o : Option ℕ) → q ≢ key i → IsFirstBelow key i q o
    → IsFirstBelow key (i + 1) q o
stays_first key i q None differ h = λ l below.
    elim (cases_lt l i) [
      | inl lt ↦ h l lt
      | inr le ↦ let here : l ≡ i = omega arith in λ e. differ (sym e ∙ ap key here)
    ]
stays_first key i q (Some m) differ h = (omega (arith, h.0), h.1, h.2)

comes_first : (key : ℕ → List ℕ) (i m : ℕ) → IsFirstOfKey key i m → IsFirstBelow key (i + 1) (key i) (Some m)
comes_first key i m least = (omega (arith, least.within), least.alike, λ l lt. least.least l lt)

pub more_firsts : (key : ℕ → List ℕ) (i : ℕ) (f g : List ℕ → Option ℕ) (m : ℕ) → AreFirsts key i f
    → PutsFirst f g (key i) i m → AreFirsts key (i + 1) g
more_firsts key i f g m firsts puts = record {
  each = λ q. elim (same_or_not q (key i)) [
    | inl same ↦ subst (λ p. IsFirstBelow key (i + 1) p (g p)) (sym same)
        (subst (IsFirstBelow key (i + 1) (key i)) (sym puts.here)
        (comes_first key i m (least_found key i f g m firsts puts)))
    | inr differ ↦ subst (IsFirstBelow key (i + 1) q) (sym (puts.others q differ))
        (stays_first key i q (f q) differ (firsts.each q))
  ];
}

pub no_firsts : (key : ℕ → List ℕ) (f : List ℕ → Option ℕ) → ((q : List ℕ) → f q ≡ None) → AreFirsts key 0 f
no_firsts key f none = record { each = λ q. subst (IsFirstBelow key 0 q) (sym (none q)) (λ l lt. absurd (omega arith)) }
