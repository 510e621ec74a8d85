-- The map of first nodes after one more key.
use Rattle.std.proofs.Common.{◌≡◌, ◌≢◌, ℕ, ◌<◌, Bool, true, false, List, [], ◌∷◌, length, Option, Some, None, refl, sym, ap, ◌∙◌, arith, inl, inr}
use Rattle.std.specs.Prelude.{unwrap_or}
use Rattle.std.specs.Global.{Vec}
use Rattle.std.specs.Ordering.{is_eq, nat_cmp}
use Rattle.std.specs.Cmp.{eq_by_cmp_equiv}
use Rattle.std.specs.Cmp.Lexicographic.{slice_cmp, nat_list_cmp_total}
use Rattle.std.specs.BTreeMap.{BTreeMap, get_by, UpdatesBy}
use Rattle.std.specs.Map.{lookup, KeepsOthers, IsKeyTest, AreApart}
use Rattle.std.proofs.lemmas.Bool.{cases_Bool}
use Rattle.std.proofs.lemmas.Slice.Eq.{bytes_eq-Decides}
use Rattle.std.proofs.lemmas.Map.Text.{is_eq-slice_cmp}
use Rattle.cfi_types.specs.declared.leader.Firsts.{Firsts}
use Rattle.cfi_types.specs.inner.Leader.{first_of, PutsFirst}

keeps_others : {K X : Type 0} (eq : K → K → Bool) (test : K → Bool) (old new : List (K × X))
    → KeepsOthers eq test old new → (other : K → Bool) → IsKeyTest eq other → AreApart test other
    → lookup other new ≡ lookup other old
unfolding KeepsOthers
keeps_others eq test old new h = h

-- lists that compare as equal are one list
apart : (key q ks : List ℕ) → q ≢ key → is_eq (slice_cmp nat_cmp key ks) ≡ true → is_eq (slice_cmp nat_cmp q ks) ≡ false
apart key q ks differ at =
    elim (cases_Bool (is_eq (slice_cmp nat_cmp q ks))) [
      | inl both ↦ absurd (differ (exact q ks both ∙ sym (exact key ks at)))
      | inr differs ↦ differs
    ]
  where
    exact : (xs ys : List ℕ) → is_eq (slice_cmp nat_cmp xs ys) ≡ true → xs ≡ ys
    exact xs ys e = (bytes_eq-Decides xs ys).0 (sym (is_eq-slice_cmp xs ys) ∙ e)

signed_at : (firsts : Firsts) (q : List ℕ) → 1 < length q
    → first_of firsts q ≡ get_by (λ k. slice_cmp nat_cmp q k.items) firsts.signed
signed_at firsts [] long = absurd (omega arith)
signed_at firsts (a ∷ []) long = absurd (omega arith)
signed_at firsts (a ∷ b ∷ q) long = refl

other_key : (old : Firsts) (m : BTreeMap (Vec ℕ) ℕ) (key : Vec ℕ) (w : Option ℕ)
    → UpdatesBy (λ (x y : Vec ℕ). slice_cmp nat_cmp x.items y.items) (λ k. slice_cmp nat_cmp key.items k.items)
    old.signed m w
    → (q : List ℕ) → q ≢ key.items → first_of (record old { signed = m }) q ≡ first_of old q
other_key old m key w h [] differ = refl
other_key old m key w h (a ∷ []) differ = refl
other_key old m key w h (a ∷ b ∷ q) differ =
    keeps_others _ _ old.signed.entries m.entries h.3 (λ k. is_eq (slice_cmp nat_cmp (a ∷ b ∷ q) k.items))
    (λ x y. (eq_by_cmp_equiv nat_list_cmp_total).congr (a ∷ b ∷ q) x.items y.items)
    (λ k at. apart key.items (a ∷ b ∷ q) k.items differ at)

-- a key that had none has the node now
pub puts_signed : (old : Firsts) (m : BTreeMap (Vec ℕ) ℕ) (key : Vec ℕ) (node : ℕ) → 1 < length key.items
    → get_by (λ k. slice_cmp nat_cmp key.items k.items) old.signed ≡ None
    → UpdatesBy (λ (x y : Vec ℕ). slice_cmp nat_cmp x.items y.items) (λ k. slice_cmp nat_cmp key.items k.items)
    old.signed m (Some node)
    → PutsFirst (first_of old) (first_of (record old { signed = m })) key.items node node
puts_signed old m key node long absent h = record {
  first = sym (ap (λ (o : Option ℕ). unwrap_or o node) (signed_at old key.items long ∙ absent));
  here = signed_at (record old { signed = m }) key.items long ∙ h.1;
  others = λ q differ. other_key old m key (Some node) h q differ;
}
