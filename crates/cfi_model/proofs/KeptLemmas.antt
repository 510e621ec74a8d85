-- Which Bary word is kept after a load, and the tries of a fair list.
use Rattle.std.proofs.Common.{◌≡◌, ◌≢◌, ℕ, zero, suc, ◌<◌, ◌≤◌, ◌==◌, nat_le, cond, true, false, List, [], ◌∷◌, slice_get, Option, Some, None, sym, ◌∙◌, ap, subst, arith}
use Rattle.std.proofs.lemmas.Bool.Decides.{nat_tests}
use Rattle.cfi_word.specs.Table.{IsCode, IsTary, IsBary, bary_word}
use Rattle.cfi_word.specs.declared.layout.TheConstants.{EPOCH, FIRST_CODE}
use Rattle.cfi_model.specs.declared.history.Access.{Access}
use Rattle.cfi_model.specs.Accesses.{kept_by, AreFair}
use Rattle.cfi_model.specs.History.{History, IsFair}
use Rattle.cfi_model.specs.Tries.{Loads, IsTry}

-- a word that is not EPOCH
pub not_epoch : (word : ℕ) → FIRST_CODE ≤ word → (word == EPOCH) ≡ false
not_epoch word least = grind (arith, nat_tests)

pub is_epoch : (word : ℕ) → word ≡ EPOCH → (word == EPOCH) ≡ true
is_epoch word is = grind (arith, nat_tests)

pub not_bary : (c word : ℕ) → word < bary_word c 0 → nat_le (bary_word c 0) word ≡ false
not_bary c word less = grind (arith, nat_tests)

pub is_bary : (c word : ℕ) → bary_word c 0 ≤ word → nat_le (bary_word c 0) word ≡ true
is_bary c word least = grind (arith, nat_tests)

pub same_test : (a b : ℕ) → a ≡ b → (a == b) ≡ true
same_test a b same = grind (arith, nat_tests)

pub other_test : (a b : ℕ) → a ≢ b → (a == b) ≡ false
other_test a b other = grind (arith, nat_tests)

pub some_same : (x y : Access) → Some x ≡ Some y → x ≡ y
some_same x y e = cc

pub nothing : (k : ℕ) (x : Access) → slice_get [] k ≡ Some x → ⊥
nothing k x e = absurd (cc)

-- what is kept after an access
pub kept_same : (c : ℕ) (kept : Option ℕ) (access : Access) → FIRST_CODE ≤ access.word → access.word < bary_word c 0
    → kept_by c kept access ≡ kept
kept_same c kept access least less =
    ap (λ b. cond b None (cond (nat_le (bary_word c 0) access.word) (Some access.found) kept))
    (not_epoch access.word least)
    ∙ ap (λ b. cond b (Some access.found) kept) (not_bary c access.word less)

pub kept_new : (c : ℕ) (kept : Option ℕ) (access : Access) → bary_word c 0 ≤ access.word
    → kept_by c kept access ≡ Some access.found
kept_new c kept access least =
    ap (λ b. cond b None (cond (nat_le (bary_word c 0) access.word) (Some access.found) kept))
    (not_epoch access.word (omega (arith, least)))
    ∙ ap (λ b. cond b (Some access.found) kept) (is_bary c access.word least)

-- the tries of a fair list
module _ (h : History) (c : ℕ) where
  fair_until : (accesses : List Access) (kept : Option ℕ) → AreFair h c kept accesses → (to : ℕ)
      → (tary : Loads (IsTary c) accesses to) → ((number : ℕ) → number < to → Loads (IsCode c) accesses number)
      → IsFair h kept tary.access.found
  fair_until [] kept fair to tary between = absurd (nothing to tary.access tary.is)
  fair_until (access ∷ later) kept fair zero tary between =
      let same : access ≡ tary.access = some_same access tary.access tary.is in
      subst (λ a. IsFair h kept a.found) same
      (fair.0 (subst (λ a. IsTary c a.word) (sym same) tary.inside))
  fair_until (access ∷ later) kept fair (suc to) tary between =
      let first = between 0 (omega arith) in
      let same : access ≡ first.access = some_same access first.access first.is in
      let code : IsCode c access.word = subst (λ a. IsCode c a.word) (sym same) first.inside in
      let kept_is = kept_same c kept access code.0 (omega (arith, code.1)) in
      fair_until later kept (subst (λ k. AreFair h c k later) kept_is fair.1) to
      (record { access = tary.access; is = tary.is; inside = tary.inside })
      (λ number less.
      (let next = between (suc number) (omega (arith, less)) in
      record { access = next.access; is = next.is; inside = next.inside }))

  fair_from : (accesses : List Access) (kept : Option ℕ) → AreFair h c kept accesses → (from to : ℕ)
      → (bary : Loads (IsBary c) accesses from) → (tary : Loads (IsTary c) accesses to) → from < to
      → ((number : ℕ) → from < number → number < to → Loads (IsCode c) accesses number)
      → IsFair h (Some bary.access.found) tary.access.found
  fair_from [] kept fair from to bary tary order between = absurd (nothing from bary.access bary.is)
  fair_from (access ∷ later) kept fair from zero bary tary order between = absurd (omega (arith, order))
  fair_from (access ∷ later) kept fair zero (suc to) bary tary order between =
      let same : access ≡ bary.access = some_same access bary.access bary.is in
      let slot : IsBary c access.word = subst (λ a. IsBary c a.word) (sym same) bary.inside in
      let kept_is : kept_by c kept access ≡ Some bary.access.found =
      kept_new c kept access (omega (arith, slot.0)) ∙ ap (λ a. Some a.found) same in
      fair_until later (Some bary.access.found) (subst (λ k. AreFair h c k later) kept_is fair.1) to
      (record { access = tary.access; is = tary.is; inside = tary.inside })
      (λ number less.
      (let next = between (suc number) (omega arith) (omega (arith, less)) in
      record { access = next.access; is = next.is; inside = next.inside }))
  fair_from (access ∷ later) kept fair (suc from) (suc to) bary tary order between =
      fair_from later (kept_by c kept access) fair.1 from to
      (record { access = bary.access; is = bary.is; inside = bary.inside })
      (record { access = tary.access; is = tary.is; inside = tary.inside }) (omega (arith, order))
      (λ number after less.
      (let next = between (suc number) (omega (arith, after)) (omega (arith, less)) in
      record { access = next.access; is = next.is; inside = next.inside }))

pub tries_fair : (h : History) (code_words : ℕ) (accesses : List Access) → AreFair h code_words None accesses
    → (from to : ℕ) (try : IsTry code_words accesses from to)
    → IsFair h (Some try.bary.access.found) try.tary.access.found
tries_fair h code_words accesses fair from to try =
    fair_from h code_words accesses None fair from to try.bary try.tary try.order try.between
