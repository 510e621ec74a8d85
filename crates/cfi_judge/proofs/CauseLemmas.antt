-- The causes that a log tells, entry by entry and module by module.
use Rattle.std.proofs.Common.{◌≡◌, ℕ, ◌+◌, ◌<◌, ◌≤◌, Bool, true, List, [], ◌∷◌, length, take, get_or, Some, ◌⊎◌, inl, inr, refl, sym, ap, subst, ◌∙◌, ⊎_elim, arith}
use Rattle.std.specs.Prelude.{◌↔◌, IsTrue, count_by, filter}
use Rattle.std.specs.List.{slice_get}
use Rattle.std.proofs.lemmas.Bool.{and_parts, eqb-true}
use Rattle.std.proofs.lemmas.List.Sums.{fold_more, length-filter}
use Rattle.std.proofs.lemmas.Option.{slice_get_within}
use Rattle.cfi_model.specs.Log.{last_policy, policy_after}
use Rattle.cfi_unit.specs.declared.log.Log.{Log}
use Rattle.cfi_unit.specs.declared.log.Log.TheVariants.{Pick, Open, Cause}
use Rattle.cfi_valid.specs.declared.causes.TheConstants.{VERSIONS_SPENT}
use Rattle.cfi_valid.specs.Course.{Course}
use Rattle.cfi_valid.specs.Log.{IsCaused, is_too_old, Why, why_of, NoModule, ModulesFull, NotPlaced, NotVerified, VersionsSpent, EpochsSpent, NoFunction, Retired, Unlogged}
use Rattle.cfi_judge.specs.inner.Causes.{AreVersionsTold, HasCauseApart, HasCauses, HasCausesApart, IsCausedApart}
use Rattle.cfi_judge.proofs.LogLemmas.{passed}

-- the last policy, with an entry more
pub last_more : (log : List Log) (at : ℕ) (d : Log) → at < length log
    → last_policy (take (at + 1) log) ≡ policy_after (last_policy (take at log)) (get_or log at d)
last_more log at d within = fold_more policy_after 0 log at d within

-- ---- spent versions

-- an entry that tells of them
tells_of : (number : ℕ) (entry : Log) → is_too_old number entry ≡ true → entry ≡ Cause number VERSIONS_SPENT
tells_of number (Pick policy count) is = absurd (cc)
tells_of number (Open asked address policy) is = absurd (cc)
tells_of number (Cause asked cause) is =
    let both = and_parts _ _ is in
    let same_number : asked ≡ number = eqb-true asked number both.0 in
    let same_cause : cause ≡ VERSIONS_SPENT = eqb-true cause VERSIONS_SPENT both.1 in
    ap (λ (n : ℕ). Cause n cause) same_number ∙ ap (Cause number) same_cause

-- a log tells of none, or one of its entries does
some_tells : (number : ℕ) (log : List Log) → (count_by (is_too_old number) log ≡ 0)
    ⊎ ((at : ℕ) × (slice_get log at ≡ Some (Cause number VERSIONS_SPENT)))
some_tells number log = by_kept (filter (is_too_old number) log) refl
  where
    by_kept : (kept : List Log) → filter (is_too_old number) log ≡ kept → (count_by (is_too_old number) log ≡ 0)
        ⊎ ((at : ℕ) × (slice_get log at ≡ Some (Cause number VERSIONS_SPENT)))
    by_kept [] none =
        inl (sym (length-filter (is_too_old number) log) ∙ ap (λ (es : List Log). length es) none)
    by_kept (entry ∷ rest) some =
        let there = passed (is_too_old number) log entry 0 (ap (λ (es : List Log). slice_get es 0) some) in
        inr (there.0, there.1 ∙ ap (λ (e : Log). Some e) (tells_of number entry there.2))

module _ (c : Course) (guest : ℕ) (log : List Log) where
  -- ---- all causes

  apart : (at number : ℕ) (why : Why) → IsCaused c guest log at number why → IsCausedApart c guest log at number why
  apart at number NoModule is = is
  apart at number ModulesFull is = is
  apart at number NotPlaced is = is
  apart at number NotVerified is = is
  apart at number VersionsSpent is = inr is
  apart at number EpochsSpent is = is
  apart at number NoFunction is = is
  apart at number Retired is = is
  apart at number Unlogged is = is

  pub all_apart : HasCauses c guest log → HasCausesApart c guest log
  all_apart all at number cause is = apart at number (why_of cause) (all at number cause is)

  pub versions_told : HasCauses c guest log → AreVersionsTold c guest log
  versions_told all number known = ⊎_elim
      (λ (none : count_by (is_too_old number) log ≡ 0). omega (arith, none))
      (λ (some : (at : ℕ) × (slice_get log at ≡ Some (Cause number VERSIONS_SPENT))).
      all some.0 number VERSIONS_SPENT some.1)
      (some_tells number log)

  module _ (told : AreVersionsTold c guest log) where
    whole : (at number : ℕ) (why : Why) → IsCausedApart c guest log at number why → IsCaused c guest log at number why
    whole at number NoModule is = is
    whole at number ModulesFull is = is
    whole at number NotPlaced is = is
    whole at number NotVerified is = is
    whole at number VersionsSpent (inl known) = told number known
    whole at number VersionsSpent (inr is) = is
    whole at number EpochsSpent is = is
    whole at number NoFunction is = is
    whole at number Retired is = is
    whole at number Unlogged is = is

    pub all_whole : HasCausesApart c guest log → HasCauses c guest log
    all_whole each at number cause is = whole at number (why_of cause) (each at number cause is)

  -- ---- entries, one by one

  pub cause_meant : (at number cause : ℕ) (why : Why) → why ≡ why_of cause → (answer : Bool)
      → (IsTrue answer ↔ IsCausedApart c guest log at number why)
      → IsTrue answer ↔ IsCausedApart c guest log at number (why_of cause)
  cause_meant at number cause why same answer exact =
      subst (λ (w : Why). IsTrue answer ↔ IsCausedApart c guest log at number w) same exact

  pub cause_told : (at number cause : ℕ) → slice_get log at ≡ Some (Cause number cause) → (answer : Bool)
      → (IsTrue answer ↔ IsCausedApart c guest log at number (why_of cause))
      → IsTrue answer ↔ HasCauseApart c guest log at
  cause_told at number cause is answer exact = (
    λ yes n w there.
        let both : Some (Cause number cause) ≡ Some (Cause n w) = sym is ∙ there in
        let same_n : number ≡ n = cc in
        let same_w : cause ≡ w = cc in
        subst (λ (k : ℕ). IsCausedApart c guest log at k (why_of w)) same_n
        (subst (λ (k : ℕ). IsCausedApart c guest log at number (why_of k)) same_w (exact.0 yes)),
    λ has. exact.1 (has number cause is),
  )

  pub causes_all : (at : ℕ) → length log ≤ at → ((k : ℕ) → k < at → HasCauseApart c guest log k)
      → HasCausesApart c guest log
  causes_all at all below k number cause is =
      below k (omega (arith, all, slice_get_within log k (Cause number cause) is)) number cause is
