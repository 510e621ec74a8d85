-- A log with a pick more fits: how many picks its last entry counts is nothing to it.
use Rattle.std.proofs.Common.{◌≡◌, ℕ, zero, suc, ◌+◌, ◌-◌, ◌≤◌, ◌==◌, ◌++◌, Bool, true, false, cond, List, [], ◌∷◌, length, take, drop, slice_set, Option, Some, None, refl, sym, ap, subst, ◌∙◌, arith}
use Rattle.std.specs.Prelude.{count_by}
use Rattle.std.specs.List.{slice_get, fold}
use Rattle.std.proofs.lemmas.Bool.{eqb-true}
use Rattle.std.proofs.lemmas.List.Sums.{sum_by-append, fold-append}
use Rattle.cfi_modules.specs.declared.numbers.FaultNumbers.TheVariants.{Place, Verify}
use Rattle.cfi_unit.specs.declared.log.Log.{Log}
use Rattle.cfi_unit.specs.declared.log.Log.TheVariants.{Pick, Open, Cause}
use Rattle.cfi_model.specs.Log.{last_of, is_pick_of, picks_of, picked, policy_after}
use Rattle.cfi_model.proofs.LogLemmas.{within, ends_with, set_last}
use Rattle.cfi_valid.specs.Course.{Course}
use Rattle.cfi_valid.specs.Growth.{Continues}
use Rattle.cfi_valid.specs.Joining.{IsFull, HasFault}
use Rattle.cfi_valid.specs.Loaded.{LoadedModule}
use Rattle.cfi_valid.specs.Log.{next_policy, IsInSpan, HoldsInSpan, HasNoFunction, is_versions, is_too_old, Why, NoModule, ModulesFull, NotPlaced, NotVerified, VersionsSpent, EpochsSpent, NoFunction, Retired, Unlogged, why_of, IsCaused, NeverFall, FitsCauses, IsLogged}
use Rattle.cfi_valid.specs.Retiring.{HasGone}
use Rattle.cfi_valid.proofs.EntryGrowth.{log_grows}
use Rattle.cfi_valid.proofs.LogGrowth.{log_stays}

-- ---- two logs that differ in the count of the last pick

module _ (policy count other : ℕ) where
  abbrev counting : (front : List Log) → (picks : ℕ) → List Log
  counting front picks = front ++ Pick policy picks ∷ []

  never_same : (before : ℕ) (front : List Log) → NeverFall before (counting front count)
      → NeverFall before (counting front other)
  never_same before [] never = never
  never_same before (entry ∷ front) never = (never.0, never_same (policy_after before entry) front never.1)

  take_same : (at before : ℕ) (front : List Log) → fold policy_after before (take at (counting front count))
      ≡ fold policy_after before (take at (counting front other))
  take_same zero before front = refl
  take_same (suc zero) before [] = refl
  take_same (suc (suc at)) before [] = refl
  take_same (suc at) before (entry ∷ front) = take_same at (policy_after before entry) front

  next_same : (at force : ℕ) (front : List Log) → next_policy force (drop at (counting front count))
      ≡ next_policy force (drop at (counting front other))
  next_same zero force [] = refl
  next_same zero force (Pick p n ∷ front) = refl
  next_same zero force (Open number address p ∷ front) = refl
  next_same zero force (Cause number cause ∷ front) = next_same zero force front
  next_same (suc zero) force [] = refl
  next_same (suc (suc at)) force [] = refl
  next_same (suc at) force (entry ∷ front) = next_same at force front

  open_same : (front : List Log) (at number address p : ℕ)
      → slice_get (counting front other) at ≡ Some (Open number address p)
      → slice_get (counting front count) at ≡ Some (Open number address p)
  open_same [] zero number address p is = absurd (cc)
  open_same [] (suc at) number address p is = absurd (cc)
  open_same (entry ∷ front) zero number address p is = is
  open_same (entry ∷ front) (suc at) number address p is = open_same front at number address p is

  cause_same : (front : List Log) (at number cause : ℕ)
      → slice_get (counting front other) at ≡ Some (Cause number cause)
      → slice_get (counting front count) at ≡ Some (Cause number cause)
  cause_same [] zero number cause is = absurd (cc)
  cause_same [] (suc at) number cause is = absurd (cc)
  cause_same (entry ∷ front) zero number cause is = is
  cause_same (entry ∷ front) (suc at) number cause is = cause_same front at number cause is

  module _ (front : List Log) where
    abbrev old : List Log
    old = counting front count

    abbrev new : List Log
    new = counting front other

    pub span_same : (force at p : ℕ) → IsInSpan force old at p → IsInSpan force new at p
    span_same force at p span = record {
      least = subst (λ (n : ℕ). n ≤ p) (take_same at 0 front) span.least;
      most = subst (λ (n : ℕ). p ≤ n) (next_same (at + 1) force front) span.most;
    }

    -- so one fits where the other does, as far as its causes do
    pub fits_same : (c : Course) (Before After : (at number cause : ℕ) → Type 0)
        → ((at number cause : ℕ) → Before at number cause → After at number cause) → FitsCauses c Before old
        → FitsCauses c After new
    fits_same c Before After caused fits = record {
      rises = never_same 0 front fits.rises;
      most = (
          let last = fold-append policy_after 0 front (Pick policy count ∷ []) in
          let again = fold-append policy_after 0 front (Pick policy other ∷ []) in
          omega (arith, last, again, fits.most)
          );
      opens = λ at number address p is. fits.opens at number address p (open_same front at number address p is);
      causes = λ at number cause is.
          caused at number cause (fits.causes at number cause (cause_same front at number cause is));
    }

    -- ---- the log of a run

    module _ (c : Course) (guest : ℕ) where
      holds_same : (at : ℕ) (P : (loaded live : List LoadedModule) → Type 0) → HoldsInSpan c old at P
          → HoldsInSpan c new at P
      holds_same at P holds = (holds.0, span_same c.end.policy at holds.0 holds.1, holds.2)

      counts_same : (number : ℕ) → count_by (is_too_old number) old ≡ count_by (is_too_old number) new
      counts_same number =
          let one : Log → ℕ = λ e. cond (is_too_old number e) 1 0 in
          sum_by-append one front (Pick policy count ∷ []) ∙ sym (sum_by-append one front (Pick policy other ∷ []))

      caused_same : (at number : ℕ) (why : Why) → IsCaused c guest old at number why
          → IsCaused c guest new at number why
      caused_same at number NoModule caused = caused
      caused_same at number ModulesFull caused =
          holds_same at (λ loaded live. IsFull c.modules loaded number) caused
      caused_same at number NotPlaced caused =
          holds_same at
          (λ loaded live.
          (fault : ℕ) × HasFault c.plan.code_words c.modules loaded live number (Place fault)) caused
      caused_same at number NotVerified caused =
          holds_same at
          (λ loaded live.
          (fault : ℕ) × (place : ℕ) × HasFault c.plan.code_words c.modules loaded live number (Verify fault place))
          caused
      caused_same at number VersionsSpent caused =
          subst (λ (n : ℕ). n ≤ count_by (is_versions guest number) c.journal) (counts_same number) caused
      caused_same at number EpochsSpent caused = (span_same c.end.policy at c.end.policy caused.0, caused.1, caused.2)
      caused_same at number NoFunction caused = holds_same at (λ loaded live. HasNoFunction live number) caused
      caused_same at number Retired caused = holds_same at (λ loaded live. HasGone loaded live number) caused
      caused_same at number Unlogged caused = absurd caused

      logged_same : IsLogged c guest old → IsLogged c guest new
      logged_same logged =
          fits_same c (λ at number cause. IsCaused c guest old at number (why_of cause))
          (λ at number cause. IsCaused c guest new at number (why_of cause))
          (λ at number cause caused. caused_same at number (why_of cause) caused) logged

-- ---- one pick more

-- where a log fits, and does with a pick of its own behind it, and the count of its last pick is nothing to it
module _ (Fits : List Log → Type 0) (policy : ℕ) (log : List Log) (stays : Fits log)
    (pushed : Fits (log ++ Pick policy 1 ∷ []))
    (same : (count other : ℕ) (front : List Log) → Fits (front ++ Pick policy count ∷ [])
    → Fits (front ++ Pick policy other ∷ [])) where
  counted : (count : ℕ) → last_of log ≡ Some (Pick policy count)
      → Fits (slice_set log (length log - 1) (Pick policy (count + 1)))
  counted count is =
      let front : List Log = take (length log - 1) log in
      let before = ends_with log (Pick policy count) is in
      let now = set_last log (Pick policy (count + 1)) (within log (Pick policy count) is) in
      subst Fits (sym now) (same count (count + 1) front (subst Fits before stays))

  by_last : (entry : Option Log) → last_of log ≡ entry
      → Fits (cond (is_pick_of policy entry)
      (slice_set log (length log - 1) (Pick policy (picks_of policy entry + 1)))
      (log ++ Pick policy 1 ∷ []))
  by_last None is = pushed
  by_last (Some (Open number address other)) is = pushed
  by_last (Some (Cause number cause)) is = pushed
  by_last (Some (Pick other count)) is = by_policy (other == policy) refl
    where
      by_policy : (equal : Bool) → other == policy ≡ equal
          → Fits (cond equal
          (slice_set log (length log - 1) (Pick policy (cond equal count 0 + 1)))
          (log ++ Pick policy 1 ∷ []))
      by_policy true equal =
          let one : other ≡ policy = eqb-true other policy equal in
          counted count (is ∙ ap (λ (n : ℕ). Some (Pick n count)) one)
      by_policy false equal = pushed

  pub fits_picked : Fits (picked policy log)
  fits_picked = by_last (last_of log) refl

pub picks_grow : (old new : Course) → Continues old new → (guest : ℕ) (log : List Log) → IsLogged old guest log
    → (policy : ℕ) → old.end.policy ≤ policy → policy ≤ new.end.policy → IsLogged new guest (picked policy log)
picks_grow old new goes guest log logged policy least most =
    fits_picked (IsLogged new guest) policy log (log_stays old new goes guest log logged)
    (log_grows old new goes guest log logged (Pick policy 1) (least, most))
    (λ count other front fits. logged_same policy count other front new guest fits)
