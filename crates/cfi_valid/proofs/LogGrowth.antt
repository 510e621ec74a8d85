-- What a guest has logged still fits where the journal goes on.
use Rattle.std.proofs.Common.{◌≡◌, ℕ, zero, suc, ◌+◌, ◌≤◌, ◌++◌, List, [], ◌∷◌, take, drop, Some, refl, sym, ap, subst, arith}
use Rattle.std.specs.Prelude.{cond}
use Rattle.std.specs.List.{slice_get, fold}
use Rattle.std.proofs.lemmas.List.Sums.{sum_by-append}
use Rattle.cfi_aux.specs.declared.modules.Module.{Module}
use Rattle.cfi_plan.specs.declared.journal.Entry.{Entry}
use Rattle.cfi_plan.specs.declared.plan.Plan.{Plan}
use Rattle.cfi_modules.specs.declared.numbers.FaultNumbers.TheVariants.{Place, Verify}
use Rattle.cfi_unit.specs.declared.log.Log.{Log}
use Rattle.cfi_unit.specs.declared.log.Log.TheVariants.{Open}
use Rattle.cfi_model.specs.Log.{policy_after, last_policy}
use Rattle.cfi_valid.specs.Course.{Course}
use Rattle.cfi_valid.specs.Growth.{IsLater, Continues}
use Rattle.cfi_valid.specs.Joining.{IsFull, HasFault, HasNoFault}
use Rattle.cfi_valid.specs.Journal.{JournalState, IsOutOfEpochs, members_of, live_in}
use Rattle.cfi_valid.specs.Loaded.{LoadedModule, live_at}
use Rattle.cfi_valid.specs.Log.{IsInSpan, HoldsInSpan, HasFunctionAt, HasNoFunction, is_versions, Why, NoModule, ModulesFull, NotPlaced, NotVerified, VersionsSpent, EpochsSpent, NoFunction, Retired, Unlogged, why_of, IsCaused, NeverFall, FitsCauses, IsLogged}
use Rattle.cfi_valid.proofs.GrowthLemmas.{along_later, both_stay, spent_stays}
use Rattle.cfi_valid.proofs.LiveLemmas.{live_stays}
use Rattle.cfi_valid.specs.Retiring.{HasGone}
use Rattle.cfi_valid.proofs.SpanLemmas.{fall_least, fall_behind, last_behind, next_most, next_rises}

-- what is open has a policy that is not above the last one
pub open_low : (before : ℕ) (log : List Log) → NeverFall before log → (at number address policy : ℕ)
    → slice_get log at ≡ Some (Open number address policy) → policy ≤ fold policy_after before log
open_low before [] never at number address policy is = absurd (cc)
open_low before (entry ∷ log) never zero number address policy is =
    let same : entry ≡ Open number address policy = cc in
    let named : policy_after before entry ≡ policy = ap (policy_after before) same in
    let rest = fall_least (policy_after before entry) log never.1 in
    omega (arith, rest, named)
open_low before (entry ∷ log) never (suc at) number address policy is =
    open_low (policy_after before entry) log never.1 at number address policy is

-- what fits up to its causes
module _ (old new : Course) (later : IsLater old.end new.end) (Before : (at number cause : ℕ) → Type 0) (log : List Log)
    (fits : FitsCauses old Before log) where
  pub span_low : (at policy : ℕ) → IsInSpan old.end.policy log at policy → policy ≤ old.end.policy
  span_low at policy span =
      let never = fall_behind (at + 1) 0 log fits.rises in
      let last : fold policy_after (last_policy (take (at + 1) log)) (drop (at + 1) log) ≡ last_policy log =
      last_behind (at + 1) 0 log in
      let most = next_most old.end.policy (last_policy (take (at + 1) log)) (drop (at + 1) log) never
      (omega (arith, last, fits.most)) in
      omega (arith, span.most, most)

  span_stays : (at policy : ℕ) → IsInSpan old.end.policy log at policy → IsInSpan new.end.policy log at policy
  span_stays at policy span = record {
    least = span.least;
    most = (
        let rises = next_rises old.end.policy new.end.policy (drop (at + 1) log) later.policy in
        omega (arith, span.most, rises)
        );
  }

  pub holds_stays : (at : ℕ) (P : (loaded live : List LoadedModule) → Type 0) → HoldsInSpan old log at P
      → HoldsInSpan new log at P
  holds_stays at P holds = (
    holds.0,
    span_stays at holds.0 holds.1,
    both_stay old.end new.end later holds.0 (span_low at holds.0 holds.1) P holds.2,
  )

  pub opens_stays : (at number address policy : ℕ) → slice_get log at ≡ Some (Open number address policy)
      → HasFunctionAt (live_at policy (members_of new.end)) number address
  opens_stays at number address policy is =
      let low = open_low 0 log fits.rises at number address policy is in
      subst (λ (live : List LoadedModule). HasFunctionAt live number address)
      (sym (live_stays old.end new.end later policy (omega (arith, low, fits.most))))
      (fits.opens at number address policy is)

  pub fits_stays : (After : (at number cause : ℕ) → Type 0)
      → ((at number cause : ℕ) → Before at number cause → After at number cause) → FitsCauses new After log
  fits_stays After caused = record {
    rises = fits.rises;
    most = omega (arith, fits.most, later.policy);
    opens = opens_stays;
    causes = λ at number cause is. caused at number cause (fits.causes at number cause is);
  }

-- the course that goes on
module _ (plan : Plan) (modules : List Module) (journal more : List Entry) (end after : JournalState)
    (later : IsLater end after) (kept : IsOutOfEpochs end → after ≡ end) where
  abbrev pub old : Course
  old = record { plan = plan; modules = modules; journal = journal; end = end }

  abbrev pub new : Course
  new = record { plan = plan; modules = modules; journal = journal ++ more; end = after }

  module _ (guest : ℕ) (log : List Log) (logged : IsLogged old guest log) where
    abbrev pub Before : (at number cause : ℕ) → Type 0
    Before at number cause = IsCaused old guest log at number (why_of cause)

    stay : (at : ℕ) (P : (loaded live : List LoadedModule) → Type 0) → HoldsInSpan old log at P
        → HoldsInSpan new log at P
    stay at P holds = holds_stays old new later Before log logged at P holds

    caused_stays : (at number : ℕ) (why : Why) → IsCaused old guest log at number why
        → IsCaused new guest log at number why
    caused_stays at number NoModule caused = caused
    caused_stays at number ModulesFull caused =
        stay at (λ loaded live. IsFull modules loaded number) caused
    caused_stays at number NotPlaced caused =
        stay at
        (λ loaded live.
        (fault : ℕ) × HasFault plan.code_words modules loaded live number (Place fault)) caused
    caused_stays at number NotVerified caused =
        stay at
        (λ loaded live.
        (fault : ℕ) × (place : ℕ) × HasFault plan.code_words modules loaded live number (Verify fault place)) caused
    caused_stays at number VersionsSpent caused =
        let count = sum_by-append (λ (e : Entry). cond (is_versions guest number e) 1 0) journal more in
        omega (arith, caused, count)
    caused_stays at number EpochsSpent caused =
        let same = kept caused.1 in
        subst
        (λ (s : JournalState).
        IsInSpan s.policy log at s.policy × IsOutOfEpochs s
        × HasNoFault plan.code_words modules s.loaded (live_in s) number)
        (sym same) caused
    caused_stays at number NoFunction caused = stay at (λ loaded live. HasNoFunction live number) caused
    caused_stays at number Retired caused = stay at (λ loaded live. HasGone loaded live number) caused
    caused_stays at number Unlogged caused = absurd caused

    stays : IsLogged new guest log
    stays =
        fits_stays old new later Before log logged (λ at number cause. IsCaused new guest log at number (why_of cause))
        (λ at number cause caused. caused_stays at number (why_of cause) caused)

pub log_stays : (old new : Course) → Continues old new → (guest : ℕ) (log : List Log) → IsLogged old guest log
    → IsLogged new guest log
log_stays old new goes guest log logged =
    let after : Course = record {
      plan = old.plan;
      modules = old.modules;
      journal = old.journal ++ goes.more;
      end = new.end;
    } in
    let plan : new.plan ≡ old.plan = goes.plan in
    let modules : new.modules ≡ old.modules = goes.modules in
    let journal : new.journal ≡ old.journal ++ goes.more = goes.journal in
    let new_is : new ≡ record { plan = new.plan; modules = new.modules; journal = new.journal; end = new.end } = refl in
    let same : after ≡ new = cc in
    subst (λ (c : Course). IsLogged c guest log) same
    (stays old.plan old.modules old.journal goes.more old.end new.end
    (along_later old.plan old.modules old.end new.end goes.more goes.leads)
    (spent_stays old.plan old.modules old.end new.end goes.more goes.leads) guest log logged)
