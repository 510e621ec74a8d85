-- A log with one entry more fits where the entry does.
use Rattle.std.proofs.Common.{◌≡◌, ℕ, ◌+◌, ◌≤◌, ◌<◌, ◌==◌, ◌++◌, Bool, true, false, cond, List, [], ◌∷◌, length, take, drop, Some, refl, sym, ap, subst, ⊎_elim, arith, length-append}
use Rattle.std.specs.Prelude.{count_by}
use Rattle.std.specs.List.{slice_get, fold}
use Rattle.std.proofs.lemmas.Bool.{cases_lt, and_parts, eqb-true}
use Rattle.std.proofs.lemmas.List.{take-append-le, drop-append-le}
use Rattle.std.proofs.lemmas.List.Sums.{sum_by-append, fold-append}
use Rattle.std.proofs.lemmas.Option.{slice_get_within}
use Rattle.cfi_aux.specs.declared.modules.Module.{Module}
use Rattle.cfi_plan.specs.declared.journal.Entry.{Entry}
use Rattle.cfi_plan.specs.declared.plan.Plan.{Plan}
use Rattle.cfi_modules.specs.declared.numbers.FaultNumbers.TheVariants.{Place, Verify}
use Rattle.cfi_modules.proofs.OrderLemmas.{left, last}
use Rattle.cfi_unit.specs.declared.log.Log.{Log}
use Rattle.cfi_unit.specs.declared.log.Log.TheVariants.{Pick, Open, Cause}
use Rattle.cfi_model.specs.Log.{policy_after, last_policy}
use Rattle.cfi_valid.specs.declared.causes.TheConstants.{VERSIONS_SPENT}
use Rattle.cfi_valid.specs.Course.{Course}
use Rattle.cfi_valid.specs.Growth.{IsLater, Continues, FitsEntry}
use Rattle.cfi_valid.specs.Joining.{IsFull, HasFault, HasNoFault}
use Rattle.cfi_valid.specs.Journal.{JournalState, IsOutOfEpochs, members_of, live_in}
use Rattle.cfi_valid.specs.Loaded.{LoadedModule, live_at}
use Rattle.cfi_valid.specs.Log.{next_policy, IsInSpan, HoldsInSpan, HasFunctionAt, HasNoFunction, is_versions, is_too_old, Why, NoModule, ModulesFull, NotPlaced, NotVerified, VersionsSpent, EpochsSpent, NoFunction, Retired, Unlogged, why_of, IsCaused, NeverFall, FitsCauses, IsLogged}
use Rattle.cfi_valid.proofs.GrowthLemmas.{along_later, both_stay, spent_stays}
use Rattle.cfi_valid.specs.Retiring.{HasGone}
use Rattle.cfi_valid.proofs.LogGrowth.{old as earlier, new as current, Before as before_of, span_low, opens_stays}

-- ---- policies

never_more : (before : ℕ) (log : List Log) (entry : Log) → NeverFall before log
    → fold policy_after before log ≤ policy_after (fold policy_after before log) entry
    → NeverFall before (log ++ entry ∷ [])
never_more before [] entry never rises = (rises, tt)
never_more before (first ∷ log) entry never rises =
    (never.0, never_more (policy_after before first) log entry never.1 rises)

next_more : (low high : ℕ) (later : List Log) (entry : Log) → low ≤ next_policy high (entry ∷ [])
    → next_policy low later ≤ next_policy high (later ++ entry ∷ [])
next_more low high [] entry closes = closes
next_more low high (Pick policy count ∷ later) entry closes = omega arith
next_more low high (Open number address policy ∷ later) entry closes = omega arith
next_more low high (Cause number cause ∷ later) entry closes = next_more low high later entry closes

-- ---- what fits up to its causes

module _ (old new : Course) (later : IsLater old.end new.end) (Before : (at number cause : ℕ) → Type 0) (log : List Log)
    (fits : FitsCauses old Before log) (entry : Log)
    (closes : old.end.policy ≤ next_policy new.end.policy (entry ∷ [])) where
  abbrev longer : List Log
  longer = log ++ entry ∷ []

  span_closes : (at policy : ℕ) → at < length log → IsInSpan old.end.policy log at policy
      → IsInSpan new.end.policy longer at policy
  span_closes at policy within span =
      let front : take at longer ≡ take at log = take-append-le at log (entry ∷ []) (omega (arith, within)) in
      let back : drop (at + 1) longer ≡ drop (at + 1) log ++ entry ∷ [] =
      drop-append-le (at + 1) log (entry ∷ []) (omega (arith, within)) in
      let next = next_more old.end.policy new.end.policy (drop (at + 1) log) entry closes in
      record {
        least = subst (λ (xs : List Log). last_policy xs ≤ policy) (sym front) span.least;
        most = subst (λ (xs : List Log). policy ≤ next_policy new.end.policy xs) (sym back)
            (omega (arith, span.most, next));
      }

  pub holds_closes : (at : ℕ) → at < length log → (P : (loaded live : List LoadedModule) → Type 0)
      → HoldsInSpan old log at P → HoldsInSpan new longer at P
  holds_closes at within P holds =
      let low = span_low old new later Before log fits at holds.0 holds.1 in (
        holds.0,
        span_closes at holds.0 within holds.1,
        both_stay old.end new.end later holds.0 low P holds.2,
      )

  at_end : (at : ℕ) (e : Log) → slice_get longer at ≡ Some e → length log ≤ at → at ≡ length log
  at_end at e is past =
      let within = slice_get_within longer at e is in omega (arith, within, past, length-append log (entry ∷ []))

  module _ (After : (at number cause : ℕ) → Type 0) (rises : last_policy log ≤ policy_after (last_policy log) entry)
      (most : policy_after (last_policy log) entry ≤ new.end.policy)
      (opened : (number address policy : ℕ) → entry ≡ Open number address policy
      → HasFunctionAt (live_at policy (members_of new.end)) number address)
      (before : (at number cause : ℕ) → at < length log → Before at number cause → After at number cause)
      (caused : (number cause : ℕ) → entry ≡ Cause number cause → After (length log) number cause) where
    opens_all : (at number address policy : ℕ) → slice_get longer at ≡ Some (Open number address policy)
        → HasFunctionAt (live_at policy (members_of new.end)) number address
    opens_all at number address policy is = ⊎_elim
        (λ (within : at < length log).
        opens_stays old new later Before log fits at number address policy
        (left log (entry ∷ []) at (Open number address policy) within is))
        (λ (past : length log ≤ at).
        opened number address policy
        (last log entry at (Open number address policy) (at_end at (Open number address policy) is past) is))
        (cases_lt at (length log))

    causes_all : (at number cause : ℕ) → slice_get longer at ≡ Some (Cause number cause) → After at number cause
    causes_all at number cause is = ⊎_elim
        (λ (within : at < length log).
        before at number cause within
        (fits.causes at number cause (left log (entry ∷ []) at (Cause number cause) within is)))
        (λ (past : length log ≤ at).
        let end_is = at_end at (Cause number cause) is past in
        subst (λ (n : ℕ). After n number cause) (sym end_is)
        (caused number cause (last log entry at (Cause number cause) end_is is)))
        (cases_lt at (length log))

    pub fits_grow : FitsCauses new After longer
    fits_grow =
        let whole : last_policy longer ≡ policy_after (last_policy log) entry =
        fold-append policy_after 0 log (entry ∷ []) in
        record {
          rises = never_more 0 log entry fits.rises rises;
          most = subst (λ (n : ℕ). n ≤ new.end.policy) (sym whole) most;
          opens = opens_all;
          causes = causes_all;
        }

-- ---- the log of a run

module _ (plan : Plan) (modules : List Module) (journal more : List Entry) (end after : JournalState)
    (later : IsLater end after) (kept : IsOutOfEpochs end → after ≡ end) (guest : ℕ) (log : List Log)
    (logged : IsLogged (earlier plan modules journal more end after later kept) guest log) (entry : Log)
    (fits : FitsEntry (earlier plan modules journal more end after later kept)
    (current plan modules journal more end after later kept) guest log entry) where
  abbrev old : Course
  old = earlier plan modules journal more end after later kept

  abbrev new : Course
  new = current plan modules journal more end after later kept

  abbrev all : List Log
  all = log ++ entry ∷ []

  -- ---- what the entry does to policies

  entry_rises : (e : Log) → FitsEntry old new guest log e → last_policy log ≤ policy_after (last_policy log) e
  entry_rises (Pick policy count) f = omega (arith, logged.most, f.0)
  entry_rises (Open number address policy) f = omega (arith, logged.most, f.0)
  entry_rises (Cause number cause) f = omega arith

  entry_most : (e : Log) → FitsEntry old new guest log e → policy_after (last_policy log) e ≤ after.policy
  entry_most (Pick policy count) f = f.1
  entry_most (Open number address policy) f = f.1
  entry_most (Cause number cause) f = omega (arith, logged.most, later.policy)

  entry_closes : (e : Log) → FitsEntry old new guest log e → end.policy ≤ next_policy after.policy (e ∷ [])
  entry_closes (Pick policy count) f = f.0
  entry_closes (Open number address policy) f = f.0
  entry_closes (Cause number cause) f = later.policy

  -- ---- what was logged before it

  abbrev Before : (at number cause : ℕ) → Type 0
  Before = before_of plan modules journal more end after later kept guest log logged

  inside : (at policy : ℕ) → at < length log → IsInSpan end.policy log at policy → IsInSpan after.policy all at policy
  inside at policy within span =
      span_closes old new later Before log logged entry (entry_closes entry fits) at policy within span

  close : (at : ℕ) → at < length log → (P : (loaded live : List LoadedModule) → Type 0) → HoldsInSpan old log at P
      → HoldsInSpan new all at P
  close at within P holds =
      holds_closes old new later Before log logged entry (entry_closes entry fits) at within P holds

  -- how many versions were too old
  counts_by : (number : ℕ) (late : Bool) → is_too_old number entry ≡ late
      → count_by (is_too_old number) log ≤ count_by (is_versions guest number) journal
      → count_by (is_too_old number) all ≤ count_by (is_versions guest number) (journal ++ more)
  counts_by number true is before = late_counts entry fits is
    where
      late_counts : (e : Log) → FitsEntry old new guest log e → is_too_old number e ≡ true
          → count_by (is_too_old number) (log ++ e ∷ []) ≤ count_by (is_versions guest number) (journal ++ more)
      late_counts (Pick policy count) f late = absurd (cc)
      late_counts (Open asked address policy) f late = absurd (cc)
      late_counts (Cause asked cause) f late =
          let both = and_parts (asked == number) (cause == VERSIONS_SPENT) late in
          let same : asked ≡ number = eqb-true asked number both.0 in
          let spent : cause ≡ VERSIONS_SPENT = eqb-true cause VERSIONS_SPENT both.1 in
          let counted : IsCaused new guest (log ++ Cause asked cause ∷ []) (length log) asked VersionsSpent =
          subst (IsCaused new guest (log ++ Cause asked cause ∷ []) (length log) asked) (ap why_of spent) f in
          subst
          (λ (n : ℕ).
          count_by (is_too_old n) (log ++ Cause asked cause ∷ []) ≤ count_by (is_versions guest n) (journal ++ more))
          same counted
  counts_by number false is before =
      let one : Log → ℕ = λ e. cond (is_too_old number e) 1 0 in
      let some : Entry → ℕ = λ e. cond (is_versions guest number e) 1 0 in
      let counts = sum_by-append one log (entry ∷ []) in
      let none : one entry ≡ 0 = ap (λ (b : Bool). cond b 1 0) is in
      let lines = sum_by-append some journal more in
      omega (arith, before, counts, none, lines)

  caused_closes : (at number : ℕ) → at < length log → (why : Why) → IsCaused old guest log at number why
      → IsCaused new guest all at number why
  caused_closes at number within NoModule caused = caused
  caused_closes at number within ModulesFull caused =
      close at within (λ loaded live. IsFull modules loaded number) caused
  caused_closes at number within NotPlaced caused =
      close at within
      (λ loaded live. (fault : ℕ) × HasFault plan.code_words modules loaded live number (Place fault)) caused
  caused_closes at number within NotVerified caused =
      close at within
      (λ loaded live.
      (fault : ℕ) × (place : ℕ) × HasFault plan.code_words modules loaded live number (Verify fault place)) caused
  caused_closes at number within VersionsSpent caused =
      counts_by number (is_too_old number entry) refl caused
  caused_closes at number within EpochsSpent caused =
      let same = kept caused.1 in
      let span : IsInSpan after.policy all at end.policy = inside at end.policy within caused.0 in
      let here : IsInSpan after.policy all at after.policy =
      subst (IsInSpan after.policy all at) (ap (λ (s : JournalState). s.policy) (sym same)) span in (
        here,
        subst IsOutOfEpochs (sym same) caused.1,
        subst (λ (s : JournalState). HasNoFault plan.code_words modules s.loaded (live_in s) number) (sym same)
            caused.2,
      )
  caused_closes at number within NoFunction caused =
      close at within (λ loaded live. HasNoFunction live number) caused
  caused_closes at number within Retired caused =
      close at within (λ loaded live. HasGone loaded live number) caused
  caused_closes at number within Unlogged caused = absurd caused

  -- ---- the entry itself

  entry_opens : (number address policy : ℕ) → entry ≡ Open number address policy
      → HasFunctionAt (live_at policy (members_of after)) number address
  entry_opens number address policy same = (subst (FitsEntry old new guest log) same fits).2

  entry_caused : (number cause : ℕ) → entry ≡ Cause number cause
      → IsCaused new guest all (length log) number (why_of cause)
  entry_caused number cause same =
      subst (λ (e : Log). IsCaused new guest (log ++ e ∷ []) (length log) number (why_of cause)) (sym same)
      (subst (FitsEntry old new guest log) same fits)

  grows : IsLogged new guest all
  grows =
      fits_grow old new later Before log logged entry (entry_closes entry fits)
      (λ at number cause. IsCaused new guest all at number (why_of cause)) (entry_rises entry fits)
      (entry_most entry fits) entry_opens
      (λ at number cause within caused. caused_closes at number within (why_of cause) caused) entry_caused

-- ---- between two courses

pub log_grows : (old new : Course) → Continues old new → (guest : ℕ) (log : List Log) → IsLogged old guest log
    → (entry : Log) → FitsEntry old new guest log entry → IsLogged new guest (log ++ entry ∷ [])
log_grows old new goes guest log logged entry fits =
    let after : Course = record {
      plan = old.plan;
      modules = old.modules;
      journal = old.journal ++ goes.more;
      end = new.end;
    } in
    let plan : new.plan ≡ old.plan = goes.plan in
    let modules : new.modules ≡ old.modules = goes.modules in
    let journal : new.journal ≡ old.journal ++ goes.more = goes.journal in
    let new_is : new ≡ record { plan = new.plan; modules = new.modules; journal = new.journal; end = new.end } = refl in
    let same : after ≡ new = cc in
    subst (λ (c : Course). IsLogged c guest (log ++ entry ∷ [])) same
    (grows old.plan old.modules old.journal goes.more old.end new.end
    (along_later old.plan old.modules old.end new.end goes.more goes.leads)
    (spent_stays old.plan old.modules old.end new.end goes.more goes.leads) guest log logged entry
    (subst (λ (c : Course). FitsEntry old c guest log entry) (sym same) fits))
