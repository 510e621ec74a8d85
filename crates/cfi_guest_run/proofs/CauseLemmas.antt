-- What an answered open logs fits the run with the line of its load.
use Rattle.std.proofs.Common.{◌≡◌, ◌≤◌, ◌+◌, ◌&&◌, ◌==◌, ◌⊎◌, ℕ, suc, Bool, true, false, cond, Some, All, List, [], ◌∷◌, ◌++◌, length, take, drop, refl, sym, ap, subst, ◌∙◌, arith, inl, inr}
use Rattle.std.specs.Prelude.{count_by}
use Rattle.std.specs.List.{slice_get}
use Rattle.std.proofs.lemmas.Bool.{and_parts, eqb-true}
use Rattle.std.proofs.lemmas.Bool.Decides.{nat_tests}
use Rattle.std.proofs.lemmas.List.{take-append-le}
use Rattle.std.proofs.lemmas.List.Sums.{sum_by-append, sum_by-cons}
use Rattle.cfi_ledger.proofs.EntryLemmas.{loaded_all}
use Rattle.cfi_model.specs.Log.{last_policy}
use Rattle.cfi_plan.specs.declared.journal.Entry.{Entry}
use Rattle.cfi_plan.specs.declared.journal.JournalLine.{JournalLine}
use Rattle.cfi_plan.specs.declared.journal.JournalLine.TheVariants.{LoadEpochs, LoadFull, LoadPlace, LoadRetired, LoadVerify, LoadVersions}
use Rattle.cfi_plan.specs.declared.journal.Who.TheVariants.{Guest}
use Rattle.cfi_modules.specs.declared.numbers.FaultNumbers.TheVariants as numbers
use Rattle.cfi_unit.specs.declared.log.Log.{Log}
use Rattle.cfi_unit.specs.declared.log.Log.TheVariants.{Pick, Open, Cause}
use Rattle.cfi_valid.specs.Course.{Course}
use Rattle.cfi_valid.specs.Growth.{FitsEntry}
use Rattle.cfi_valid.specs.Joining.{HasFault, IsFull}
use Rattle.cfi_valid.specs.Journal.{JournalState, LineLeads, live_in}
use Rattle.cfi_valid.specs.Loaded.{LoadedModule}
use Rattle.cfi_valid.specs.Log.{HasFunctionAt, HasNoFunction, HoldsInSpan, IsCaused, IsInSpan, IsLogged, VersionsSpent, is_too_old, is_versions, next_policy, why_of}
use Rattle.cfi_valid.specs.Retiring.{HasGone}
use Rattle.cfi_valid.specs.declared.causes.TheConstants as causes
use Rattle.cfi_word.specs.declared.services.TheConstants.{NO_FUNCTION}

-- ---- versions that were spent

-- an entry of a log says so, or none does
pub record IsTooOldAt (number : ℕ) (log : List Log) : Type 0 where
  pub at : ℕ
  pub asked : ℕ
  pub cause : ℕ
  pub is : slice_get log at ≡ Some (Cause asked cause)
  pub late : is_too_old number (Cause asked cause) ≡ true

too_old : (number : ℕ) (log : List Log) → (count_by (is_too_old number) log ≡ 0) ⊎ IsTooOldAt number log
too_old number [] = inl refl
too_old number (entry ∷ log) = here entry (is_too_old number entry) refl (too_old number log)
  where
    counted : (e : Log) → is_too_old number e ≡ false → count_by (is_too_old number) log ≡ 0
        → count_by (is_too_old number) (e ∷ log) ≡ 0
    counted e none rest =
        let one = ap {B = ℕ} (λ (b : Bool). cond b 1 0) none in
        omega (arith, one, rest, sum_by-cons (λ (x : Log). cond (is_too_old number x) 1 0) e log)

    here : (e : Log) (b : Bool) → is_too_old number e ≡ b
        → (count_by (is_too_old number) log ≡ 0) ⊎ IsTooOldAt number log
        → (count_by (is_too_old number) (e ∷ log) ≡ 0) ⊎ IsTooOldAt number (e ∷ log)
    here e b is (inr found) = inr (record {
      at = suc found.at;
      asked = found.asked;
      cause = found.cause;
      is = found.is;
      late = found.late;
    })
    here e false is (inl none) = inl (counted e is none)
    here (Cause asked cause) true is (inl none) =
        inr (record { at = 0; asked = asked; cause = cause; is = refl; late = is })
    here (Pick policy count) true is (inl none) = absurd (cc)
    here (Open asked address policy) true is (inl none) = absurd (cc)

-- the journal tells as many of a guest's
as_many_lines : (c : Course) (guest : ℕ) (log : List Log) → IsLogged c guest log → (number : ℕ)
    → count_by (is_too_old number) log ≤ count_by (is_versions guest number) c.journal
as_many_lines c guest log logged number = elim (too_old number log) [
  | inl none ↦ omega (arith, none)
  | inr found ↦
      let both = and_parts (found.asked == number) (found.cause == causes.VERSIONS_SPENT) found.late in
      let same : found.asked ≡ number = eqb-true found.asked number both.0 in
      let spent : found.cause ≡ causes.VERSIONS_SPENT = eqb-true found.cause causes.VERSIONS_SPENT both.1 in
      let caused : IsCaused c guest log found.at found.asked VersionsSpent =
      subst (λ (n : ℕ). IsCaused c guest log found.at found.asked (why_of n)) spent
      (logged.causes found.at found.asked found.cause found.is) in
      subst (λ (n : ℕ). count_by (is_too_old n) log ≤ count_by (is_versions guest n) c.journal) same caused
]

same_too : (n : ℕ) → (n == n) ≡ true
same_too n = grind (arith, nat_tests)

-- ---- an entry that is logged with a line

module _ (old : Course) (guest : ℕ) (log : List Log) (logged : IsLogged old guest log) where
  abbrev after : Entry → JournalState → Course
  after entry end = record {
    plan = old.plan;
    modules = old.modules;
    journal = old.journal ++ entry ∷ [];
    end = end;
  }

  abbrev line_of : JournalLine → Entry
  line_of line = record { who = Guest guest; what = line }

  abbrev with_cause : (number cause : ℕ) → List Log
  with_cause number cause = log ++ Cause number cause ∷ []

  drop_past : (xs : List Log) (x : Log) → drop (length xs + 1) (xs ++ x ∷ []) ≡ []
  drop_past [] x = refl
  drop_past (y ∷ xs) x =
      let next : length (y ∷ xs) + 1 ≡ suc (length xs + 1) = omega arith in
      ap (λ (n : ℕ). drop n (y ∷ (xs ++ x ∷ []))) next ∙ drop_past xs x

  module _ (end : JournalState) (up : old.end.policy ≤ end.policy)
      (below : All (λ (l : LoadedModule). l.policy ≤ end.policy) end.loaded) (number cause : ℕ) where
    -- the policy in force lies in its span
    in_span : IsInSpan end.policy (with_cause number cause) (length log) end.policy
    in_span =
        let front : take (length log) (with_cause number cause) ≡ take (length log) log =
        take-append-le (length log) log (Cause number cause ∷ []) (omega arith) in
        record {
          least = subst (λ (xs : List Log). last_policy xs ≤ end.policy) (sym (front ∙ all_taken log))
              (omega (arith, logged.most, up));
          most = subst (λ (xs : List Log). end.policy ≤ next_policy end.policy xs)
              (sym (drop_past log (Cause number cause))) (omega arith);
        }
      where
        all_taken : (xs : List Log) → take (length xs) xs ≡ xs
        all_taken [] = refl
        all_taken (x ∷ xs) = ap (λ (ys : List Log). x ∷ ys) (all_taken xs)

    holds_now : (entry : Entry) (P : (loaded live : List LoadedModule) → Type 0) → P end.loaded (live_in end)
        → HoldsInSpan (after entry end) (with_cause number cause) (length log) P
    holds_now entry P here = (
      end.policy,
      in_span,
      subst (λ (loaded : List LoadedModule). P loaded (live_in end))
          (sym (loaded_all end.policy end.loaded below)) here,
    )

    -- a module without a function
    pub fits_no_function : (entry : Entry) → HasNoFunction (live_in end) number → cause ≡ NO_FUNCTION
        → FitsEntry old (after entry end) guest log (Cause number cause)
    fits_no_function entry none is =
        subst (λ (n : ℕ). IsCaused (after entry end) guest (with_cause number cause) (length log) number (why_of n))
        (sym is) (holds_now entry (λ loaded live. HasNoFunction live number) none)

    -- a module that is open
    pub fits_open : (entry : Entry) (address : ℕ) → HasFunctionAt (live_in end) number address
        → FitsEntry old (after entry end) guest log (Open number address end.policy)
    fits_open entry address has = (up, omega arith, has)

  -- a refused load leaves the state
  module _ (below : All (λ (l : LoadedModule). l.policy ≤ old.end.policy) old.end.loaded) (number : ℕ) where
    abbrev still : JournalState
    still = old.end

    pub fits_full : IsFull old.modules old.end.loaded number
        → FitsEntry old (after (line_of (LoadFull number)) still) guest log (Cause number causes.MODULES_FULL)
    fits_full full =
        holds_now still (omega arith) below number causes.MODULES_FULL (line_of (LoadFull number))
        (λ loaded live. IsFull old.modules loaded number) full

    pub fits_retired : HasGone old.end.loaded (live_in old.end) number
        → FitsEntry old (after (line_of (LoadRetired number)) still) guest log (Cause number causes.RETIRED)
    fits_retired gone =
        holds_now still (omega arith) below number causes.RETIRED (line_of (LoadRetired number))
        (λ loaded live. HasGone loaded live number) gone

    pub fits_place : (fault : ℕ)
        → HasFault old.plan.code_words old.modules old.end.loaded (live_in old.end) number (numbers.Place fault)
        → FitsEntry old (after (line_of (LoadPlace number fault)) still) guest log (Cause number causes.NOT_PLACED)
    fits_place fault has =
        holds_now still (omega arith) below number causes.NOT_PLACED (line_of (LoadPlace number fault))
        (λ loaded live. (f : ℕ) × HasFault old.plan.code_words old.modules loaded live number (numbers.Place f))
        (fault, has)

    pub fits_verify : (fault place : ℕ)
        → HasFault old.plan.code_words old.modules old.end.loaded (live_in old.end) number (numbers.Verify fault place)
        → FitsEntry old (after (line_of (LoadVerify number fault place)) still) guest log
        (Cause number causes.NOT_VERIFIED)
    fits_verify fault place has =
        holds_now still (omega arith) below number causes.NOT_VERIFIED (line_of (LoadVerify number fault place))
        (λ loaded live.
        (f : ℕ) × (p : ℕ) × HasFault old.plan.code_words old.modules loaded live number (numbers.Verify f p))
        (fault, place, has)

    pub fits_epochs : (new : JournalState) → LineLeads old.plan old.modules old.end (LoadEpochs number) new
        → FitsEntry old (after (line_of (LoadEpochs number)) still) guest log (Cause number causes.EPOCHS_SPENT)
    fits_epochs new leads = (in_span still (omega arith) below number causes.EPOCHS_SPENT, leads.1, leads.0)

    pub fits_versions : (late quiet : ℕ)
        → FitsEntry old (after (line_of (LoadVersions number late quiet)) still) guest log
        (Cause number causes.VERSIONS_SPENT)
    fits_versions late quiet =
        let line = line_of (LoadVersions number late quiet) in
        let some : Entry → ℕ = λ e. cond (is_versions guest number e) 1 0 in
        let one : Log → ℕ = λ e. cond (is_too_old number e) 1 0 in
        let lines = sum_by-append some old.journal (line ∷ []) in
        let entries = sum_by-append one log (Cause number causes.VERSIONS_SPENT ∷ []) in
        let told : some line ≡ 1 =
        ap {B = ℕ} (λ (b : Bool). cond b 1 0)
        (both (guest == guest) (number == number) (same_too guest) (same_too number)) in
        let logged_one : one (Cause number causes.VERSIONS_SPENT) ≡ 1 =
        ap {B = ℕ} (λ (b : Bool). cond b 1 0) (both (number == number) true (same_too number) refl) in
        omega (arith, lines, entries, told, logged_one, as_many_lines old guest log logged number)
      where
        both : (a b : Bool) → a ≡ true → b ≡ true → (a && b) ≡ true
        both true b one other = other
        both false b one other = absurd (cc)
