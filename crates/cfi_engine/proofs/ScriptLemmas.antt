-- The script's calls: how many there are, that they name modules of the plan, and what making one comes to.
use Rattle.std.proofs.Common.{◌≡◌, ℕ, ◌+◌, ◌<◌, ◌≤◌, ◌^◌, ◌++◌, Bool, true, false, cond, List, [], ◌∷◌, length, drop, Option, Some, None, Result, Ok, Err, All, refl, sym, ap, subst, ◌∙◌, inl, inr, arith, length-append}
use Rattle.std.specs.Prelude.{IfOk, IfErr, option_map}
use Rattle.std.specs.List.{slice_get}
use Rattle.std.proofs.lemmas.Bool.{false≢true}
use Rattle.std.proofs.lemmas.List.{length-replicate}
use Rattle.std.proofs.lemmas.List.Elements.{All-nil, All-cons, All-head, All-tail, All-append, All-replicate}
use Rattle.std.proofs.lemmas.List.Sums.{sum_by-cons}
use Rattle.std.proofs.lemmas.Option.{none-some, slice_get_within, get_or_from_slice_get}
use Rattle.cfi_aux.specs.declared.modules.Module.{Module}
use Rattle.cfi_plan.specs.Draft.{refreshes, refreshes_of}
use Rattle.cfi_plan.specs.Plan.{IsScript, IsScriptLine}
use Rattle.cfi_plan.specs.declared.plan.Plan.{Plan}
use Rattle.cfi_plan.specs.declared.plan.ScriptLine.{ScriptLine}
use Rattle.cfi_plan.specs.declared.plan.ScriptLine.TheVariants as script
use Rattle.cfi_plan.specs.declared.journal.JournalLine.{JournalLine}
use Rattle.cfi_plan.specs.declared.journal.JournalLine.TheVariants as lines
use Rattle.cfi_plan.specs.declared.journal.Who.{Who}
use Rattle.cfi_plan.specs.declared.journal.Who.TheVariants.{Script}
use Rattle.cfi_ledger.specs.Calls.{calls_after}
use Rattle.cfi_loader.specs.Ledger.{Ledger, IsLedger}
use Rattle.cfi_valid.specs.NumberedLine.{numbered_line}
use Rattle.cfi_ledger.specs.Journal.{asked_by}
use Rattle.cfi_loader.specs.Results.{fault_line, loaded_line, refused_refresh, HasLoaded, IsLoadFault, RefusesBy}
use Rattle.cfi_loader.specs.Retirements.{retired_line, retire_fault_line, HasRetired, IsRetireFault, RefusesRetireBy}
use Rattle.cfi_loader.specs.Told.{HasTold}
use Rattle.cfi_loader.specs.declared.retire.Retired.{Retired as RetiredModule}
use Rattle.cfi_loader.specs.declared.retire.RetireFault.{RetireFault}
use Rattle.cfi_loader.specs.declared.retire.RetireFault.TheVariants as retires
use Rattle.cfi_loader.specs.declared.fault.LoadFault.{LoadFault}
use Rattle.cfi_loader.specs.declared.fault.LoadFault.TheVariants.{Retired, ModulesFull, Place, Verify, EpochsSpent, VersionsSpent, Memory}
use Rattle.cfi_loader.specs.declared.loaded.Loaded.{Loaded}
use Rattle.cfi_modules.specs.Numbers.{place_numbers, verify_numbers}
use Rattle.cfi_modules.specs.declared.numbers.FaultNumbers.{FaultNumbers}
use Rattle.cfi_modules.specs.declared.numbers.FaultNumbers.TheVariants as numbers
use Rattle.cfi_tables.specs.Key.{Key}
use Rattle.cfi_tables.specs.declared.fault.UpdateFault.{UpdateFault}
use Rattle.cfi_tables.specs.declared.fault.UpdateFault.TheVariants as updates
use Rattle.cfi_valid.specs.Script.{Call, Load, Refresh, Retire, call_of, calls_of, script_calls, made_by_script}
use Rattle.cfi_word.specs.declared.limits.TheConstants.{MAX_SCRIPT, MAX_REFRESHES}
use Rattle.cfi_engine.specs.inner.Script.{HasMadeNext, Makes}

-- ---- how many there are

-- of a line at most one more than its refreshes
line_calls : (line : ScriptLine) → length (calls_of line) ≤ 1 + refreshes_of line
line_calls (script.Load number) = omega arith
line_calls (script.Retire number) = omega arith
line_calls (script.Refresh count) = omega (arith, length-replicate count Refresh)

calls_most : (lines : List ScriptLine) → length (script_calls lines) ≤ length lines + refreshes lines
calls_most [] = omega arith
calls_most (line ∷ lines) =
    let all = length-append (calls_of line) (script_calls lines) in
    let sum = sum_by-cons refreshes_of line lines in
    omega (arith, all, sum, line_calls line, calls_most lines)

calls_few : (modules : ℕ) (lines : List ScriptLine) → IsScript modules lines
    → length (script_calls lines) ≤ MAX_SCRIPT + MAX_REFRESHES
calls_few modules lines is = omega (arith, calls_most lines, is.most, is.most_refreshes)

-- of a plan that was started fewer than a word can tell
pub script_fits : (k : Key) (plan : Plan) (modules : List Module) (l : Ledger) → IsLedger k plan modules l
    → length (script_calls plan.script) < 2 ^ 32
script_fits k plan modules l is =
    let few = calls_few (length l.course.plan.modules) l.course.plan.script is.can_start.script in
    let same = ap (λ (p : Plan). length (script_calls p.script)) is.plan_is in
    omega (arith, few, same)

-- ---- they name modules of the plan

abbrev pub IsKnown : (modules : ℕ) → Call → Type 0
IsKnown modules (Load number) = number < modules
IsKnown modules (Retire number) = number < modules
IsKnown modules Refresh = Unit {0}

line_known : (modules : ℕ) (line : ScriptLine) → IsScriptLine modules line → All (IsKnown modules) (calls_of line)
line_known modules (script.Load number) known =
    All-cons (IsKnown modules) (Load number) [] known (All-nil (IsKnown modules))
line_known modules (script.Retire number) known =
    All-cons (IsKnown modules) (Retire number) [] known (All-nil (IsKnown modules))
line_known modules (script.Refresh count) some = All-replicate (IsKnown modules) count Refresh tt

all_known : (modules : ℕ) (lines : List ScriptLine) → All (IsScriptLine modules) lines
    → All (IsKnown modules) (script_calls lines)
all_known modules [] all = All-nil (IsKnown modules)
all_known modules (line ∷ lines) all =
    All-append (IsKnown modules) (calls_of line) (script_calls lines)
    (line_known modules line (All-head (IsScriptLine modules) line lines all))
    (all_known modules lines (All-tail (IsScriptLine modules) line lines all))

left_known : (modules : ℕ) (made left : List Call) → All (IsKnown modules) (made ++ left) → All (IsKnown modules) left
left_known modules [] left all = all
left_known modules (call ∷ made) left all =
    left_known modules made left (All-tail (IsKnown modules) call (made ++ left) all)

-- the module that is due is one of the plan
pub due_known : (k : Key) (plan : Plan) (modules : List Module) (l : Ledger) (call : Call) → IsLedger k plan modules l
    → slice_get l.left 0 ≡ Some call → IsKnown (length plan.modules) call
due_known k plan modules l call is due =
    let all = length l.course.plan.modules in
    let script = l.course.plan.script in
    let known = left_known all (made_by_script l.course.journal) l.left
    (subst (All (IsKnown all)) (sym is.script) (all_known all script is.can_start.script.lines)) in
    let here : IsKnown all call =
    subst (IsKnown all) (get_or_from_slice_get l.left 0 call Refresh due)
    (known 0 Refresh (slice_get_within l.left 0 call due)) in
    subst (λ (p : Plan). IsKnown (length p.modules) call) is.plan_is here

-- ---- what making one comes to

line_call : (number : ℕ) (answer : Loaded) → call_of (loaded_line number answer) ≡ Load number
line_call number answer = by_again answer.again
  where
    by_again : (again : Bool)
        → call_of (cond again (lines.LoadAgain number answer.policy) (lines.LoadOk number answer.epoch answer.policy))
        ≡ Load number
    by_again true = refl
    by_again false = refl

numbered_call : (number : ℕ) (fault : FaultNumbers) → call_of (numbered_line number fault) ≡ Load number
numbered_call number (numbers.Place kind) = refl
numbered_call number (numbers.Verify kind place) = refl

-- what tells of a fault tells of the load
abbrev IsOfLoad : (number : ℕ) → Option JournalLine → Type 0
IsOfLoad number None = Unit {0}
IsOfLoad number (Some line) = call_of line ≡ Load number

mapped_call : (number : ℕ) (found : Option FaultNumbers) → IsOfLoad number (option_map (numbered_line number) found)
mapped_call number None = tt
mapped_call number (Some fault) = numbered_call number fault

fault_call : (number : ℕ) (fault : LoadFault) → IsOfLoad number (fault_line number fault)
fault_call number Retired = refl
fault_call number ModulesFull = refl
fault_call number (Place fault) = mapped_call number (place_numbers fault)
fault_call number (Verify fault) = mapped_call number (verify_numbers fault)
fault_call number EpochsSpent = refl
fault_call number (VersionsSpent guest quiet) = refl
fault_call number Memory = tt

module _ (k : Key) (number : ℕ) (old new : Ledger) where
  by_line : (fault : LoadFault) (line : Option JournalLine) → IsOfLoad number line
      → RefusesBy k Script number fault line old new → Makes k (Load number) old new
  by_line fault None of starved = inr starved.1
  by_line fault (Some line) of refused =
      inl (record { entry = asked_by Script line; by_script = refl; is = of; told = refused.told })

  pub load_makes : (answer : Result Loaded LoadFault)
      → IfOk answer (λ (loaded : Loaded). HasLoaded k Script number loaded old new)
      → IfErr answer (λ (fault : LoadFault). IsLoadFault k Script number fault old new)
      → Makes k (Load number) old new
  load_makes (Ok loaded) ok fault = inl (record {
    entry = asked_by Script (loaded_line number loaded);
    by_script = refl;
    is = line_call number loaded;
    told = ok.told;
  })
  load_makes (Err refusal) ok fault = by_line refusal (fault_line number refusal) (fault_call number refusal) fault

-- and so it is with a retirement
abbrev IsOfRetirement : (number : ℕ) → Option JournalLine → Type 0
IsOfRetirement number None = Unit {0}
IsOfRetirement number (Some line) = call_of line ≡ Retire number

retire_fault_call : (number : ℕ) (fault : RetireFault) → IsOfRetirement number (retire_fault_line number fault)
retire_fault_call number retires.NotLive = refl
retire_fault_call number (retires.InUse user) = refl
retire_fault_call number retires.EpochsSpent = refl
retire_fault_call number (retires.VersionsSpent guest quiet) = refl
retire_fault_call number retires.Memory = tt

module _ (k : Key) (number : ℕ) (old new : Ledger) where
  by_retire_line : (fault : RetireFault) (line : Option JournalLine) → IsOfRetirement number line
      → RefusesRetireBy k fault line old new → Makes k (Retire number) old new
  by_retire_line fault None of starved = inr starved.1
  by_retire_line fault (Some line) of told =
      inl (record { entry = asked_by Script line; by_script = refl; is = of; told = told })

  pub retire_makes : (answer : Result RetiredModule RetireFault)
      → IfOk answer (λ (retired : RetiredModule). HasRetired k number retired old new)
      → IfErr answer (λ (fault : RetireFault). IsRetireFault k number fault old new)
      → Makes k (Retire number) old new
  retire_makes (Ok retired) ok fault = inl (record {
    entry = asked_by Script (retired_line number retired);
    by_script = refl;
    is = refl;
    told = ok.told;
  })
  retire_makes (Err refusal) ok fault =
      by_retire_line refusal (retire_fault_line number refusal) (retire_fault_call number refusal) fault

refused_call : (fault : UpdateFault) → call_of (refused_refresh fault) ≡ Refresh
refused_call updates.EpochsSpent = refl
refused_call (updates.VersionsSpent guest quiet) = refl

pub refresh_makes : (k : Key) (old new : Ledger) (answer : Result ℕ UpdateFault)
    → IfOk answer (λ (epoch : ℕ). HasTold k (asked_by Script (lines.RefreshOk epoch)) old new)
    → IfErr answer (λ (fault : UpdateFault). HasTold k (asked_by Script (refused_refresh fault)) old new)
    → Makes k Refresh old new
refresh_makes k old new (Ok epoch) ok fault =
    inl (record { entry = asked_by Script (lines.RefreshOk epoch); by_script = refl; is = refl; told = ok })
refresh_makes k old new (Err refusal) ok fault = inl (record {
  entry = asked_by Script (refused_refresh refusal);
  by_script = refl;
  is = refused_call refusal;
  told = fault;
})

-- where memory is not missing then, it was made
pub next_made : (k : Key) (old new : Ledger) (call : Call) → slice_get old.left 0 ≡ Some call → Makes k call old new
    → new.starved ≡ false → HasMadeNext k old new
next_made k old new call due (inl made) fed = record { call = call; due = due; made = made }
next_made k old new call due (inr starved) fed =
    absurd (false≢true (sym fed ∙ ap (λ (l : Ledger). l.starved) starved))

-- and fewer are left
pub left_falls : (k : Key) (old new : Ledger) → HasMadeNext k old new → length new.left < length old.left
left_falls k old new next =
    let told = next.made.told in
    let left : new.left ≡ drop 1 old.left =
    told.left ∙ ap (λ (who : Who). calls_after who old.left) next.made.by_script in
    fewer old.left new.left next.call next.due left
  where
    fewer : (calls later : List Call) (call : Call) → slice_get calls 0 ≡ Some call → later ≡ drop 1 calls
        → length later < length calls
    fewer [] later call due is = absurd (none-some call due)
    fewer (first ∷ calls) later call due is = omega (arith, ap length is)
