-- The calls of a plan's script, as far as a loader has made them.
use Rattle.std.specs.Prelude.{◌≡◌, ◌⊎◌, slice_get, Some}
use Rattle.cfi_loader.specs.Ledger.{Ledger}
use Rattle.cfi_loader.specs.Told.{HasTold, HasStarved}
use Rattle.cfi_plan.specs.declared.journal.Entry.{Entry}
use Rattle.cfi_plan.specs.declared.journal.Who.TheVariants.{Script}
use Rattle.cfi_plan.specs.declared.plan.Plan.{Plan}
use Rattle.cfi_tables.specs.Key.{Key}
use Rattle.cfi_valid.specs.Script.{Call, call_of, made_by_script, script_calls}

-- the script has made the call, and it was told
pub record HasMadeCall (k : Key) (call : Call) (old new : Ledger) : Type 0 where
  pub entry : Entry
  pub by_script : entry.who ≡ Script
  pub is : call_of entry.what ≡ call
  pub told : HasTold k entry old new

-- it has, unless memory was missing
abbrev pub Makes : Key → Call → (old new : Ledger) → Type 0
Makes k call old new = HasMadeCall k call old new ⊎ HasStarved old new

-- it has made the call that was due
pub record HasMadeNext (k : Key) (old new : Ledger) : Type 0 where
  pub call : Call
  pub due : slice_get old.left 0 ≡ Some call
  pub made : HasMadeCall k call old new

-- it has made all calls of the plan
abbrev pub IsScriptMade : Plan → Ledger → Type 0
IsScriptMade plan l = made_by_script l.course.journal ≡ script_calls plan.script
