-- The script of a plan, as calls in its order, and what of a journal it asked for.
use Rattle.std.specs.Prelude.{ℕ, Bool, true, false, List, [], ◌∷◌, map, replicate, filter, flat_map}
use Rattle.cfi_plan.specs.declared.journal.Entry.{Entry}
use Rattle.cfi_plan.specs.declared.journal.JournalLine.{JournalLine}
use Rattle.cfi_plan.specs.declared.journal.JournalLine.TheVariants as lines
use Rattle.cfi_plan.specs.declared.journal.Who.{Who}
use Rattle.cfi_plan.specs.declared.journal.Who.TheVariants.{Script, Guest}
use Rattle.cfi_plan.specs.declared.plan.ScriptLine.{ScriptLine}
use Rattle.cfi_plan.specs.declared.plan.ScriptLine.TheVariants as script

-- a call: the load of a module or its retirement, by its number, or one refresh
pub data Call : Type 0 where
  Load : (number : ℕ) → Call
  Refresh : Call
  Retire : (number : ℕ) → Call

-- the calls of a line of the script
abbrev pub calls_of : ScriptLine → List Call
calls_of (script.Load number) = Load number ∷ []
calls_of (script.Refresh count) = replicate count Refresh
calls_of (script.Retire number) = Retire number ∷ []

-- those of the whole script
abbrev pub script_calls : List ScriptLine → List Call
script_calls lines = flat_map calls_of lines

-- the call of which a line of the journal tells what came
abbrev pub call_of : JournalLine → Call
call_of (lines.LoadOk number epoch policy) = Load number
call_of (lines.LoadAgain number policy) = Load number
call_of (lines.LoadFull number) = Load number
call_of (lines.LoadPlace number fault) = Load number
call_of (lines.LoadVerify number fault place) = Load number
call_of (lines.LoadVersions number guest quiet) = Load number
call_of (lines.LoadEpochs number) = Load number
call_of (lines.LoadRetired number) = Load number
call_of (lines.RefreshOk epoch) = Refresh
call_of (lines.RefreshVersions guest quiet) = Refresh
call_of lines.RefreshEpochs = Refresh
call_of (lines.RetireOk number epoch policy) = Retire number
call_of (lines.RetireNotLive number) = Retire number
call_of (lines.RetireInUse number user) = Retire number
call_of (lines.RetireVersions number guest quiet) = Retire number
call_of (lines.RetireEpochs number) = Retire number

-- the script asked
abbrev pub is_script : Who → Bool
is_script Script = true
is_script (Guest number) = false

-- the calls that the script has made
abbrev pub made_by_script : (journal : List Entry) → List Call
made_by_script journal = map (λ (e : Entry). call_of e.what) (filter (λ (e : Entry). is_script e.who) journal)
