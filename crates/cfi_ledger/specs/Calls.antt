-- The script's calls, as the code and as a journal have them.
use Rattle.std.specs.Prelude.{List, drop}
use Rattle.cfi_plan.specs.declared.journal.Who.{Who}
use Rattle.cfi_plan.specs.declared.journal.Who.TheVariants.{Script, Guest}
use Rattle.cfi_valid.specs.Script.{Call, Load, Refresh, Retire}
use Rattle.cfi_ledger.specs.declared.due.Due.{Due}
use Rattle.cfi_ledger.specs.declared.due.Due.TheVariants as dues

-- the call that is due
abbrev pub call_due : Due → Call
call_due (dues.Load number) = Load number
call_due dues.Refresh = Refresh
call_due (dues.Retire number) = Retire number

-- the calls of the script that are left after one by whoever asked
abbrev pub calls_after : Who → List Call → List Call
calls_after Script left = drop 1 left
calls_after (Guest number) left = left
