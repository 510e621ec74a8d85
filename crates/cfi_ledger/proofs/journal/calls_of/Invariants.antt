use Rattle.std.proofs.Common.{◌≡◌, map, take}
use Rattle.cfi_valid.specs.Script.{script_calls}
use Rattle.cfi_ledger.specs.Calls.{call_due}
use Rattle.cfi_ledger.proofs.journal.calls_of.Given as goal

-- the calls of the lines so far
abbrev pub invariant-loop-line : goal.invariant-loop-line
invariant-loop-line l = map call_due l.calls.items ≡ script_calls (take l.line-index l.script)
