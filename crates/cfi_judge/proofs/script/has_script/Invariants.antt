use Rattle.std.specs.Prelude.{◌≡◌, ◌↔◌, drop}
use Rattle.cfi_valid.specs.Script.{made_by_script}
use Rattle.cfi_valid.specs.Valid.{HasScript}
use Rattle.cfi_judge.proofs.script.has_script.Given as goal

-- the lines that are left tell the calls that are left exactly where all do
abbrev pub invariant-loop-entry : goal.invariant-loop-entry
invariant-loop-entry l = (made_by_script (drop l.entry-index l.entry-items) ≡ l.calls.left) ↔ HasScript l.plan l.report
