use Rattle.std.proofs.Common.{◌≡◌, length, take}
use Rattle.cfi_valid.specs.Script.{script_calls}
use Rattle.cfi_engine.proofs.script.count_calls.Given as goal

-- the calls of the lines so far
abbrev pub invariant-loop-line : goal.invariant-loop-line
invariant-loop-line l = l.calls ≡ length (script_calls (take l.line-index l.script))
