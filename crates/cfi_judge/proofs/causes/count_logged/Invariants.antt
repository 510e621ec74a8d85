use Rattle.std.specs.Prelude.{◌≡◌, take, count_by}
use Rattle.cfi_valid.specs.Log.{is_too_old}
use Rattle.cfi_judge.proofs.causes.count_logged.Given as goal

-- so many of the entries so far
abbrev pub invariant-loop-entry : goal.invariant-loop-entry
invariant-loop-entry l = l.count ≡ count_by (is_too_old l.number) (take l.entry-index l.log)
