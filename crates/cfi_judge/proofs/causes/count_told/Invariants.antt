use Rattle.std.specs.Prelude.{◌≡◌, take, count_by}
use Rattle.cfi_valid.specs.Log.{is_versions}
use Rattle.cfi_judge.proofs.causes.count_told.Given as goal

-- so many of the lines so far
abbrev pub invariant-loop-entry : goal.invariant-loop-entry
invariant-loop-entry l = l.count ≡ count_by (is_versions l.guest l.number) (take l.entry-index l.journal)
