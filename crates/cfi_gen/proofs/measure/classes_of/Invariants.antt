use Rattle.std.proofs.Common.{◌≡◌, take}
use Rattle.std.specs.Prelude.{count_by}
use Rattle.cfi_gen.specs.Measure.{has_targets}
use Rattle.cfi_gen.proofs.measure.classes_of.Given as goal

-- those so far
abbrev pub invariant-loop-group : goal.invariant-loop-group
invariant-loop-group l = l.classes ≡ count_by has_targets (take l.group-index l.groups)
