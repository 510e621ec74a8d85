use Rattle.std.proofs.Common.{◌≡◌, take}
use Rattle.std.specs.List.{flat_map}
use Rattle.cfi_unit.specs.Unit.{words_of}
use Rattle.cfi_calls.proofs.made.words_of.Given as goal

abbrev pub invariant-loop-unit : goal.invariant-loop-unit
invariant-loop-unit l = l.words.items ≡ flat_map words_of (take l.unit-index l.code)
