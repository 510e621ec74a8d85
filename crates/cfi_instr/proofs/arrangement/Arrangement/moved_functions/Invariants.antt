use Rattle.std.proofs.Common.{◌≡◌, map, take}
use Rattle.cfi_instr.specs.Moves.{moved_function}
use Rattle.cfi_instr.proofs.arrangement.Arrangement.moved_functions.Given as goal

abbrev pub invariant-loop-function : goal.invariant-loop-function
invariant-loop-function l =
    l.found.items ≡ map (moved_function l.self.source l.self.offsets) (take l.function-index l.functions)
