use Rattle.std.proofs.Common.{◌≡◌, map, take}
use Rattle.cfi_instr.specs.Moves.{moved_kind}
use Rattle.cfi_instr.proofs.arrangement.Arrangement.moved_kinds.Given as goal

abbrev pub invariant-loop-kind : goal.invariant-loop-kind
invariant-loop-kind l =
    l.found.items ≡ map (moved_kind l.self.source l.self.offsets) (take l.kind-index l.branches)
