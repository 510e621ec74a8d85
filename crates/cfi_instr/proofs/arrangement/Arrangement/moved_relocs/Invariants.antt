use Rattle.std.proofs.Common.{◌≡◌, map, take}
use Rattle.cfi_instr.specs.inner.Arrangement.{moved_reloc_by}
use Rattle.cfi_instr.proofs.arrangement.Arrangement.moved_relocs.Given as goal

abbrev pub invariant-loop-reloc : goal.invariant-loop-reloc
invariant-loop-reloc l = l.found.items ≡ map (moved_reloc_by l.self) (take l.reloc-index l.relocs)
