use Rattle.std.proofs.Common.{◌≡◌, ◌++◌, take}
use Rattle.elf_write.specs.Contents.{relas_of}
use Rattle.elf_write.proofs.contents.put_relas.Given as goal

abbrev pub invariant-loop-reloc : goal.invariant-loop-reloc
invariant-loop-reloc l = l.out.items ≡ l.fn.out.items ++ relas_of l.area (take l.reloc-index l.relocs)
