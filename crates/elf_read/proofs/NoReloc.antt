-- A relocation that stands where a list has none.
use Rattle.std.proofs.Common.{None, pos}
use Rattle.elf_read.specs.declared.object.Reloc.{Reloc}
use Rattle.elf_read.specs.declared.object.Area.TheVariants.{Text}

abbrev pub no_reloc : Reloc
no_reloc = record { area = Text; offset = 0; kind = 0; symbol = None; addend = pos 0 }
