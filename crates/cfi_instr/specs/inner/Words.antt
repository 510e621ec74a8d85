-- How a table of the first relocation on each word grows.
use Rattle.std.specs.Prelude.{Bool, Option, Some, None, if◌then◌else◌}
use Rattle.elf_read.specs.declared.object.Reloc.{Reloc}

-- what is noted where one more relocation comes, which sits there or not: the first one stays
abbrev pub noted : (here : Bool) → Reloc → (found : Option Reloc) → Option Reloc
noted here reloc (Some first) = Some first
noted here reloc None = if here then Some reloc else None
