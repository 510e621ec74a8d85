use Rattle.elf_read.specs.Places.{IsNone}
use Rattle.elf_read.specs.Section.{is_record_section}
use Rattle.elf_read.proofs.file.File.first_record.Given as goal

abbrev pub invariant-loop-k : goal.invariant-loop-k
invariant-loop-k l = IsNone (is_record_section l.self l.name) l.k
