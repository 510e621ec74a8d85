use Rattle.elf_read.specs.Places.{IsNone}
use Rattle.elf_read.specs.BadSection.{is_bad_section}
use Rattle.elf_read.proofs.bad_section.check_sections.Given as goal

abbrev pub invariant-loop-k : goal.invariant-loop-k
invariant-loop-k l = IsNone (is_bad_section l.sections) l.k
