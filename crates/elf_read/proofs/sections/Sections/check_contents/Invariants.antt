use Rattle.elf_read.specs.Places.{IsNone}
use Rattle.elf_read.specs.Section.{is_short}
use Rattle.elf_read.proofs.sections.Sections.check_contents.Given as goal

abbrev pub invariant-loop-k : goal.invariant-loop-k
invariant-loop-k l = IsNone (is_short l.self) l.k
