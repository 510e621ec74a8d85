use Rattle.std.proofs.Common.{nat_eq}
use Rattle.elf_read.specs.Places.{IsNone}
use Rattle.elf_read.specs.Section.{section_at}
use Rattle.elf_read.proofs.file.File.first_of_kind.Given as goal

abbrev pub invariant-loop-k : goal.invariant-loop-k
invariant-loop-k l = IsNone (λ k. nat_eq (section_at l.self k).kind l.kind) l.k
