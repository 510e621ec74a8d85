use Rattle.elf_read.specs.Places.{IsNone}
use Rattle.elf_read.specs.Section.{has_name}
use Rattle.elf_read.proofs.file.File.first_named.Given as goal

abbrev pub invariant-loop-k : goal.invariant-loop-k
invariant-loop-k l = IsNone (λ k. has_name l.self k l.name) l.k
