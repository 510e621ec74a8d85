use Rattle.std.proofs.Common.{◌≡◌, ◌++◌}
use Rattle.std.specs.Prelude.{string_bytes}
use Rattle.elf_read.specs.Places.{joined}
use Rattle.cfi_gen.specs.Source.{node_lines, lines_at}
use Rattle.cfi_gen.proofs.source.source_of.Given as goal

-- the functions so far
abbrev pub invariant-loop-place : goal.invariant-loop-place
invariant-loop-place l = string_bytes l.text ≡ node_lines ++ joined (lines_at l.fn.drawn) l.place
