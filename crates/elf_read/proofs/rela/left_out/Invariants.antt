use Rattle.std.proofs.Common.{◌≡◌, ◌<◌, ℕ, length, slice_index_or, false}
use Rattle.elf_read.specs.Symbol.{is_left_out}
use Rattle.elf_read.proofs.rela.left_out.Given as goal

abbrev pub invariant-loop-k : goal.invariant-loop-k
invariant-loop-k l = (length l.marks.items ≡ l.k)
    × ((j : ℕ) → j < l.k → slice_index_or l.marks.items j false ≡ is_left_out l.table j)
