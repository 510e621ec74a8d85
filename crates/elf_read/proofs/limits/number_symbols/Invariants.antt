use Rattle.std.proofs.Common.{ℕ, ◌≡◌, ◌<◌, ◌≤◌, vec_len, get_or}
use Rattle.elf_read.specs.Object.{symbol_number}
use Rattle.elf_read.proofs.limits.number_symbols.Given as goal

abbrev pub invariant-loop-k : goal.invariant-loop-k
invariant-loop-k l =
    (vec_len l.numbers ≡ l.k)
    × ((j : ℕ) → j < l.k → get_or l.numbers.items j 0 ≡ symbol_number l.table j)
    × (l.kept ≡ symbol_number l.table l.k)
    × (l.kept ≤ l.k)
