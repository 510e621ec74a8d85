use Rattle.std.proofs.Common.{ℕ, ◌≡◌, ◌<◌, ◌≤◌, ◌*◌, vec_len, get_or}
use Rattle.elf_read.specs.Join.{start_of, text_end, data_end}
use Rattle.elf_read.proofs.layout.layout_of.Given as goal

abbrev pub invariant-loop-k : goal.invariant-loop-k
invariant-loop-k l =
    (vec_len l.starts ≡ l.k)
    × ((j : ℕ) → j < l.k → get_or l.starts.items j 0 ≡ start_of l.table j)
    × (l.text_size ≡ text_end l.table l.k)
    × (l.data_size ≡ data_end l.table l.k)
    × (l.text_size ≤ l.k * 4294967296)
    × (l.data_size ≤ l.k * 4294967312)
