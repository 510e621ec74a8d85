use Rattle.std.proofs.Common.{◌≡◌, ◌≤◌, ◌*◌}
use Rattle.elf_read.specs.Places.{joined}
use Rattle.elf_read.specs.Join.{data_of, data_end}
use Rattle.elf_read.proofs.join.join_data.Given as goal

abbrev pub invariant-loop-k : goal.invariant-loop-k
invariant-loop-k l =
    (l.out.items ≡ joined (data_of l.table) l.k) × (l.end ≡ data_end l.table l.k) × (l.end ≤ l.k * 4294967312)
