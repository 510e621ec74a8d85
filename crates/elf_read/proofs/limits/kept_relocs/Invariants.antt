use Rattle.std.proofs.Common.{◌≡◌, ◌≤◌, ◌*◌}
use Rattle.elf_read.specs.Places.{total_of}
use Rattle.elf_read.specs.Object.{kept_count}
use Rattle.elf_read.proofs.limits.kept_relocs.Given as goal

abbrev pub invariant-loop-s : goal.invariant-loop-s
invariant-loop-s l = (l.kept ≡ total_of (kept_count l.table) l.s) × (l.kept ≤ l.s * 4294967296)
