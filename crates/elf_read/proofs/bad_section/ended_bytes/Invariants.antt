use Rattle.std.proofs.Common.{ℕ, ◌≢◌, ◌<◌, ◌≤◌, length, get_or}
use Rattle.elf_read.proofs.bad_section.ended_bytes.Given as goal

abbrev pub invariant-loop-end : goal.invariant-loop-end
invariant-loop-end l = (l.end ≤ length l.names) × ((j : ℕ) → l.end ≤ j → j < length l.names → get_or l.names j 0 ≢ 0)

abbrev pub decreases-loop-end : goal.decreases-loop-end
decreases-loop-end l = l.end
