use Rattle.std.proofs.Common.{ℕ, ◌<◌, ◌≤◌, length}
use Rattle.std.specs.Prelude.{slice_index}
use Rattle.cfi_types.proofs.near.brings.Given as goal

-- no number before this one is so great
abbrev pub invariant-loop-a : goal.invariant-loop-a
invariant-loop-a l = (a : ℕ) → a < length l.row → l.next ≤ slice_index l.row a → l.a ≤ a
