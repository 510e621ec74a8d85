use Rattle.std.proofs.Common.{◌≡◌, ◌≤◌, ℕ, List, length, get_or}
use Rattle.cfi_instr.specs.inner.Ends.{AreCarried}
use Rattle.cfi_instr.proofs.ends.carry.Given as goal

-- the words before `w` are carried, and the others are as they were
pub record IsOnWay (old new : List ℕ) (w : ℕ) : Type 0 where
  pub size : length new ≡ length old
  pub passed : AreCarried old new w
  pub ahead : (k : ℕ) → w ≤ k → get_or new k 0 ≡ get_or old k 0

abbrev pub invariant-loop-w : goal.invariant-loop-w
invariant-loop-w l = IsOnWay l.initial.ends.items l.ends.items l.w
