use Rattle.cfi_threads.specs.Like.{IsLike}
use Rattle.cfi_threads.proofs.refreshes.come_and_go.Given as goal

abbrev pub invariant-loop : goal.invariant-loop
invariant-loop g l = IsLike l.image l.keeper.entries
