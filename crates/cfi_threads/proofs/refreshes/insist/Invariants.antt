use Rattle.cfi_threads.specs.Like.{IsLike}
use Rattle.cfi_threads.proofs.refreshes.insist.Given as goal

abbrev pub invariant-loop : goal.invariant-loop
invariant-loop g l = IsLike l.image l.keeper.entries
