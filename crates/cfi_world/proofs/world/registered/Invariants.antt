use Rattle.std.proofs.Common.{◌≡◌, ◌-◌, ◌++◌, replicate}
use Rattle.cfi_word.specs.declared.limits.TheConstants.{GUESTS}
use Rattle.cfi_model.specs.declared.quiet.Quiet.TheVariants.{Published, Unregistered}
use Rattle.cfi_world.proofs.world.registered.Given as goal

abbrev pub invariant-loop-k : goal.invariant-loop-k
invariant-loop-k l = l.quiets ≡ replicate l.k (Published l.epoch) ++ replicate (GUESTS - l.k) Unregistered
