use Rattle.std.proofs.Common.{sym, subst}
use Rattle.cfi_sim.specs.inner.Standing.{Whole, PendingFits}
use Rattle.cfi_sim.proofs.standing.Standing.begin.Goals as goal

-- what it brings fits
pub invariant_of-self-2 : goal.invariant_of-self-2
invariant_of-self-2 c = record {
  roster_is = c.self.invariant.roster_is;
  live = c.self.invariant.live;
  pending = subst (λ (w : Whole). PendingFits w c.args.pending) (sym c.self.view_is) c.requires.fits;
}
