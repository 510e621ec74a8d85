use Rattle.std.proofs.Common.{ap, sym, subst}
use Rattle.cfi_aux.specs.declared.placed.Placed.{Placed}
use Rattle.cfi_modules.specs.Series.{CanRejoin}
use Rattle.cfi_ledger.specs.Roster.{Offer, Roster, roster_of, series_of}
use Rattle.cfi_ledger.proofs.roster.Roster.take.Goals as goal

-- the series is the roster's
pub rejoin-requires : goal.rejoin-requires
rejoin-requires c =
    subst (λ (p : Placed). CanRejoin (series_of (roster_of c.self.inside)) p)
    (ap (λ (o : Offer). o.placed) (sym c.offer.view_is))
    (subst (λ (r : Roster). CanRejoin (series_of r) c.args.offer.placed) (sym c.self.view_is) c.requires)
