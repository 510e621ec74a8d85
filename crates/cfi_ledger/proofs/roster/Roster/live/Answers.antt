use Rattle.std.proofs.Common.{subst}
use Rattle.cfi_modules.specs.Loaded.{AreAmong}
use Rattle.cfi_ledger.specs.Roster.{Roster, live_placed}
use Rattle.cfi_ledger.proofs.roster.Roster.live.Goals as goal

-- they are among those of the series
pub returns-clause-among : goal.returns-clause-among
returns-clause-among c =
    subst (λ (r : Roster). AreAmong (live_placed r) r.placed) c.self.view_is c.live.ensures.among
