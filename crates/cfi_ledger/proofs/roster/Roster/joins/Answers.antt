use Rattle.std.proofs.Common.{subst}
use Rattle.std.proofs.lemmas.Result.{IfOk-weaker}
use Rattle.cfi_aux.specs.declared.placed.Placed.{Placed}
use Rattle.cfi_modules.specs.Series.{JoinsTo}
use Rattle.cfi_ledger.specs.Roster.{Roster, series_of}
use Rattle.cfi_ledger.proofs.roster.Roster.joins.Goals as goal

-- the roster's modules are those of its series
pub returns-clause-ok : goal.returns-clause-ok
returns-clause-ok c =
    let s = c.self.inside.series in
    let m = c.args.unplaced.now in
    IfOk-weaker c.joins.result (λ _. (one : Placed) × JoinsTo s m one)
    (λ _. (one : Placed) × JoinsTo (series_of c.args.self.now) m one)
    (λ _ joined. subst (λ (r : Roster). (one : Placed) × JoinsTo (series_of r) m one) c.self.view_is joined)
    c.joins.ensures.ok
