use Rattle.std.proofs.Common.{◌≡◌, Some}
use Rattle.std.proofs.lemmas.Result.{IfOk-weaker}
use Rattle.cfi_sim.specs.declared.pending.Pending.TheVariants.{Load}
use Rattle.cfi_sim.specs.inner.Making.{HasCome, with_entered}
use Rattle.cfi_sim.specs.inner.Standing.{whole_inside}
use Rattle.cfi_sim.proofs.UpdateLemmas.{held, load_comes}
use Rattle.cfi_sim.proofs.standing.Standing.make.Goals as goal

-- the module joins as when its load began
pub enter-requires-clause-fits : goal.enter-requires-clause-fits
enter-requires-clause-fits c =
    let a = c.self.inside in
    let value = c.take.ensures.value in
    let is = c.in-Some-Load.is in
    let which = c.in-Some-Load.field-0-is in
    let same : a.pending ≡ Some (Load c.in-Some-Load.offer) = cc in
    held a c.self.invariant c.args.self.now c.self.view_is c.requires c.in-Some-Load.offer same

-- and is loaded
pub returns-in-Some-Load : goal.returns-in-Some-Load
returns-in-Some-Load c =
    let a = c.self.inside in
    let value = c.take.ensures.value in
    let is = c.in-Some-Load.is in
    let which = c.in-Some-Load.field-0-is in
    let offer = c.in-Some-Load.offer in
    let same : a.pending ≡ Some (Load offer) = cc in
    let new = c.enter.new.self in
    IfOk-weaker c.enter.result (λ _. new ≡ with_entered offer (whole_inside a)) (λ _. HasCome c.args.self.now new)
    (λ _ entered. load_comes a c.self.invariant c.args.self.now c.self.view_is c.requires offer same new entered)
    c.enter.ensures
