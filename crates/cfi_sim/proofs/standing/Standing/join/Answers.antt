use Rattle.std.proofs.Common.{◌+◌, sym, ◌∙◌}
use Rattle.cfi_valid.specs.Loaded.{planned_name}
use Rattle.cfi_ledger.proofs.JoinedLemmas.{entrant_offered}
use Rattle.cfi_sim.proofs.LoadLemmas.{may_load, begun_load, offer_fits, refused_load}
use Rattle.cfi_sim.proofs.standing.Standing.join.Goals as goal

pub begin-requires-clause-fits : goal.begin-requires-clause-fits
begin-requires-clause-fits c =
    let a = c.self.inside in
    let m = c.index-modules-number.result in
    let entrant = c.entrant-entrant.result in
    let its = c.entrant-entrant.ensures in
    let offer = c.in-Ok.offer in
    let is = entrant_offered entrant c.args.number (planned_name a.plan.now.modules c.args.number) (a.force.policy + 1)
    its.number its.name its.policy m a.force.roster offer c.in-Ok.ensures.ok in
    offer_fits a c.self.invariant c.args.self.now c.self.view_is c.requires.under_way c.requires.within
    c.args.number c.requires.known c.requires.absent c.requires.room m c.index-modules-number.is offer is
    c.in-Ok.image c.in-Ok.ensures.image c.in-Ok.ensures.ordered c.offer.new.self c.in-Ok.ensures.same

pub begin-requires-clause-may : goal.begin-requires-clause-may
begin-requires-clause-may c =
    let a = c.self.inside in
    let m = c.index-modules-number.result in
    let entrant = c.entrant-entrant.result in
    let its = c.entrant-entrant.ensures in
    let offer = c.in-Ok.offer in
    let is = entrant_offered entrant c.args.number (planned_name a.plan.now.modules c.args.number) (a.force.policy + 1)
    its.number its.name its.policy m a.force.roster offer c.in-Ok.ensures.ok in
    may_load a c.self.invariant c.args.self.now c.self.view_is c.requires.under_way c.requires.within
    c.args.number c.requires.known c.requires.absent c.requires.room m c.index-modules-number.is offer is
    c.in-Ok.image c.in-Ok.ensures.image c.in-Ok.ensures.ordered

-- its load begins
pub returns-in_ok-begun-in-Ok : goal.returns-in_ok-begun-in-Ok
returns-in_ok-begun-in-Ok c =
    let a = c.self.inside in
    let m = c.index-modules-number.result in
    let entrant = c.entrant-entrant.result in
    let its = c.entrant-entrant.ensures in
    let offer = c.in-Ok.offer in
    let is = entrant_offered entrant c.args.number (planned_name a.plan.now.modules c.args.number) (a.force.policy + 1)
    its.number its.name its.policy m a.force.roster offer c.in-Ok.ensures.ok in
    begun_load a c.self.invariant c.args.self.now c.self.view_is c.requires.under_way c.requires.within
    c.args.number c.requires.known c.requires.absent c.requires.room m c.index-modules-number.is offer is
    c.in-Ok.image c.in-Ok.ensures.image c.in-Ok.ensures.ordered c.offer.new.self c.in-Ok.ensures.same
    c.begin.new.self c.in_ok-begun-in-Ok.begun c.in_ok-begun-in-Ok.ensures

-- it is told why the module is not loaded
pub returns-in_ok-tell-in-Err : goal.returns-in_ok-tell-in-Err
returns-in_ok-tell-in-Err c =
    refused_load c.self.inside c.self.invariant c.args.self.now c.self.view_is c.requires.under_way c.requires.within
    c.args.number c.requires.known c.requires.absent c.requires.room c.index-modules-number.result
    c.index-modules-number.is c.in-Err.fault c.in-Err.ensures.fault c.in-Some.line
    (sym c.in-Some.is ∙ c.join_line.ensures) c.offer.new.self c.in-Err.ensures.same c.tell.new.self c.in_ok-tell-in-Err.ensures
