use Rattle.std.proofs.Common.{sym, ap, ◌∙◌}
use Rattle.cfi_plan.specs.declared.journal.JournalLine.TheVariants.{LoadAgain, LoadFull}
use Rattle.cfi_sim.specs.inner.Making.{with_told}
use Rattle.cfi_sim.proofs.LoadLemmas.{again_load, absent_load, full_load, loaded_place, room_load}
use Rattle.cfi_sim.proofs.standing.Standing.load.Goals as goal

-- the module is loaded
pub returns-in_ok-tell-in-Again : goal.returns-in_ok-tell-in-Again
returns-in_ok-tell-in-Again c =
    let place = loaded_place c.self.inside.force.roster c.args.number c.prospect.result c.in-Again.is c.prospect.ensures in
    again_load c.self.inside c.self.invariant c.args.self.now c.self.view_is c.requires.under_way c.requires.within
    c.args.number c.requires.known place.0 place.1 c.tell.new.self
    (c.in_ok-tell-in-Again.ensures ∙ ap (with_told (LoadAgain c.args.number c.self.inside.force.policy))
    (sym c.self.view_is))

-- no further one may be
pub returns-in_ok-tell-in-Full : goal.returns-in_ok-tell-in-Full
returns-in_ok-tell-in-Full c =
    full_load c.self.inside c.self.invariant c.args.self.now c.self.view_is c.requires.under_way c.requires.within
    c.args.number c.requires.known c.in-Full.ensures.0 c.in-Full.ensures.1 c.tell-in-Full.new.self
    (c.in_ok-tell-in-Full.ensures ∙ ap (with_told (LoadFull c.args.number)) (sym c.self.view_is))

pub join-requires-clause-absent : goal.join-requires-clause-absent
join-requires-clause-absent c =
    absent_load c.self.inside c.self.invariant c.args.self.now c.self.view_is c.requires.under_way c.requires.within
    c.args.number c.requires.known c.in-Open.ensures.0

pub join-requires-clause-room : goal.join-requires-clause-room
join-requires-clause-room c =
    room_load c.self.inside c.self.invariant c.args.self.now c.self.view_is c.requires.under_way c.requires.within
    c.args.number c.requires.known c.in-Open.ensures.1
