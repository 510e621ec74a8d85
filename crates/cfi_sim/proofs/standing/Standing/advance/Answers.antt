use Rattle.std.proofs.Common.{◌+◌, sym, subst, ◌∙◌}
use Rattle.cfi_sim.specs.inner.Standing.{IsUnderWay, whole_inside}
use Rattle.cfi_sim.proofs.UpdateLemmas.{dropped_advance, fits_aim, noted_advance}
use Rattle.cfi_sim.proofs.standing.Standing.advance.Goals as goal

-- the update is not made
pub returns-in_ok-drop_update : goal.returns-in_ok-drop_update
returns-in_ok-drop_update c =
    dropped_advance c.self.inside c.args.self.now c.self.view_is c.requires.under_way c.if-self-ge-MAX_EVENTS.false
    c.phase-phase.result c.phase-phase.ensures (sym c.is_idle.ensures ∙ c.if-is_idle.false)
    c.turn-turned.new.self c.turn-turned.result
    c.turn-turned.ensures c.in-VersionsSpent.guest c.in-VersionsSpent.quiet c.in-VersionsSpent.is
    c.drop_update.new.self c.in_ok-drop_update.ensures

-- what it is for fits still
pub note-requires : goal.note-requires
note-requires c =
    fits_aim (whole_inside c.self.inside) (subst IsUnderWay (sym c.self.view_is) c.requires.under_way)
    c.turn-turned.new.self (c.self.inside.events + 1)

-- it goes on
pub returns-in_ok-note : goal.returns-in_ok-note
returns-in_ok-note c =
    noted_advance c.self.inside c.args.self.now c.self.view_is c.requires.under_way c.if-self-ge-MAX_EVENTS.false
    c.phase-phase.result c.phase-phase.ensures (sym c.is_idle.ensures ∙ c.if-is_idle.false)
    c.turn-turned.new.self c.turn-turned.result
    c.turn-turned.ensures c.in_default.not-VersionsSpent c.note.new.self c.in_ok-note.ensures
