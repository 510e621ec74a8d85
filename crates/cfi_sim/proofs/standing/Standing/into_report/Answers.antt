use Rattle.std.proofs.Common.{List, length, sym, subst, ◌∙◌}
use Rattle.cfi_model.specs.Raw.{Raw}
use Rattle.cfi_report.specs.declared.report.GuestPart.{GuestPart}
use Rattle.cfi_sim.specs.inner.Parts.{ArePartsOf}
use Rattle.cfi_sim.proofs.PartsLemmas.{told_end}
use Rattle.cfi_sim.proofs.standing.Standing.into_report.Goals as goal

-- what there is at the end
pub returns : goal.returns
returns c =
    let a = c.self.inside in
    let plan = a.plan.now in
    told_end a c.args.self c.self.view_is c.phase-phase.result c.phase-phase.ensures c.from_vec.result
    (c.from_vec.ensures ∙ c.into_lines.ensures ∙ c.self.invariant.roster_is.lines_are) c.from_vec-2.result
    (c.from_vec-2.ensures ∙ c.into_lines-2.ensures) c.from_vec-3.result
    (subst (λ (ps : List GuestPart). ArePartsOf plan a.world.guests (length plan.guests) ps) (sym c.from_vec-3.ensures)
    (subst (λ (gs : List Raw). ArePartsOf plan gs (length plan.guests) c.in_ok-guests.guests.items) c.guests.ensures
    c.in_ok-guests.ensures))
