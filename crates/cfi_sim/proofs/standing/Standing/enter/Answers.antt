use Rattle.std.proofs.Common.{◌≡◌, ◌+◌, ◌++◌, List, [], ◌∷◌, None, sym, ap, subst, ◌∙◌}
use Rattle.cfi_ledger.specs.Journal.{asked_by}
use Rattle.cfi_ledger.specs.Roster.{IsRosterOf, loaded_in_roster, series_of}
use Rattle.cfi_ledger.specs.declared.force.Force.{Force}
use Rattle.cfi_modules.specs.Series.{AreAllLive}
use Rattle.cfi_plan.specs.declared.journal.Entry.{Entry}
use Rattle.cfi_plan.specs.declared.journal.JournalLine.TheVariants.{LoadOk}
use Rattle.cfi_plan.specs.declared.journal.Who.TheVariants.{Script}
use Rattle.cfi_sim.proofs.UpdateLemmas.{entered_live, entered_roster, has_entered, none_pending, rejoins}
use Rattle.cfi_sim.specs.inner.Standing.{Whole, FitsLoaded}
use Rattle.cfi_sim.proofs.standing.Standing.enter.Goals as goal

-- it joins the roster as when it was offered
pub take-requires : goal.take-requires
take-requires c =
    rejoins c.self.inside c.self.invariant c.args.self.now c.self.view_is c.args.offer c.requires.fits

-- the roster has its line
pub invariant_of-self-2 : goal.invariant_of-self-2
invariant_of-self-2 c =
    let a = c.self.inside in
    let f = c.put_load.new.self in
    record {
      roster_is = subst (λ (g : Force). IsRosterOf a.plan.now g.roster) (sym c.put_load.ensures.same)
          (entered_roster a c.self.invariant c.args.self.now c.self.view_is c.args.offer c.requires.fits
          c.take.new.self c.in_ok-take.ensures.ok);
      live = subst (λ (g : Force). AreAllLive (series_of g.roster)) (sym c.put_load.ensures.same)
          (entered_live a c.self.invariant c.args.self.now c.self.view_is c.args.offer c.requires.fits
          c.take.new.self c.in_ok-take.ensures.ok);
      pending = none_pending (FitsLoaded a.plan.now a.modules.now (loaded_in_roster f.roster) f.policy) a.pending
          (subst (λ (w : Whole). w.stage.aim ≡ None) (sym c.self.view_is) c.requires.none);
    }

-- and the module is in force
pub returns : goal.returns
returns c =
    let a = c.self.inside in
    let entry = asked_by Script (LoadOk c.number-number.result (a.force.epoch + 1) (a.force.policy + 1)) in
    has_entered a c.self.invariant c.args.self.now c.self.view_is c.args.offer c.requires.fits
    c.take.new.self c.in_ok-take.ensures.ok c.requires.none c.number-number.result c.number-number.ensures
    c.put_load.new.self c.put_load.ensures.same
    (c.put_load.ensures.line.lines_are ∙ ap (λ (es : List Entry). es ++ entry ∷ []) c.reserve.ensures.lines)
