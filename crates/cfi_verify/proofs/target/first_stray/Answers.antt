use Rattle.std.proofs.Common.{sym, refl, ◌∙◌}
use Rattle.std.proofs.lemmas.Bool.{false≢true}
use Rattle.rv_insn.specs.declared.insn.Insn.TheVariants.{Lui}
use Rattle.cfi_unit.specs.declared.unit.Unit.TheVariants.{Plain}
use Rattle.cfi_unit.specs.declared.spot.Spot.{Spot}
use Rattle.cfi_verify.specs.Target.{LeadsWell}
use Rattle.cfi_verify.specs.Fault.{unit_place}
use Rattle.cfi_verify.proofs.ListLemmas.{each_more, each_all, first_here}
use Rattle.cfi_verify.proofs.target.first_stray.Goals as goal

abbrev none : Spot
none = record { at = 0; unit = Plain (Lui 0 0) }

pub returns-then-not-may_lead-clause-some : goal.returns-then-not-may_lead-clause-some
returns-then-not-may_lead-clause-some c = λ loaded all.
    first_here c.args.spots.now (LeadsWell c.args.placed.now loaded c.args.spots.now) unit_place
    c.loop-spot.spot-index _ none (c.loop-spot.invariant loaded all) c.loop-spot-test.true
    (λ well. false≢true (sym c.if-not-may_lead.true ∙ (c.may_lead.ensures loaded all).1 well)) refl

pub loop-spot-preserved : goal.loop-spot-preserved
loop-spot-preserved c = λ loaded all.
    each_more c.args.spots.now (LeadsWell c.args.placed.now loaded c.args.spots.now) c.loop-spot.spot-index none
    (c.loop-spot.invariant loaded all) ((c.may_lead.ensures loaded all).0 c.if-not-may_lead.false)

pub returns-clause-none : goal.returns-clause-none
returns-clause-none c = λ loaded all.
    each_all c.args.spots.now (LeadsWell c.args.placed.now loaded c.args.spots.now) c.loop-spot.spot-index
    (c.loop-spot.invariant loaded all) c.loop-spot-test.false
