use Rattle.std.proofs.Common.{false, sym, refl, ◌∙◌}
use Rattle.std.proofs.lemmas.Bool.{false≢true}
use Rattle.cfi_verify.specs.declared.checks.CheckSpot.{CheckSpot}
use Rattle.cfi_verify.specs.Branches.{EntriesFit}
use Rattle.elf_read.specs.Lists.{own_number}
use Rattle.cfi_verify.proofs.ListLemmas.{each_more, each_all, first_here}
use Rattle.cfi_verify.proofs.branches.first_bad_switch.Goals as goal

abbrev none : CheckSpot
none = record { at = 0; link = false; slot = 0 }

pub returns-then-not-entries_fit-clause-some : goal.returns-then-not-entries_fit-clause-some
returns-then-not-entries_fit-clause-some c =
    first_here c.args.checks.now (EntriesFit c.args.placed.now c.args.spots.now) own_number c.loop-number.number _ none
    c.loop-number.invariant c.loop-number-test.true
    (λ fits. false≢true (sym c.if-not-entries_fit.true ∙ c.entries_fit.ensures.1 fits)) refl

pub loop-number-preserved : goal.loop-number-preserved
loop-number-preserved c =
    each_more c.args.checks.now (EntriesFit c.args.placed.now c.args.spots.now) c.loop-number.number none
    c.loop-number.invariant (c.entries_fit.ensures.0 c.if-not-entries_fit.false)

pub returns-clause-none : goal.returns-clause-none
returns-clause-none c =
    each_all c.args.checks.now (EntriesFit c.args.placed.now c.args.spots.now) c.loop-number.number
    c.loop-number.invariant c.loop-number-test.false
