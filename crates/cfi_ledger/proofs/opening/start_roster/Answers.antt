use Rattle.std.proofs.Common.{List, subst}
use Rattle.cfi_aux.specs.declared.placed.Placed.{Placed}
use Rattle.cfi_ledger.specs.Entries.{AllEnter, IsFirstOut}
use Rattle.cfi_ledger.proofs.OpeningLemmas.{first_lost}
use Rattle.cfi_ledger.proofs.opening.start_roster.Goals as goal

-- a guest has no entry
pub returns-in-Some-clause-fault : goal.returns-in-Some-clause-fault
returns-in-Some-clause-fault c =
    let plan = c.args.plan.now in
    let out = subst (λ (ps : List Placed). IsFirstOut plan ps c.in-Some.guest) c.modules.ensures.value
    c.in-Some.ensures.some in
    first_lost plan c.args.modules.now c.requires.can c.in_ok-roster.roster c.in_ok-roster.ensures.ok c.in-Some.guest
    out

-- each guest has somewhere to begin
pub returns-clause-ok : goal.returns-clause-ok
returns-clause-ok c = record {
  started = c.in_ok-roster.ensures.ok;
  enter = subst (AllEnter c.args.plan.now) c.modules.ensures.value c.in_default.ensures.none;
}
