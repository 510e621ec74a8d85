use Rattle.std.proofs.Common.{ℕ, sym, subst}
use Rattle.cfi_aux.specs.declared.records.Kind.TheVariants.{Return}
use Rattle.cfi_graph.specs.Facts.{IsFirst, IsBranchFact}
use Rattle.cfi_graph.proofs.AddsLemmas.{adds_none}
use Rattle.cfi_graph.proofs.FactLemmas.{nowhere_return, return_adds}
use Rattle.cfi_graph.proofs.branch_facts.add_return.Goals as goal

-- a word that lies in no function
pub returns-in_default-clause-adds : goal.returns-in_default-clause-adds
returns-in_default-clause-adds c = λ imports classes number.
    let m = c.args.placed.now in
    let no_first : (first : ℕ) → IsFirst m.functions c.args.at first → ⊥ = λ first is.
    let found = c.first_at.ensures.only first (subst (λ fs. IsFirst fs c.args.at first) (sym c.as_slice.ensures) is) in
    let none = c.in_default.is in
    cc (found, none) in
    adds_none c.args.facts.now.items (IsBranchFact imports classes number m c.args.at c.args.slot Return)
    (nowhere_return m c.args.at no_first imports classes number c.args.slot)

pub returns-clause-adds : goal.returns-clause-adds
returns-clause-adds c = λ imports classes number.
    let m = c.args.placed.now in
    let is_first = subst (λ fs. IsFirst fs c.args.at c.in-Some.first) c.as_slice.ensures c.in-Some.ensures.some in
    rw (c.in_ok-push.ensures.items)
    (return_adds m c.requires.order c.args.at c.in-Some.first is_first imports classes number c.args.slot c.args.facts.now.items)
