use Rattle.std.proofs.Common.{ℕ, sym, subst}
use Rattle.cfi_graph.specs.Facts.{IsFirst}
use Rattle.cfi_graph.proofs.FactLemmas.{tail_adds_one, tail_adds_two}
use Rattle.cfi_graph.proofs.branch_facts.add_tail.Goals as goal

-- a word that lies in no function
pub returns-in_default-clause-adds : goal.returns-in_default-clause-adds
returns-in_default-clause-adds c = λ imports.
    let m = c.args.placed.now in
    let no_first : (first : ℕ) → IsFirst m.functions c.args.at first → ⊥ = λ first is.
    let found = c.first_at.ensures.only first (subst (λ fs. IsFirst fs c.args.at first) (sym c.as_slice.ensures) is) in
    let none = c.in_default.is in
    cc (found, none) in
    rw (c.in_ok-push.ensures.items)
    (tail_adds_one m c.args.at no_first imports c.args.classes.now c.args.number c.args.slot c.args.node c.type_node-to.result
    c.args.facts.now.items c.type_node-to.ensures)

pub returns-clause-adds : goal.returns-clause-adds
returns-clause-adds c = λ imports.
    let m = c.args.placed.now in
    let is_first = subst (λ fs. IsFirst fs c.args.at c.in-Some.first) c.as_slice.ensures c.in-Some.ensures.some in
    rw (c.in_ok-push-2.ensures.items, c.in_ok-push.ensures.items)
    (tail_adds_two m c.requires.order c.args.at c.in-Some.first is_first imports c.args.classes.now c.args.number c.args.slot
    c.args.node c.type_node-to.result c.args.facts.now.items c.type_node-to.ensures)
