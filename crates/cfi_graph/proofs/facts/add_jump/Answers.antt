use Rattle.std.proofs.Common.{ℕ, sym, subst, FitsSigned}
use Rattle.std.specs.Int.{w32}
use Rattle.std.proofs.lemmas.Int.{to_z-of_z}
use Rattle.cfi_graph.specs.Facts.{IsFirst, IsJumpFact}
use Rattle.cfi_graph.proofs.AddsLemmas.{adds_none}
use Rattle.cfi_graph.proofs.FactLemmas.{jump_lies_nowhere, arrow_adds}
use Rattle.cfi_graph.proofs.facts.add_jump.Goals as goal

-- a jump that lies in no function
pub returns-in_default-first_at-clause-adds : goal.returns-in_default-first_at-clause-adds
returns-in_default-first_at-clause-adds c =
    let m = c.args.placed.now in
    let no_first : (first : ℕ) → IsFirst m.functions c.args.at first → ⊥ = λ first is.
    let found = c.first_at.ensures.only first (subst (λ fs. IsFirst fs c.args.at first) (sym c.as_slice.ensures) is) in
    let none = c.in_default-first_at.is in
    cc (found, none) in
    adds_none c.args.facts.now.items (IsJumpFact m c.args.at c.args.link c.args.off)
    (jump_lies_nowhere m c.args.at no_first c.args.link c.args.off c.if-link.false)

pub returns-clause-adds : goal.returns-clause-adds
returns-clause-adds c =
    let m = c.args.placed.now in
    let is_first = subst (λ fs. IsFirst fs c.args.at c.in-Some-first_at.first) c.as_slice.ensures
    c.in-Some-first_at.ensures.some in
    let fits : FitsSigned w32 c.args.off = c.ranges.off in
    let leads = simp to_z-of_z at c.in-Some.ensures.some in
    rw (c.in_ok-push-2.ensures.items)
    (arrow_adds m c.requires.order c.args.at c.in-Some-first_at.first is_first c.args.link c.args.off c.in-Some.word
    c.args.facts.now.items c.if-link.false leads)
