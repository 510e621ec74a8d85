use Rattle.cfi_aux.specs.declared.records.Kind.{Kind}
use Rattle.cfi_graph.specs.Calls.{HasKind}
use Rattle.cfi_graph.specs.Facts.{Adds}
use Rattle.cfi_graph.specs.More.{IsMetBranch, IsMetFact}
use Rattle.cfi_graph.specs.inner.Imports.{imports_in}
use Rattle.cfi_graph.proofs.AddsLemmas.{adds_none, on_ok}
use Rattle.cfi_graph.proofs.BoundLemmas.{word_within}
use Rattle.cfi_graph.proofs.MetLemmas.{no_kind_met, check_met}
use Rattle.cfi_graph.proofs.more.add_met_unit.Goals as goal

-- a slot without a branch
pub returns-in_default-kind_of : goal.returns-in_default-kind_of
returns-in_default-kind_of c =
    let m = c.args.placed.now in
    let before = imports_in c.args.before.now in
    let own = imports_in c.args.own.now in
    let spot = c.args.spot.now in
    let none : (kind : Kind) → HasKind m c.in-Check.slot kind → ⊥ = λ kind has.
    rw c.in_default-kind_of.is at (c.kind_of.ensures.only kind has) in
    adds_none c.args.facts.now.items (IsMetFact before own m spot.at spot.unit)
    (no_kind_met before own m spot.at c.in-Check.slot c.in-Check.link c.in-Check.rs1 c.in-Check.imm spot.unit c.in-Check.is
    none)

pub add_met_branch-requires-clause-within : goal.add_met_branch-requires-clause-within
add_met_branch-requires-clause-within c =
    word_within c.args.placed.now c.requires.shaped c.args.spot.now.at c.args.spot.now.unit c.requires.stands

pub returns : goal.returns
returns c =
    let m = c.args.placed.now in
    let before = imports_in c.args.before.now in
    let own = imports_in c.args.own.now in
    let spot = c.args.spot.now in
    let old = c.args.facts.now.items in
    let new = c.add_met_branch.new.facts.items in
    on_ok c.add_met_branch.result (Adds old new (IsMetBranch before own m spot.at c.in-Check.slot c.in-Some.kind.now))
    (Adds old new (IsMetFact before own m spot.at spot.unit))
    (check_met before own m spot.at c.in-Check.slot c.in-Check.link c.in-Check.rs1 c.in-Check.imm spot.unit c.in-Check.is
    c.in-Some.kind.now c.in-Some.ensures.some old new)
    c.add_met_branch.ensures
