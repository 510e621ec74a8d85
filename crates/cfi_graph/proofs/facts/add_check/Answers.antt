use Rattle.cfi_aux.specs.declared.records.Kind.{Kind}
use Rattle.cfi_graph.specs.Calls.{HasKind}
use Rattle.cfi_graph.specs.Facts.{IsBranchFact, IsUnitFact, Adds}
use Rattle.cfi_graph.specs.inner.Imports.{imports_in}
use Rattle.cfi_graph.proofs.AddsLemmas.{adds_none, on_ok}
use Rattle.cfi_graph.proofs.BoundLemmas.{check_within, branch_names}
use Rattle.cfi_graph.proofs.BranchLemmas.{no_kind, check_adds}
use Rattle.cfi_graph.proofs.facts.add_check.Goals as goal

-- a slot without a branch
pub returns-in_default-clause-adds : goal.returns-in_default-clause-adds
returns-in_default-clause-adds c =
    let m = c.args.placed.now in
    let spot = c.args.spot.now in
    let none : (kind : Kind) → HasKind m c.args.slot kind → ⊥ = λ kind has.
    rw c.in_default.is at (c.kind_of.ensures.only kind has) in
    adds_none c.args.facts.now.items (IsUnitFact (imports_in c.args.imports.now) c.args.classes.now c.args.number m spot.at spot.unit)
    (no_kind (imports_in c.args.imports.now) c.args.classes.now c.args.number m spot.at c.args.slot none spot.unit c.requires.slot)

pub add_branch-requires-clause-within : goal.add_branch-requires-clause-within
add_branch-requires-clause-within c =
    check_within c.args.placed.now c.requires.read.shaped c.args.spot.now.at c.args.spot.now.unit c.args.slot
    c.requires.stands c.requires.slot

pub add_branch-requires-clause-named : goal.add_branch-requires-clause-named
add_branch-requires-clause-named c =
    branch_names c.args.placed.now c.requires.read.shaped c.args.slot c.in-Some.kind.now c.in-Some.ensures.some

pub returns-clause-adds : goal.returns-clause-adds
returns-clause-adds c =
    let m = c.args.placed.now in
    let spot = c.args.spot.now in
    let imports = imports_in c.args.imports.now in
    let classes = c.args.classes.now in
    let old = c.args.facts.now.items in
    let new = c.add_branch.new.facts.items in
    on_ok c.add_branch.result
    (Adds old new (IsBranchFact imports classes c.args.number m spot.at c.args.slot c.in-Some.kind.now))
    (Adds old new (IsUnitFact imports classes c.args.number m spot.at spot.unit))
    (check_adds imports classes c.args.number m spot.at c.args.slot c.in-Some.kind.now c.in-Some.ensures.some spot.unit
    c.requires.slot old new)
    c.add_branch.ensures.adds
