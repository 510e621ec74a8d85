use Rattle.std.proofs.Common.{◌+◌, ◌*◌, ◌≤◌, length, arith}
use Rattle.cfi_graph.specs.Edges.{told_most}
use Rattle.cfi_graph.specs.Facts.{UnitTells, FunctionTells, ModuleTells, Adds}
use Rattle.cfi_graph.specs.inner.Imports.{imports_in}
use Rattle.cfi_graph.proofs.AddsLemmas.{adds_then, on_ok}
use Rattle.cfi_graph.proofs.facts.add_module.Goals as goal

pub returns-clause-adds : goal.returns-clause-adds
returns-clause-adds c =
    let m = c.args.placed.now in
    let imports = imports_in c.args.imports.now in
    let classes = c.args.classes.now in
    let number = c.args.number in
    let old = c.args.facts.now.items in
    let mid = c.add_units.new.facts.items in
    let new = c.add_functions.new.facts.items in
    on_ok c.add_functions.result (Adds mid new (FunctionTells classes number m))
    (Adds old new (ModuleTells imports classes number m))
    (adds_then old mid new (UnitTells imports classes number m) (FunctionTells classes number m) c.in_ok-add_units.ensures.adds)
    c.add_functions.ensures.adds

pub returns-clause-few : goal.returns-clause-few
returns-clause-few c =
    let old = c.args.facts.now.items in
    let mid = c.add_units.new.facts.items in
    let new = c.add_functions.new.facts.items in
    let m = c.args.placed.now in
    on_ok c.add_functions.result (length new ≤ length mid + 2 * length m.functions)
    (length new ≤ length old + told_most m)
    (λ few. omega (arith, few, c.in_ok-add_units.ensures.few))
    c.add_functions.ensures.few
