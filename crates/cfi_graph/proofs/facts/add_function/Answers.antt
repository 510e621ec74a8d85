use Rattle.std.proofs.Common.{refl, arith}
use Rattle.cfi_graph.specs.Facts.{IsOpen}
use Rattle.cfi_graph.proofs.BoundLemmas.{inside}
use Rattle.cfi_graph.proofs.BranchLemmas.{function_adds}
use Rattle.cfi_graph.proofs.facts.add_function.Goals as goal

pub is_open-requires : goal.is_open-requires
is_open-requires c =
    let shape = c.requires.read.shaped in
    (inside c.args.placed.now shape c.args.function.now c.requires.has).typed

pub overflow_add-first : goal.overflow_add-first
overflow_add-first c =
    let shape = c.requires.read.shaped in
    let ends = (inside c.args.placed.now shape c.args.function.now c.requires.has).ends in
    let last = shape.1.ends in
    omega (arith, ends, last)

pub overflow_mul-first : goal.overflow_mul-first
overflow_mul-first c =
    let shape = c.requires.read.shaped in
    let ends = (inside c.args.placed.now shape c.args.function.now c.requires.has).ends in
    let last = shape.1.ends in
    omega (arith, ends, last)

pub returns-clause-adds : goal.returns-clause-adds
returns-clause-adds c =
    let opened : IsOpen c.args.placed.now c.args.function.now = c.is_open.ensures.0 c.if-not-is_open.false in
    rw (c.in_ok-push-2.ensures.items, c.in_ok-push.ensures.items)
    (function_adds c.args.classes.now c.args.number c.args.placed.now c.args.function.now c.type_node-from.result _
    c.args.facts.now.items opened c.type_node-from.ensures refl)
