use Rattle.std.proofs.Common.{◌≢◌, ◌*◌, ℕ, List, length, subst}
use Rattle.cfi_types.specs.inner.Splitting.{IsStill}
use Rattle.cfi_types.proofs.Pairs.{total, less_left}
use Rattle.cfi_types.proofs.Steps.{leaders, still_by, rises, bounded, parts_keep, split_of}
use Rattle.cfi_types.proofs.refining.refined.Goals as goal

pub loop-alloc-smaller : goal.loop-alloc-smaller
loop-alloc-smaller c =
    let nodes = c.args.nodes.now in
    let classes = c.loop-alloc.classes.items in
    let next = c.in_ok-classes.classes.items in
    let keep = c.loop-alloc.invariant in
    let split =
    split_of nodes c.as_slice-in-loop-alloc.result.now classes next c.as_slice-in-loop-alloc.ensures.value
    c.in_ok-classes.ensures in
    let moves : IsStill nodes classes → ⊥ =
    subst (λ (l : List ℕ). IsStill c.args.nodes.now l → ⊥) c.as_slice.ensures.value
    (c.are_still.ensures.moves c.loop-alloc-test.true) in
    let differ : next ≢ classes = λ e. moves (still_by nodes classes c.requires.closed keep next split e) in
    less_left (length nodes * length nodes) (total classes) (total next)
    (rises nodes classes next c.requires.closed keep split differ)
    (bounded nodes classes next c.requires.closed keep split)

pub loop-alloc-preserved : goal.loop-alloc-preserved
loop-alloc-preserved c =
    let nodes = c.args.nodes.now in
    let classes = c.loop-alloc.classes.items in
    let next = c.in_ok-classes.classes.items in
    let split =
    split_of nodes c.as_slice-in-loop-alloc.result.now classes next c.as_slice-in-loop-alloc.ensures.value
    c.in_ok-classes.ensures in
    parts_keep nodes classes next c.requires.closed c.loop-alloc.invariant split

pub returns : goal.returns
returns c =
    let nodes = c.args.nodes.now in
    let classes = c.loop-alloc.classes.items in
    let still : IsStill nodes classes =
    subst (λ (l : List ℕ). IsStill c.args.nodes.now l) c.as_slice.ensures.value
    (c.are_still.ensures.still c.loop-alloc-test.false) in
    leaders nodes classes c.requires.closed c.loop-alloc.invariant still
