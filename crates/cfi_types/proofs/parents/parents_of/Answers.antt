use Rattle.std.proofs.Common.{◌≡◌, ◌∙◌, [], length, replicate, ap, rules}
use Rattle.std.proofs.lemmas.List.{get_or_read}
use Rattle.cfi_type_table.specs.Node.{make_node, node_of}
use Rattle.cfi_type_table.specs.Kind.{nodes_of}
use Rattle.cfi_types.proofs.NameLemmas.{no_parents, parents_more}
use Rattle.cfi_types.proofs.parents.parents_of.Goals as goal

pub loop-number-init : goal.loop-number-init
loop-number-init c =
    let len : length c.as_slice.result.now ≡ length c.args.nodes.now = search rules in
    no_parents c.args.nodes.now c.in_ok-parents.parents
    (c.in_ok-parents.ensures ∙ ap (λ n. replicate n []) len)

pub loop-number-preserved : goal.loop-number-preserved
loop-number-preserved c =
    let nodes = c.args.nodes.now in
    let x = c.index-nodes-number.result in
    let here : x ≡ node_of nodes c.loop-number.number =
    get_or_read nodes c.loop-number.number x c.loop-number-test.true c.index-nodes-number.is (make_node 0 []) in
    parents_more nodes c.loop-number.number c.loop-number.parents c.add_names.new.parents c.parts-named.result.1
    c.loop-number.invariant (c.parts-named.ensures.nodes ∙ ap nodes_of here) c.in_ok-add_names.ensures
