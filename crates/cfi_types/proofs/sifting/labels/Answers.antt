use Rattle.std.proofs.Common.{◌≡◌, ◌∙◌, ℕ, List, [], length, ap, subst, arith}
use Rattle.std.proofs.lemmas.List.{get_or_read}
use Rattle.cfi_type_table.specs.Node.{make_node, node_of}
use Rattle.cfi_types.specs.inner.Leader.{first_of, PutsFirst}
use Rattle.cfi_types.specs.inner.Keeping.{label_of}
use Rattle.cfi_types.proofs.LeastLemmas.{least_more, least_keep, one_label}
use Rattle.cfi_types.proofs.sifting.labels.Goals as goal

-- this turn's node is put among the first nodes
pub loop-a-preserved : goal.loop-a-preserved
loop-a-preserved c =
    let nodes = c.args.nodes.now in
    let a = c.loop-a.a in
    let x = c.index-nodes-a.result in
    let here : x ≡ node_of nodes a = get_or_read nodes a x c.loop-a-test.true c.index-nodes-a.is (make_node 0 []) in
    let label : c.in_ok-label.label.items ≡ label_of (node_of nodes a) = c.in_ok-label.ensures ∙ ap label_of here in
    least_more (λ b. label_of (node_of c.args.nodes.now b)) a c.in_ok-signed.field-0 (first_of c.loop-a.firsts)
    (first_of c.signed.new.self) c.loop-a.classes.items c.push.new.self.items c.loop-a.invariant
    (subst (λ (k : List ℕ). PutsFirst (first_of c.loop-a.firsts)
    (first_of c.signed.new.self) k a c.in_ok-signed.field-0)
    label c.in_ok-signed.ensures.first)
    c.in_ok-push.ensures.items

pub returns : goal.returns
returns c =
    let nodes = c.args.nodes.now in
    let so_far = c.loop-a.invariant in
    let all : c.loop-a.a ≡ length nodes = omega (arith, c.loop-a-test.false, c.loop-a.auto.a-end) in
    least_keep nodes (λ b. label_of (node_of c.args.nodes.now b)) c.loop-a.classes.items (so_far.len ∙ all)
    (λ a la. so_far.least a (omega (arith, la, all))) (λ a b la lb h. one_label nodes a b h)
