use Rattle.std.proofs.Common.{◌≡◌, ◌∙◌, ◌∷◌, [], List, ℕ, get_or, ap, subst}
use Rattle.std.proofs.lemmas.List.{get_or_read}
use Rattle.cfi_type_table.specs.Node.{make_node, node_of}
use Rattle.cfi_types.specs.inner.Leader.{first_of, PutsFirst}
use Rattle.cfi_types.specs.inner.Splitting.{signature, key_of}
use Rattle.cfi_types.proofs.LeastLemmas.{least_more}
use Rattle.cfi_types.proofs.splitting.split.Goals as goal

-- this turn's node is put among the first nodes
pub loop-a-preserved : goal.loop-a-preserved
loop-a-preserved c =
    let nodes = c.args.nodes.now in
    let classes = c.args.classes.now in
    let a = c.loop-a.a in
    let x = c.index-nodes-a.result in
    let here : x ≡ node_of nodes a = get_or_read nodes a x c.loop-a-test.true c.index-nodes-a.is (make_node 0 []) in
    let key : c.in_ok-key.key.items ≡ key_of nodes classes a =
    c.in_ok-key.ensures ∙ ap (λ y. get_or classes a 0 ∷ signature classes y) here in
    least_more (key_of nodes classes) a c.in_ok-signed.field-0 (first_of c.loop-a.firsts) (first_of c.signed.new.self)
    c.loop-a.next.items c.push.new.self.items c.loop-a.invariant
    (subst (λ (k : List ℕ). PutsFirst (first_of c.loop-a.firsts)
    (first_of c.signed.new.self) k a c.in_ok-signed.field-0)
    key c.in_ok-signed.ensures.first)
    c.in_ok-push.ensures.items
