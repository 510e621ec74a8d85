use Rattle.std.proofs.Common.{◌≡◌, ◌∙◌, ◌<◌, ℕ, List, [], length, vec_len, get_or, ap, subst, arith, rules}
use Rattle.std.proofs.lemmas.List.{get_or_read}
use Rattle.cfi_type_table.specs.Node.{make_node, node_of}
use Rattle.cfi_types.specs.inner.Leader.{first_of, PutsFirst}
use Rattle.cfi_types.specs.inner.Digest.{sifted_by, sieve_of}
use Rattle.cfi_types.proofs.LeastLemmas.{least_more, least_keep}
use Rattle.cfi_types.proofs.SieveLemmas.{one_sieve}
use Rattle.cfi_types.proofs.sifting.sift.Goals as goal

-- this turn's node is put among the first nodes
pub loop-a-preserved : goal.loop-a-preserved
loop-a-preserved c =
    let nodes = c.args.nodes.now in
    let classes = c.args.classes.now in
    let sizes = c.in_ok-sizes.sizes.items in
    let a = c.loop-a.a in
    let x = c.index-nodes-a.result in
    let here : x ≡ node_of nodes a = get_or_read nodes a x c.loop-a-test.true c.index-nodes-a.is (make_node 0 []) in
    let class = get_or classes a 0 in
    let low = c.requires.keep.low a (omega (arith, c.loop-a-test.true, c.requires.keep.len)) in
    let len : vec_len c.in_ok-sizes.sizes ≡ length c.in_ok-sizes.sizes.items = search rules in
    let within : class < length sizes =
    omega (arith, low, len, c.in_ok-sizes.ensures, c.requires.keep.len, c.loop-a-test.true) in
    let size : c.index.result.now ≡ get_or sizes class 0 =
    get_or_read sizes class c.index.result.now within c.index.ensures 0 in
    let key : c.in_ok-key.key.items ≡ sieve_of nodes classes sizes a =
    c.in_ok-key.ensures ∙ ap (λ s. sifted_by classes class s x) size
    ∙ ap (λ y. sifted_by classes class (get_or sizes class 0) y) here in
    least_more (sieve_of nodes classes sizes) a c.in_ok-signed.field-0 (first_of c.loop-a.firsts)
    (first_of c.signed.new.self) c.loop-a.parts.items c.push.new.self.items c.loop-a.invariant
    (subst (λ (k : List ℕ). PutsFirst (first_of c.loop-a.firsts)
    (first_of c.signed.new.self) k a c.in_ok-signed.field-0)
    key c.in_ok-signed.ensures.first)
    c.in_ok-push.ensures.items

pub returns : goal.returns
returns c =
    let nodes = c.args.nodes.now in
    let classes = c.args.classes.now in
    let sizes = c.in_ok-sizes.sizes.items in
    let so_far = c.loop-a.invariant in
    let all : c.loop-a.a ≡ length nodes = omega (arith, c.loop-a-test.false, c.loop-a.auto.a-end) in
    least_keep nodes (sieve_of nodes classes sizes) c.loop-a.parts.items (so_far.len ∙ all)
    (λ a la. so_far.least a (omega (arith, la, all)))
    (λ a b la lb h. one_sieve nodes classes sizes a b c.requires.closed c.requires.keep la lb h)
