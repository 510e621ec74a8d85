use Rattle.std.proofs.Common.{◌≡◌, length, get_or, ap, sym, ◌∙◌, arith}
use Rattle.cfi_class.specs.inner.Forest.{HasSameRoots, root_of}
use Rattle.cfi_class.proofs.ForestLemmas.{root_of-top}
use Rattle.cfi_class.proofs.JoinLemmas.{joined_from, joined_roots}
use Rattle.cfi_class.proofs.forest.Forest.join.Goals as goal

-- both ways are shorter, and then the higher root gets the lower one as its parent
pub returns-clause-roots : goal.returns-clause-roots
returns-clause-roots c =
    let items = c.self.inside.parents.items in
    let view = ap length c.self.view_is in
    let len_one = c.root-one.ensures.len in
    let len_other = c.root-other.ensures.len in
    let len : length items ≡ length c.args.self.now = omega arith in
    let same : HasSameRoots c.args.self.now items = λ node there.
    ap (λ list. root_of list node) c.self.view_is ∙ c.root-other.ensures.roots node (omega arith)
    ∙ c.root-one.ensures.roots node there in
    let one = c.root-one.ensures.value ∙ sym (same c.args.one c.requires.one) in
    let other = c.root-other.ensures.value ∙ c.root-one.ensures.roots c.args.other c.requires.other
    ∙ sym (same c.args.other c.requires.other) in
    let one_own = ap (λ n. get_or items n 0) one
    ∙ root_of-top items c.args.one c.self.invariant (omega arith) ∙ sym one in
    let other_own = ap (λ n. get_or items n 0) other
    ∙ root_of-top items c.args.other c.self.invariant (omega arith) ∙ sym other in
    let one_low = c.root-one.ensures.within in
    let other_low = c.root-other.ensures.within in
    λ node there.
    joined_from c.args.self.now items _ _ _ _ node c.max.ensures c.min.ensures
    (joined_roots items _ _ c.self.invariant (omega arith) (omega arith) one_own other_own node (omega arith))
    c.args.one c.args.other c.root-one.ensures.value
    (c.root-other.ensures.value ∙ c.root-one.ensures.roots c.args.other c.requires.other) (same node there)
