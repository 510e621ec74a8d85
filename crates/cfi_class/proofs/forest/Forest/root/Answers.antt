use Rattle.std.proofs.Common.{◌<◌, ◌≤◌, length, get_or, ap, sym, ◌∙◌, arith}
use Rattle.std.proofs.lemmas.List.{length-set, get_or_read}
use Rattle.cfi_class.specs.inner.Forest.{root_of}
use Rattle.cfi_class.proofs.ForestLemmas.{halved_forest, halved_roots, halved_way, root_of-root}
use Rattle.cfi_class.proofs.forest.Forest.root.Goals as goal

-- a node that is its own parent is the root
pub returns-then-parent-at-clause-value : goal.returns-then-parent-at-clause-value
returns-then-parent-at-clause-value c =
    let items = c.loop-at.self-inside.parents.items in
    let view = ap length c.self.view_is in
    let within : c.loop-at.at < length items = omega (arith, c.loop-at.invariant.low, c.loop-at.invariant.len) in
    let before : c.loop-at.at < length c.self.inside.parents.items = omega arith in
    let parent = get_or_read items c.loop-at.at _ within c.index-parent.ensures 0 in
    let own = sym parent ∙ c.if-parent-at.true in
    sym (root_of-root items c.loop-at.at own) ∙ c.loop-at.invariant.roots c.loop-at.at before
    ∙ c.loop-at.invariant.way ∙ ap (λ list. root_of list c.args.node) c.self.view_is

-- the way goes on at the parent's parent
pub loop-at-preserved : goal.loop-at-preserved
loop-at-preserved c =
    let items = c.loop-at.self-inside.parents.items in
    let old = c.loop-at.invariant in
    let at = c.loop-at.at in
    let view = ap length c.self.view_is in
    let within : at < length items = omega (arith, old.low, old.len) in
    let is_parent = get_or_read items at _ within c.index-parent.ensures 0 in
    let least : c.index-parent.result.now ≤ at = omega (arith, old.forest at within) in
    let parent_within : c.index-parent.result.now < length items = omega arith in
    let is_next = get_or_read items _ _ parent_within c.index-next.ensures 0 in
    let is = ap (λ n. get_or items n 0) (sym is_parent) ∙ sym is_next in
    let lower : c.index-next.result.now ≤ c.index-parent.result.now = omega (arith, old.forest _ parent_within) in
    record {
      forest = halved_forest items at _ old.forest within is;
      len = length-set items at _ ∙ old.len;
      low = omega (arith, old.low);
      way = sym (old.roots _ (omega (arith, old.len))) ∙ halved_way items at _ old.forest within is
          ∙ old.roots at (omega (arith, old.len)) ∙ old.way;
      roots = λ node there. halved_roots items at _ old.forest within is node (omega (arith, old.len))
          ∙ old.roots node there;
    }
