use Rattle.std.proofs.Common.{◌≡◌, length, refl, subst, ◌∙◌, arith}
use Rattle.cfi_class.proofs.KeptForestLemmas.{IsForestAt, no_fresh, one_more_fresh, all_fresh}
use Rattle.cfi_class.proofs.nodes.kept_forest.Goals as goal

pub loop-edge-init : goal.loop-edge-init
loop-edge-init c =
    let new = c.in_ok-forest.ensures in record {
      slots = refl;
      len = new.len;
      links = λ edges old. no_fresh c.args.tary.now c.args.bary.now edges c.args.fresh.now old _ new.forest new.len
          new.roots;
    }

pub loop-edge-preserved : goal.loop-edge-preserved
loop-edge-preserved c =
    let at = c.loop-edge.invariant in
    let joined = c.join.ensures in record {
      slots = refl;
      len = joined.len ∙ at.len;
      links = λ edges old. one_more_fresh c.args.tary.now c.args.bary.now edges c.args.fresh.now old c.requires.within
          c.loop-edge.edge-index c.loop-edge-test.true _ _ (at.links edges old) joined.forest joined.len
          (rw (← c.slot_node-slot.ensures, ← c.word_node-word.ensures) joined.roots);
    }

pub returns-clause-links : goal.returns-clause-links
returns-clause-links c =
    let last = c.loop-edge-test.false in
    let all : c.loop-edge.edge-index ≡ length c.args.fresh.now = omega arith in
    λ edges old. all_fresh c.args.tary.now c.args.bary.now edges c.args.fresh.now old c.loop-edge.forest
    (subst (λ count. IsForestAt c.args.tary.now c.args.bary.now edges c.args.fresh.now count c.loop-edge.forest) all
    (c.loop-edge.invariant.links edges old))
