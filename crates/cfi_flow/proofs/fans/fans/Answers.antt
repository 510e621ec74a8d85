use Rattle.std.proofs.Common.{◌≡◌, ◌∙◌, ◌+◌, ◌++◌, ◌∷◌, [], length, replicate, false, arith, rules, sym, subst, ap}
use Rattle.cfi_flow.specs.Fans.{AreFans}
use Rattle.cfi_flow.specs.inner.FlowRows.{HaveNodes}
use Rattle.cfi_flow.specs.inner.Reach.{AreClear}
use Rattle.cfi_flow.proofs.FanLemmas.{rows_have_nodes, no_fans, more_fans}
use Rattle.cfi_flow.proofs.ReachLemmas.{clear_begins}
use Rattle.cfi_flow.proofs.fans.fans.Goals as goal

pub loop-node-init : goal.loop-node-init
loop-node-init c =
    let marks : c.in_ok-marks.marks.items ≡ replicate (length c.in_ok-rows.rows.arrows) false = search rules in
    let h = rows_have_nodes c.args.flow.now c.in_ok-rows.rows c.requires c.in_ok-rows.ensures in
    record {
      fans = subst (λ fans. AreFans c.args.flow.now 0 fans) (sym c.new-fans.ensures.items) (no_fans c.args.flow.now);
      clear = subst (λ n. AreClear n c.in_ok-marks.marks.items) h.arrows
          (clear_begins (length c.in_ok-rows.rows.arrows) c.in_ok-marks.marks.items marks);
    }

pub node_fans-requires-clause-rows : goal.node_fans-requires-clause-rows
node_fans-requires-clause-rows c =
    let h = rows_have_nodes c.args.flow.now c.in_ok-rows.rows c.requires c.in_ok-rows.ensures in
    subst (λ n. HaveNodes n c.in_ok-rows.rows) (sym h.arrows) h

pub node_fans-requires-clause-clear : goal.node_fans-requires-clause-clear
node_fans-requires-clause-clear c =
    let h = rows_have_nodes c.args.flow.now c.in_ok-rows.rows c.requires c.in_ok-rows.ensures in
    subst (λ n. AreClear n c.loop-node.marks.items) (sym h.arrows) c.loop-node.invariant.clear

pub loop-node-preserved : goal.loop-node-preserved
loop-node-preserved c =
    let flow = c.args.flow.now in
    let rows = c.in_ok-rows.rows in
    let h = rows_have_nodes c.args.flow.now c.in_ok-rows.rows c.requires c.in_ok-rows.ensures in
    let is = c.in_ok-push-2.ensures.items ∙ ap (λ fans. fans ++ c.in_ok-points.backs ∷ []) c.in_ok-push.ensures.items in
    record {
      fans = subst (λ fans. AreFans flow (c.loop-node.node + 1) fans) (sym is)
          (more_fans flow rows c.loop-node.node c.loop-node.fans.items c.in_ok-points.points c.in_ok-points.backs
          c.requires c.in_ok-rows.ensures c.loop-node-test.true c.loop-node.invariant.fans c.in_ok-points.ensures.points
          c.in_ok-points.ensures.backs);
      clear = subst (λ n. AreClear n c.node_fans.new.marks.items) h.arrows c.in_ok-points.ensures.clear;
    }

pub returns : goal.returns
returns c =
    let end : c.loop-node.node ≡ c.args.flow.now.nodes = omega (arith, c.loop-node-test.false, c.loop-node.auto.node-end) in
    subst (λ n. AreFans c.args.flow.now n c.loop-node.fans.items) end c.loop-node.invariant.fans
