use Rattle.std.proofs.Common.{◌≡◌, ◌∙◌, ◌<◌, length, replicate, false, rules, arith, sym, subst}
use Rattle.cfi_flow.specs.inner.FlowRows.{HaveNodes}
use Rattle.cfi_flow.specs.inner.Others.{AddsFresh}
use Rattle.cfi_flow.specs.inner.Reach.{AreClear}
use Rattle.cfi_flow.proofs.FanLemmas.{rows_have_nodes}
use Rattle.cfi_flow.proofs.FreshLemmas.{none_fresh, HasFans, fresh_more}
use Rattle.cfi_flow.proofs.ReachLemmas.{clear_begins}
use Rattle.cfi_flow.proofs.fresh.add_fresh.Goals as goal

pub loop-node-init : goal.loop-node-init
loop-node-init c =
    let marks : c.in_ok-marks.marks.items ≡ replicate (length c.in_ok-rows.rows.arrows) false = search rules in
    let h = rows_have_nodes c.args.flow.now c.in_ok-rows.rows c.requires.sound c.in_ok-rows.ensures in
    record {
      adds = none_fresh c.args.known.now c.args.flow.now c.args.edges.now.items;
      clear = subst (λ n. AreClear n c.in_ok-marks.marks.items) h.arrows
          (clear_begins (length c.in_ok-rows.rows.arrows) c.in_ok-marks.marks.items marks);
    }

pub node_fans-requires-clause-rows : goal.node_fans-requires-clause-rows
node_fans-requires-clause-rows c =
    let h = rows_have_nodes c.args.flow.now c.in_ok-rows.rows c.requires.sound c.in_ok-rows.ensures in
    subst (λ n. HaveNodes n c.in_ok-rows.rows) (sym h.arrows) h

pub node_fans-requires-in-loop-node-clause-rows : goal.node_fans-requires-in-loop-node-clause-rows
node_fans-requires-in-loop-node-clause-rows c =
    let h = rows_have_nodes c.args.known.now c.in_ok-known_rows.known_rows c.requires.known c.in_ok-known_rows.ensures in
    subst (λ n. HaveNodes n c.in_ok-known_rows.known_rows) (sym h.arrows) h

pub loop-node-preserved : goal.loop-node-preserved
loop-node-preserved c =
    let flow = c.args.flow.now in
    let known = c.args.known.now in
    let node = c.loop-node.node in
    let h = rows_have_nodes known c.in_ok-known_rows.known_rows c.requires.known c.in_ok-known_rows.ensures in
    let here : HasFans flow node c.in_ok-points.points c.in_ok-points.backs = record {
      rows = c.in_ok-rows.rows;
      sound = c.requires.sound;
      are = c.in_ok-rows.ensures;
      below = c.loop-node-test.true;
      pointing = c.in_ok-points.ensures.points;
      returning = c.in_ok-points.ensures.backs;
    } in
    let there : HasFans known node c.in_ok-known_points.known_points c.in_ok-known_points.known_backs = record {
      rows = c.in_ok-known_rows.known_rows;
      sound = c.requires.known;
      are = c.in_ok-known_rows.ensures;
      below = subst (λ n. node < n) (sym c.requires.nodes) c.loop-node-test.true;
      pointing = c.in_ok-known_points.ensures.points;
      returning = c.in_ok-known_points.ensures.backs;
    } in
    record {
      adds = fresh_more known flow node _ _ _ _ here there _ _ _ _ c.loop-node.invariant.adds c.in_ok-add_others.ensures
          c.in_ok-add_others-2.ensures;
      clear = subst (λ n. AreClear n c.node_fans-in-loop-node.new.marks.items) (h.arrows ∙ c.requires.nodes)
          c.in_ok-known_points.ensures.clear;
    }

pub returns : goal.returns
returns c =
    let end : c.loop-node.node ≡ c.args.flow.now.nodes = omega (arith, c.loop-node-test.false, c.loop-node.auto.node-end) in
    subst (λ n. AddsFresh c.args.known.now c.args.flow.now n c.args.edges.now.items c.loop-node.edges.items) end
    c.loop-node.invariant.adds
