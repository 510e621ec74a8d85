use Rattle.std.proofs.Common.{◌≤◌}
use Rattle.cfi_gen.specs.declared.shape.Kind.{Kind}
use Rattle.cfi_gen.specs.declared.shape.Function.{Function}
use Rattle.cfi_gen.specs.Draws.{words_of}
use Rattle.cfi_gen.specs.Drawn.{constant_draws, kinds_draws, IsFunction}
use Rattle.std.proofs.lemmas.Grind.{common_steps}
use Rattle.std.proofs.lemmas.List.Elements.{All-push}
use Rattle.std.proofs.Common.{subst, sym, All, arith}
use Rattle.cfi_gen.proofs.DrawsLemmas.{pieces_grow}
use Rattle.cfi_gen.proofs.draws.draw_functions.Goals as goal

-- one function more
pub loop-kind-preserved : goal.loop-kind-preserved
loop-kind-preserved c =
    let nodes = subst (All (λ (kind : Kind). kind.node ≤ 2)) (sym c.as_slice-kind-items.ensures.value)
    c.in_ok-kinds.ensures.nodes in
    record {
      drawn = pieces_grow (words_of c.args.rng.now) (words_of c.loop-kind.rng) (words_of c.draw_constants.new.rng)
          (λ (function : Function). constant_draws function.constants) (kinds_draws c.as_slice-kind-items.result.now)
          c.loop-kind.functions.items c.push.new.self.items _ c.in_ok-push.ensures.items c.loop-kind.invariant.drawn
          c.in_ok-constants.ensures.drawn;
      kinds = grind (arith, common_steps);
      each = subst (All IsFunction) (sym c.in_ok-push.ensures.items)
          (All-push IsFunction c.loop-kind.functions.items _ c.loop-kind.invariant.each
          (record {
            node = nodes c.loop-kind.kind-index _ c.loop-kind-test.true;
            few = c.in_ok-constants.ensures.few;
            small = c.in_ok-constants.ensures.small;
          }));
    }
