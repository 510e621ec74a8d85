use Rattle.std.proofs.lemmas.List.Elements.{All-push}
use Rattle.cfi_gen.specs.declared.shape.Kind.{Kind}
use Rattle.std.proofs.Common.{All, subst, sym, rules, ◌≤◌, ◌∷◌, [], length, drop}
use Rattle.cfi_gen.specs.Draws.{words_of}
use Rattle.cfi_gen.specs.Drawn.{kind_draws}
use Rattle.cfi_gen.proofs.DrawsLemmas.{behind_first, pieces_grow}
use Rattle.cfi_gen.proofs.draws.draw_kinds.Goals as goal

-- one kind more
pub loop-preserved : goal.loop-preserved
loop-preserved c =
    let kinds = c.loop.kinds.items in
    let some : 1 ≤ length kinds = search rules in
    record {
      drawn = pieces_grow (words_of c.args.rng.now) (words_of c.loop.rng) (words_of c.draw_kind.new.rng) kind_draws
          (record { least = 2; among = 6; number = c.draw-count.result } ∷ []) (drop 1 kinds)
          (drop 1 c.push-in-loop.new.self.items) c.draw_kind.result
          (behind_first kinds c.push-in-loop.new.self.items c.draw_kind.result some c.in_ok-push-2.ensures.items)
          c.loop.invariant.drawn c.draw_kind.ensures.drawn;
      first = search rules;
      nodes = subst (All (λ (kind : Kind). kind.node ≤ 2)) (sym c.in_ok-push-2.ensures.items)
          (All-push (λ (kind : Kind). kind.node ≤ 2) kinds c.draw_kind.result c.loop.invariant.nodes
          c.draw_kind.ensures.node);
      many = search rules;
    }
