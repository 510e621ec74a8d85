use Rattle.std.proofs.lemmas.List.Elements.{All-push}
use Rattle.std.proofs.Common.{All, ℕ, ◌<◌, subst, sym, rules}
use Rattle.cfi_gen.specs.Draws.{words_of}
use Rattle.cfi_gen.proofs.DrawsLemmas.{constants_grow}
use Rattle.cfi_gen.proofs.draws.draw_constants.Goals as goal

-- one constant more
pub loop-preserved : goal.loop-preserved
loop-preserved c = record {
  drawn = constants_grow (words_of c.args.rng.now) (words_of c.loop.rng) (words_of c.draw.new.rng) _
      c.loop.constants.items c.push.new.self.items c.draw.result c.in_ok-push.ensures.items c.loop.invariant.drawn
      c.draw.ensures.drawn;
  small = subst (All (λ (constant : ℕ). constant < 200)) (sym c.in_ok-push.ensures.items)
      (All-push (λ (constant : ℕ). constant < 200) c.loop.constants.items c.draw.result c.loop.invariant.small
      c.draw.ensures.within);
  many = search rules;
}
