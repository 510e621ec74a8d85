use Rattle.cfi_gen.specs.Draws.{words_of}
use Rattle.cfi_gen.proofs.DrawsLemmas.{drawn_append}
use Rattle.cfi_gen.proofs.draws.draw_kind.Goals as goal

-- the flag is drawn behind the node
pub returns-clause-drawn : goal.returns-clause-drawn
returns-clause-drawn c =
    drawn_append (words_of c.args.rng.now) (words_of c.draw-node.new.rng) (words_of c.draw_flag-taken.new.rng) _ _
    c.draw-node.ensures.drawn c.draw_flag-taken.ensures
