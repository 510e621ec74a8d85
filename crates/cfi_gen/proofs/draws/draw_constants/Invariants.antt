use Rattle.std.proofs.Common.{All, ℕ, ◌<◌, ◌≡◌, ◌∷◌, length, map}
use Rattle.cfi_gen.specs.Draws.{AreDrawn, words_of}
use Rattle.cfi_gen.specs.Drawn.{constant_draw}
use Rattle.cfi_gen.proofs.draws.draw_constants.Given as goal

-- the constants so far are drawn behind their count
abbrev pub invariant-loop : goal.invariant-loop
invariant-loop l = record {
  drawn : AreDrawn (words_of l.fn.rng)
      (record { least = 1; among = 6; number = l.count } ∷ map constant_draw l.constants.items) (words_of l.rng);
  small : All (λ (constant : ℕ). constant < 200) l.constants.items;
  many : length l.constants.items ≡ l.counter;
}
