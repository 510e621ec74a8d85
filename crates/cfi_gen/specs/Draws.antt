-- Numbers that are drawn from a generator of words, one after the other (PCG: O'Neill, "PCG: a family of simple fast
-- space-efficient statistically good algorithms for random number generation", XSH RR 64/32).
use Rattle.std.specs.Prelude.{◌≡◌, ℕ, ◌+◌, ◌%◌, List, [], ◌∷◌}
use Rattle.rand_core.specs.Stream.{Stream, next_u32}
use Rattle.rand_core.specs.Steps.{stream_of, steps_u32}
use Rattle.rand_pcg.specs.Lcg.{Lcg, started, increment_of}
use Rattle.rand_pcg.specs.Pcg.{multiplier_64, pcg32}
use Rattle.cfi_gen.specs.declared.draws.TheConstants.{STREAM}

-- a number that is drawn among so many, from the least on
pub record Draw : Type 0 where
  pub least : ℕ
  pub among : ℕ
  pub number : ℕ

-- the words that a generator gives from now on
abbrev pub words_of : Lcg → Stream
words_of = stream_of (steps_u32 pcg32)

-- those of the generator that a seed starts
abbrev pub seeded : (seed : ℕ) → Stream
seeded seed = words_of (started 64 multiplier_64 seed (increment_of 64 STREAM))

-- each number is by the next word, and these words are left
unfoldable pub AreDrawn : (words : Stream) → List Draw → (left : Stream) → Type 0
AreDrawn words [] left = left ≡ words
AreDrawn words (draw ∷ draws) left =
    (draw.number ≡ draw.least + (next_u32 words).0 % draw.among) × AreDrawn (next_u32 words).1 draws left
