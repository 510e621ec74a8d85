use Rattle.std.proofs.Common.{◌≡◌, ◌+◌, ◌≤◌, ℕ, List, Bool, map}
use Rattle.std.specs.List.{range_with_len}
use Rattle.cfi_instr.specs.Words.{Words}
use Rattle.cfi_instr.specs.declared.sizes.TheConstants.{MAX_WORDS}
use Rattle.cfi_instr.specs.Sizes.{words_before, offset_of}
use Rattle.cfi_instr.proofs.sizes.offsets_of.Given as goal

-- the offsets up to the word, and its place
pub record AreOffsets (t : Words) (long : List Bool) (w place : ℕ) (offsets : List ℕ) : Type 0 where
  pub each : offsets ≡ map (offset_of t long) (range_with_len 0 (w + 1))
  pub here : place ≡ words_before t long w
  pub fits : place ≤ MAX_WORDS

abbrev pub invariant-loop-w : goal.invariant-loop-w
invariant-loop-w l = AreOffsets l.source l.long l.w l.place l.offsets.items
