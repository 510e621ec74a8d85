use Rattle.std.proofs.Common.{◌≡◌, ℕ, ◌<◌, false, get_or}
use Rattle.cfi_text.specs.Words.{is_blank}
use Rattle.cfi_text.proofs.words.word_end.Given as goal

-- no byte before this one passes
abbrev pub invariant-loop-at : goal.invariant-loop-at
invariant-loop-at l = (k : ℕ) → k < l.at → is_blank (get_or l.statement k 0) ≡ false
