use Rattle.std.proofs.Common.{◌≡◌, ℕ, ◌<◌, false, get_or}
use Rattle.cfi_text.specs.Words.{is_solid}
use Rattle.cfi_text.proofs.words.blanks.Given as goal

-- no byte before this one passes
abbrev pub invariant-loop-at : goal.invariant-loop-at
invariant-loop-at l = (k : ℕ) → k < l.at → is_solid (get_or l.statement k 0) ≡ false
