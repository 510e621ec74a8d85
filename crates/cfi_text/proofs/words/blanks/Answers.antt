use Rattle.std.proofs.Common.{rules}
use Rattle.cfi_text.specs.Words.{is_solid}
use Rattle.cfi_text.proofs.WordsLemmas.{first_place, no_place}
use Rattle.cfi_text.proofs.words.blanks.Goals as goal

pub returns-then-not-is_blank-clause-place : goal.returns-then-not-is_blank-clause-place
returns-then-not-is_blank-clause-place c =
    first_place is_solid _ _ c.loop-at-test.true c.loop-at.invariant (search rules)

pub returns-clause-place : goal.returns-clause-place
returns-clause-place c = no_place is_solid _ (λ k h. c.loop-at.invariant k (search rules))
