use Rattle.std.proofs.Common.{length}
use Rattle.rv_line.specs.Number.{integer_in}
use Rattle.cfi_text.specs.Words.{words_in}
use Rattle.rv_line.proofs.AllLemmas.{AllRead}
use Rattle.rv_line.proofs.directives.integers_of.Given as goal

abbrev pub invariant-loop-word : goal.invariant-loop-word
invariant-loop-word l = AllRead integer_in l.fn.text l.rest l.numbers.items

abbrev pub decreases-loop-word : goal.decreases-loop-word
decreases-loop-word l = length (words_in l.rest)
