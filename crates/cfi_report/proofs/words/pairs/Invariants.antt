use Rattle.std.proofs.Common.{length}
use Rattle.cfi_report.proofs.WordLemmas.{ReadsPairs}
use Rattle.cfi_report.proofs.words.pairs.Given as goal

-- the bytes so far are spelled by what was read
abbrev pub invariant-loop-rest : goal.invariant-loop-rest
invariant-loop-rest l = ReadsPairs l.word l.bytes.items l.rest

abbrev pub decreases-loop-rest : goal.decreases-loop-rest
decreases-loop-rest l = length l.rest
