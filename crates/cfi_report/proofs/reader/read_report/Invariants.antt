use Rattle.std.proofs.Common.{length}
use Rattle.cfi_report.proofs.ReadLemmas.{IsRead}
use Rattle.cfi_report.proofs.reader.read_report.Given as goal

-- what was read led to the draft
abbrev pub invariant-loop-alloc : goal.invariant-loop-alloc
invariant-loop-alloc l = IsRead l.text l.rest l.number l.draft

abbrev pub decreases-loop-alloc : goal.decreases-loop-alloc
decreases-loop-alloc l = length l.rest
