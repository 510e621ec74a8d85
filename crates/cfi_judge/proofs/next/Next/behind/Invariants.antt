use Rattle.std.proofs.Common.{[], take}
use Rattle.cfi_ledger.specs.Roster.{loaded_in_roster}
use Rattle.cfi_judge.specs.inner.Next.{IsNext}
use Rattle.cfi_judge.proofs.next.Next.behind.Given as goal

-- the place behind the modules so far
abbrev pub invariant-loop-at : goal.invariant-loop-at
invariant-loop-at l = IsNext l.code_words l.count (take l.at (loaded_in_roster l.starts)) [] l.next
