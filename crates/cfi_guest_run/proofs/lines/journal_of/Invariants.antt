use Rattle.std.proofs.Common.{◌≡◌, take}
use Rattle.std.specs.List.{AllByRecursion}
use Rattle.cfi_guest_run.specs.inner.Lines.{HasEntryFields}
use Rattle.cfi_guest_run.proofs.lines.journal_of.Given as goal

-- the lines so far are copied
abbrev pub invariant-loop-entry : goal.invariant-loop-entry
invariant-loop-entry l = record {
  same : l.copy.items ≡ take l.entry-index l.journal;
  fields : AllByRecursion HasEntryFields l.copy.items;
}
