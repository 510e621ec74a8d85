use Rattle.std.proofs.Common.{◌≡◌, map, take}
use Rattle.cfi_link.specs.Joined.{shifted}
use Rattle.cfi_link.proofs.records.entries_at.Given as goal

abbrev pub invariant-loop-entry : goal.invariant-loop-entry
invariant-loop-entry l =
    l.made.items ≡ map (shifted l.start.text) (take l.entry-index l.entries)
