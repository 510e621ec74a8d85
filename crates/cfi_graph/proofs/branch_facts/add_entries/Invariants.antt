use Rattle.std.proofs.Common.{◌≡◌, ◌++◌, map, take}
use Rattle.cfi_graph.specs.Facts.{listed_fact}
use Rattle.cfi_graph.proofs.branch_facts.add_entries.Given as goal

abbrev pub invariant-loop-entry : goal.invariant-loop-entry
invariant-loop-entry l =
    l.facts.items ≡ l.fn.facts.items ++ map (listed_fact l.base l.slot) (take l.entry-index l.entries)
