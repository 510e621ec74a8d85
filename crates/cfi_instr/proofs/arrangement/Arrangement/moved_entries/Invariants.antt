use Rattle.std.proofs.Common.{◌≡◌, map, take}
use Rattle.cfi_instr.specs.Sizes.{moved}
use Rattle.cfi_instr.proofs.arrangement.Arrangement.moved_entries.Given as goal

abbrev pub invariant-loop-entry : goal.invariant-loop-entry
invariant-loop-entry l =
    l.found.items ≡ map (moved l.self-inside.source.now l.self-inside.offsets.now) (take l.entry-index l.entries)
