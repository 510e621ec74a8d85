use Rattle.std.proofs.Common.{◌≡◌, ◌++◌, take}
use Rattle.std.specs.List.{flat_map}
use Rattle.cfi_commands.specs.Graph.{slot_word}
use Rattle.cfi_commands.proofs.graph.put_slots.Given as goal

-- the words so far
abbrev pub invariant-loop-slot : goal.invariant-loop-slot
invariant-loop-slot l = l.text.items ≡ l.fn.text.items ++ flat_map slot_word (take l.slot-index l.slots)
