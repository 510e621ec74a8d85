use Rattle.std.proofs.Common.{◌≡◌, ◌++◌, take}
use Rattle.std.specs.List.{flat_map}
use Rattle.cfi_commands.specs.Graph.{address_word}
use Rattle.cfi_commands.proofs.graph.put_addresses.Given as goal

-- the words so far
abbrev pub invariant-loop-address : goal.invariant-loop-address
invariant-loop-address l = l.text.items ≡ l.fn.text.items ++ flat_map address_word (take l.address-index l.addresses)
