use Rattle.std.proofs.Common.{◌≡◌, ◌++◌, length, take}
use Rattle.std.specs.List.{flat_map}
use Rattle.cfi_type_table.specs.Spelling.{word, node_bytes}
use Rattle.cfi_type_table.proofs.writing.write_types.Given as goal

abbrev pub invariant-loop-node : goal.invariant-loop-node
invariant-loop-node l = l.out.items ≡ word (length l.nodes) ++ flat_map node_bytes (take l.node-index l.nodes)
