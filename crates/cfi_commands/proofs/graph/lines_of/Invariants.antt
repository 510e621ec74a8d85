use Rattle.std.proofs.Common.{◌≡◌, take}
use Rattle.std.specs.List.{flat_map}
use Rattle.cfi_commands.specs.Graph.{group_line}
use Rattle.cfi_commands.proofs.graph.lines_of.Given as goal

-- the lines of the groups so far
abbrev pub invariant-loop-group : goal.invariant-loop-group
invariant-loop-group l = l.text.items ≡ flat_map group_line (take l.group-index l.groups)
