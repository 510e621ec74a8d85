use Rattle.std.proofs.Common.{◌≡◌, take}
use Rattle.rv_asm.specs.Made.{values_in}
use Rattle.rv_asm.proofs.switch.values_of.Given as goal

-- the values are those of the names so far
abbrev pub invariant-loop-name : goal.invariant-loop-name
invariant-loop-name l = l.values.items ≡ values_in l.names (take l.name-index l.switch)
