use Rattle.std.proofs.Common.{take}
use Rattle.cfi_types.specs.inner.Division.{IsPut, AreListed}
use Rattle.cfi_types.proofs.partition.put.Given as goal

abbrev pub invariant-loop-i : goal.invariant-loop-i
invariant-loop-i l = record {
  put : IsPut l.fn.parts.items l.targets (take l.i l.nodes) l.parts.items;
  listed : AreListed l.parts.items l.members;
}
