use Rattle.std.proofs.Common.{◌≡◌, take}
use Rattle.std.specs.List.{AllByRecursion}
use Rattle.cfi_guest_part.specs.Part.{IsEntry}
use Rattle.cfi_guest_part.proofs.part.log_of.Given as goal

-- the entries so far are copied
abbrev pub invariant-loop-entry : goal.invariant-loop-entry
invariant-loop-entry l = record {
  same : l.copy.items ≡ take l.entry-index l.log;
  fields : AllByRecursion IsEntry l.copy.items;
}
