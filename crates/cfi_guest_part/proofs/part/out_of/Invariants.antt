use Rattle.std.proofs.Common.{◌≡◌, ◌<◌, take}
use Rattle.std.specs.List.{AllByRecursion}
use Rattle.cfi_guest_part.proofs.part.out_of.Given as goal

-- the bytes so far are copied
abbrev pub invariant-loop-byte : goal.invariant-loop-byte
invariant-loop-byte l = record {
  same : l.copy.items ≡ take l.byte-index l.out;
  fields : AllByRecursion (λ byte. byte < 256) l.copy.items;
}
