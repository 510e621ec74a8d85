use Rattle.std.specs.List.{AllWithin}
use Rattle.cfi_verify.specs.Branches.{IsEntry}
use Rattle.cfi_verify.proofs.branches.are_entries.Given as goal

abbrev pub invariant-loop-offset : goal.invariant-loop-offset
invariant-loop-offset l = AllWithin (IsEntry l.placed l.spots l.at) l.offsets 0 l.offset-index
