use Rattle.std.proofs.Common.{◌≡◌, ◌++◌, map, take}
use Rattle.std.specs.List.{enumerate_from}
use Rattle.cfi_link.specs.Joined.{own_reloc_at}
use Rattle.cfi_link.proofs.shift.push_relocs.Given as goal

abbrev pub invariant-loop-number : goal.invariant-loop-number
invariant-loop-number l =
    l.out.items ≡ l.fn.out.items ++ map (own_reloc_at l.start l.owner) (enumerate_from 0 (take l.number l.relocs))
