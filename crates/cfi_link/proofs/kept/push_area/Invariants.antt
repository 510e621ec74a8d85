use Rattle.std.proofs.Common.{◌≡◌, ◌++◌, filter, take}
use Rattle.cfi_link.specs.Applied.{is_in}
use Rattle.cfi_link.proofs.kept.push_area.Given as goal

abbrev pub invariant-loop-reloc : goal.invariant-loop-reloc
invariant-loop-reloc l =
    l.out.items ≡ l.fn.out.items ++ filter (is_in l.area) (take l.reloc-index l.relocs)
