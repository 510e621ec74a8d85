use Rattle.std.proofs.Common.{◌≡◌, ◌++◌, map, take}
use Rattle.cfi_import.specs.Stubs.{moved}
use Rattle.cfi_import.specs.inner.Found.{place_in}
use Rattle.cfi_import.proofs.relocs.push_moved.Given as goal

abbrev pub invariant-loop-reloc : goal.invariant-loop-reloc
invariant-loop-reloc l =
    l.out.items ≡ l.fn.out.items ++ map (moved l.start (place_in l.places)) (take l.reloc-index l.relocs)
