use Rattle.std.proofs.Common.{◌≡◌, drop}
use Rattle.cfi_place.specs.Value.{undefined_in}
use Rattle.cfi_place.proofs.defined.check_defined.Given as goal

abbrev pub invariant-loop-reloc : goal.invariant-loop-reloc
invariant-loop-reloc l =
    undefined_in l.symbols l.values l.relocs ≡ undefined_in l.symbols l.values (drop l.reloc-index l.relocs)
