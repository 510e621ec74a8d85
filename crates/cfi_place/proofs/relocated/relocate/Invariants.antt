use Rattle.std.proofs.Common.{◌≡◌, drop}
use Rattle.cfi_place.specs.Relocated.{areas_of, high_parts, relocated_from}
use Rattle.cfi_place.proofs.relocated.relocate.Given as goal

abbrev pub invariant-loop-k : goal.invariant-loop-k
invariant-loop-k l =
    relocated_from l.room l.values (high_parts l.room l.values l.relocs) 0 l.relocs
    (areas_of l.initial.text l.initial.static_data)
    ≡ relocated_from l.room l.values (high_parts l.room l.values l.relocs) l.k (drop l.k l.relocs)
    (areas_of l.text l.static_data)
