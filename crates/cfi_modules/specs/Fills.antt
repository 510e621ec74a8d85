-- The fills of modules: the data of each, at its place.
use Rattle.std.specs.Prelude.{List, map}
use Rattle.cfi_unit.specs.declared.fill.Fill.{Fill}
use Rattle.cfi_aux.specs.declared.placed.Placed.{Placed}

-- the data of a module
abbrev pub fill_of : Placed → Fill
fill_of m = record { at = m.data_base; bytes = m.static_data }

-- those of all, in order
abbrev pub fills_of : List Placed → List Fill
fills_of ms = map fill_of ms
