-- How much the units of a module tell at most.
use Rattle.std.specs.Prelude.{ℕ, ◌+◌, ◌-◌, Option, Some, None, slice_get}
use Rattle.cfi_unit.specs.declared.unit.Unit.{Unit as CodeUnit}
use Rattle.cfi_unit.specs.Unit.{size_of}
use Rattle.cfi_aux.specs.declared.placed.Placed.{Placed}
use Rattle.cfi_aux.specs.declared.records.Kind.{Kind}
use Rattle.cfi_graph.specs.Shaped.{slot_of}
use Rattle.cfi_graph.specs.Edges.{entry_count}

-- how many entries a branch lists, if there is one
abbrev pub entries_of : Option Kind → ℕ
entries_of None = 0
entries_of (Some kind) = entry_count kind

-- how many entries the branch of a slot lists, if a slot is given
abbrev pub listed_by : Placed → Option ℕ → ℕ
listed_by m None = 0
listed_by m (Some slot) = entries_of (slice_get m.branches (slot - m.slot_base))

-- a fact for each word of the unit, and one for each entry of its branch
abbrev pub unit_told : Placed → CodeUnit → ℕ
unit_told m unit = size_of unit + listed_by m (slot_of unit)
