-- A module is placed, or it has a fault of placing other than a want of memory.
use Rattle.std.proofs.Common.{◌≡◌, ◌≢◌, ◌⊎◌, ℕ, ◌+◌, Bool, true, false, IsTrue, List, [], ◌∷◌, length, Option, Some, None, Result, Ok, Err, refl, inl, inr}
use Rattle.elf_read.specs.declared.object.Object.{Object}
use Rattle.elf_read.specs.declared.object.Reloc.{Reloc}
use Rattle.rv_reloc.specs.declared.fault.RelocFault.{RelocFault}
use Rattle.cfi_values.specs.Then.{◌>>=◌}
use Rattle.cfi_unit.specs.declared.unit.Unit.{Unit as CodeUnit}
use Rattle.cfi_aux.specs.declared.modules.Module.{Module}
use Rattle.cfi_aux.specs.Cells.{have_cells}
use Rattle.cfi_aux.proofs.HaveCells.{cells-more}
use Rattle.cfi_aux.specs.declared.placed.Placed.{Placed}
use Rattle.cfi_aux.specs.Placed.{exports_of}
use Rattle.cfi_place.specs.declared.fault.PlaceFault.{PlaceFault}
use Rattle.cfi_place.specs.declared.fault.PlaceFault.TheVariants as faults
use Rattle.cfi_place.specs.declared.room.Room.{Room}
use Rattle.cfi_place.specs.Names.{Names}
use Rattle.cfi_place.specs.Value.{undefined_in}
use Rattle.cfi_place.specs.Relocated.{Areas, areas_of, high_parts, relocated_by, numbered, relocated_from}
use Rattle.cfi_place.specs.Slots.{checks_from, with_slots}
use Rattle.cfi_place.specs.Functions.{placed_functions}
use Rattle.cfi_place.specs.Placed.{bytes_as_words, values_in, relocated, unless_undefined, where_fits, code_fits, data_fits, placed_in, IsPlaced}
use Rattle.cfi_verify_law.proofs.LongerLemmas.{more_placed}
use Rattle.cfi_verify_law.proofs.WordLemmas.{units_from}

-- ---- no want of memory

abbrev no_memory : Result Areas PlaceFault
no_memory = Err faults.Memory

step_not : (k : ℕ) (r : Result Areas RelocFault) (next : Areas → Result Areas PlaceFault)
    → ((bytes : Areas) → next bytes ≢ no_memory) → (numbered k r >>= next) ≢ no_memory
step_not k (Ok bytes) next not = not bytes
step_not k (Err fault) next not = λ is. absurd (cc)

relocated_not : (room : Room) (values : List (Option ℕ)) (parts : List (ℕ × ℕ)) (k : ℕ) (relocs : List Reloc)
    (bytes : Areas) → relocated_from room values parts k relocs bytes ≢ no_memory
unfolding relocated_from
relocated_not room values parts k [] bytes = λ is. absurd (cc)
relocated_not room values parts k (reloc ∷ relocs) bytes =
    step_not k (relocated_by room values parts reloc bytes)
    (λ next. relocated_from room values parts (k + 1) relocs next)
    (λ next. relocated_not room values parts (k + 1) relocs next)

fits_not : (fits : Bool) (fault : PlaceFault) (r : Result Areas PlaceFault) → fault ≢ faults.Memory → r ≢ no_memory
    → where_fits fits fault r ≢ no_memory
fits_not true fault r other not = not
fits_not false fault r other not = λ is.
    let same : fault ≡ faults.Memory = cc in
    other same

unless_not : (u : Option (List ℕ)) (r : Result Areas PlaceFault) → r ≢ no_memory → unless_undefined u r ≢ no_memory
unless_not None r not = not
unless_not (Some name) r not = λ is. absurd (cc)

placed_not : (object : Object) (room : Room) (names : Names) → placed_in object room names ≢ no_memory
placed_not object room names =
    let values = values_in object room names in
    let made = relocated object room values in
    unless_not (undefined_in object.symbols values object.relocs)
    (where_fits (code_fits object room) faults.CodeFull (where_fits (data_fits object room) faults.DataFull made))
    (fits_not (code_fits object room) faults.CodeFull (where_fits (data_fits object room) faults.DataFull made)
    (λ is. absurd (cc))
    (fits_not (data_fits object room) faults.DataFull made (λ is. absurd (cc))
    (relocated_not room values (high_parts room values object.relocs) 0 object.relocs
    (areas_of object.text object.static_data))))

-- ---- a placed module

abbrev placed_as : (m : Module) → Room → (bytes : Areas) → IsTrue (have_cells (length bytes.static_data) m.records.branches)
    → List CodeUnit → Placed
placed_as m room bytes cells code = record {
  base = room.base;
  slot_base = room.slot_base;
  data_base = room.data_base;
  words = with_slots room.slot_base (checks_from 0 code) (bytes_as_words bytes.text);
  static_data = bytes.static_data;
  functions = placed_functions m.object.symbols m.records.functions;
  branches = m.records.branches;
  types = m.types;
  exports = exports_of room.base room.data_base m.object.symbols;
  cells = cells;
}

module _ (m : Module) (room : Room) (names : Names) where
  -- it is placed, or has a fault
  abbrev pub IsPlacedOrNot : Type 0
  IsPlacedOrNot = ((p : Placed) × IsPlaced m room names p)
      ⊎ ((fault : PlaceFault) × (placed_in m.object room names ≡ Err fault) × (fault ≢ faults.Memory))

  by_bytes : (due : Result Areas PlaceFault) → placed_in m.object room names ≡ due → IsPlacedOrNot
  by_bytes (Ok bytes) is =
      let read = units_from (bytes_as_words m.object.text) in
      let cells = cells-more (length m.object.static_data) (length bytes.static_data)
      (more_placed m.object room names bytes is) m.records.branches m.cells in
      inl (
        placed_as m room bytes cells read.0,
        record {
          bytes = bytes;
          is_placed = is;
          base = refl;
          slot_base = refl;
          data_base = refl;
          words = (read.0, read.1, refl);
          static_data = refl;
          functions = refl;
          branches = refl;
          types = refl;
          exports = refl;
        },
      )
  by_bytes (Err fault) is =
      inr (fault, is, λ same. placed_not m.object room names (cc))

  pub placed_or_not : IsPlacedOrNot
  placed_or_not = by_bytes (placed_in m.object room names) refl
