-- Whether a module is placed does not hang on its slots: with other slots it is placed at the same place.
use Rattle.std.proofs.Common.{◌≡◌, ℕ, ◌+◌, List, [], ◌∷◌, map, filter, Option, Result, refl, sym, ap, ◌∙◌}
use Rattle.cfi_values.specs.Then.{◌>>=◌}
use Rattle.elf_read.specs.declared.object.Area.{Area}
use Rattle.elf_read.specs.declared.object.Area.TheVariants as areas
use Rattle.elf_read.specs.declared.object.Object.{Object}
use Rattle.elf_read.specs.declared.object.Place.{Place}
use Rattle.elf_read.specs.declared.object.Place.TheVariants as places
use Rattle.elf_read.specs.declared.object.Reloc.{Reloc}
use Rattle.elf_read.specs.declared.object.Symbol.{Symbol}
use Rattle.rv_reloc.specs.Formula.{displacement}
use Rattle.cfi_aux.specs.declared.modules.Module.{Module}
use Rattle.cfi_aux.specs.declared.placed.Placed.{Placed}
use Rattle.cfi_place.specs.Names.{Names}
use Rattle.cfi_place.specs.Placed.{IsPlaced, bytes_as_words, code_fits, data_fits, placed_by, placed_in, relocated, unless_undefined, values_in, where_fits}
use Rattle.cfi_place.specs.Relocated.{Areas, applied_in, area_address, areas_of, high_parts, is_high, numbered, partner_in, relocated_by, relocated_from, upper_part, value_in}
use Rattle.cfi_place.specs.Slots.{checks_from, with_slots}
use Rattle.cfi_place.specs.Value.{own_in, undefined_in, value_by, value_of, values_by}
use Rattle.cfi_place.specs.declared.fault.PlaceFault.{PlaceFault}
use Rattle.cfi_place.specs.declared.fault.PlaceFault.TheVariants as faults
use Rattle.cfi_place.specs.declared.room.Room.{Room}

abbrev pub room_with : (base slot data_base code_words : ℕ) → Room
room_with base slot data_base code_words =
    record { base = base; slot_base = slot; data_base = data_base; code_words = code_words }

module _ (base slot other data_base code_words : ℕ) where
  abbrev this : Room
  this = room_with base slot data_base code_words

  abbrev that : Room
  that = room_with base other data_base code_words

  -- ---- symbols

  value_same : (place : Place) (own names : Names) (s : Symbol)
      → value_by place this own names s ≡ value_by place that own names s
  value_same places.Undefined own names s = refl
  value_same places.Absolute own names s = refl
  value_same places.Text own names s = refl
  value_same places.Data own names s = refl

  values_same : (own names : Names) (symbols : List Symbol)
      → values_by this own names symbols ≡ values_by that own names symbols
  values_same own names [] = refl
  values_same own names (s ∷ rest) =
      ap (λ (v : Option ℕ). v ∷ values_by this own names rest) (value_same s.place own names s)
      ∙ ap (λ (vs : List (Option ℕ)). value_of that own names s ∷ vs) (values_same own names rest)

  -- ---- relocations

  field_same : (area : Area) (offset : ℕ) → area_address area this offset ≡ area_address area that offset
  field_same areas.Text offset = refl
  field_same areas.Data offset = refl

  parts_same : (values : List (Option ℕ)) (relocs : List Reloc)
      → map (upper_part this values) relocs ≡ map (upper_part that values) relocs
  parts_same values [] = refl
  parts_same values (reloc ∷ rest) =
      ap (λ (at : ℕ).
      (at, displacement (value_in values reloc) reloc.addend at) ∷ map (upper_part this values) rest)
      (field_same reloc.area reloc.offset)
      ∙ ap (λ (parts : List (ℕ × ℕ)). upper_part that values reloc ∷ parts) (parts_same values rest)

  relocated_same : (values : List (Option ℕ)) (parts : List (ℕ × ℕ)) (k : ℕ) (relocs : List Reloc) (bytes : Areas)
      → relocated_from this values parts k relocs bytes ≡ relocated_from that values parts k relocs bytes
  unfolding relocated_from
  relocated_same values parts k [] bytes = refl
  relocated_same values parts k (reloc ∷ relocs) bytes =
      let value : ℕ = value_in values reloc in
      ap (λ (at : ℕ).
      numbered k (applied_in reloc.area reloc at value (partner_in parts value) bytes)
      >>= relocated_from this values parts (k + 1) relocs)
      (field_same reloc.area reloc.offset)
      ∙ ap (λ (go : Areas → Result Areas PlaceFault). numbered k (relocated_by that values parts reloc bytes) >>= go)
      (λ i next. relocated_same values parts (k + 1) relocs next i)

  -- ---- modules

  all_same : (object : Object) (values : List (Option ℕ)) → relocated object this values ≡ relocated object that values
  all_same object values =
      let bytes : Areas = areas_of object.text object.static_data in
      ap (λ (parts : List (ℕ × ℕ)). relocated_from this values parts 0 object.relocs bytes)
      (parts_same values (filter is_high object.relocs))
      ∙ relocated_same values (high_parts that values object.relocs) 0 object.relocs bytes

  by_same : (object : Object) (values : List (Option ℕ)) → placed_by object this values ≡ placed_by object that values
  by_same object values =
      ap (λ (r : Result Areas PlaceFault).
      unless_undefined (undefined_in object.symbols values object.relocs)
      (where_fits (code_fits object this) faults.CodeFull (where_fits (data_fits object this) faults.DataFull r)))
      (all_same object values)

  pub placed_same : (object : Object) (names : Names) → placed_in object this names ≡ placed_in object that names
  placed_same object names =
      ap (placed_by object this) (values_same (own_in this object.symbols) names object.symbols)
      ∙ by_same object (values_in object that names)

-- what placing makes of a module in a room, by what it made with other slots
pub record IsMoved (m : Module) (room : Room) (names : Names) (old : Placed) : Type 0 where
  pub one : Placed
  pub is : IsPlaced m room names one
  pub exports : one.exports ≡ old.exports
  pub static_data : one.static_data ≡ old.static_data
  pub branches : one.branches ≡ old.branches

pub moved : (m : Module) (base slot other data_base code_words : ℕ) (names : Names) (p : Placed)
    → IsPlaced m (room_with base slot data_base code_words) names p
    → IsMoved m (room_with base other data_base code_words) names p
moved m base slot other data_base code_words names p is =
    let one : Placed = record {
      base = p.base;
      slot_base = other;
      data_base = p.data_base;
      words = with_slots other (checks_from 0 is.words.0) (bytes_as_words is.bytes.text);
      static_data = p.static_data;
      functions = p.functions;
      branches = p.branches;
      types = p.types;
      exports = p.exports;
      cells = p.cells;
    } in
    record {
      one = one;
      is = record {
        bytes = is.bytes;
        is_placed = sym (placed_same base slot other data_base code_words m.object names) ∙ is.is_placed;
        base = is.base;
        slot_base = refl;
        data_base = is.data_base;
        words = (is.words.0, is.words.1, refl);
        static_data = is.static_data;
        functions = is.functions;
        branches = is.branches;
        types = is.types;
        exports = is.exports;
      };
      exports = refl;
      static_data = refl;
      branches = refl;
    }
