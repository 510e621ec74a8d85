-- What the relocations of a module make of its text and data, each after the one before (RISC-V ELF psABI,
-- "Relocations": S is the symbol's value, A the addend, P the address of the field).
use Rattle.std.specs.Prelude.{◌≡◌, ℕ, ◌+◌, ◌*◌, ◌^◌, ◌<◌, ◌≤◌, ◌==◌, Bool, true, ◌&&◌, not, if◌then◌else◌, List, [], ◌∷◌, map, filter, Option, Some, is_some, unwrap_or, Result, Ok, Err}
use Rattle.std.specs.Map.{lookup}
use Rattle.elf_read.specs.declared.object.Reloc.{Reloc}
use Rattle.elf_read.specs.declared.object.Area.{Area}
use Rattle.elf_read.specs.declared.object.Area.TheVariants as areas
use Rattle.elf_read.specs.declared.relocation.TheConstants.{PCREL_HI20}
use Rattle.elf_read.specs.Relocation.{is_known, field_size}
use Rattle.rv_reloc.specs.declared.fault.RelocFault.{RelocFault}
use Rattle.rv_reloc.specs.Formula.{displacement}
use Rattle.rv_reloc.specs.Applied.{applied}
use Rattle.cfi_place.specs.declared.room.Room.{Room}
use Rattle.cfi_place.specs.declared.fault.PlaceFault.{PlaceFault}
use Rattle.cfi_place.specs.declared.fault.PlaceFault.TheVariants as faults
use Rattle.cfi_place.specs.Value.{value_at}
use Rattle.cfi_values.specs.Then.{◌>>=◌}

-- the bytes of a module's text and data
pub record Areas : Type 0 where
  pub text : List ℕ
  pub static_data : List ℕ

-- text and data as areas
abbrev pub areas_of : (text static_data : List ℕ) → Areas
areas_of text static_data = record { text = text; static_data = static_data }

-- how long an area is
abbrev pub size_in : Area → (text static_data : ℕ) → ℕ
size_in areas.Text text static_data = text
size_in areas.Data text static_data = static_data

-- the address of a field
abbrev pub area_address : Area → Room → (offset : ℕ) → ℕ
area_address areas.Text room offset = 4 * room.base + offset
area_address areas.Data room offset = room.data_base + offset

-- where the field of a relocation lies
abbrev pub field_address : Room → Reloc → ℕ
field_address room reloc = area_address reloc.area room reloc.offset

-- the value that a relocation takes, which is there
abbrev pub value_in : List (Option ℕ) → Reloc → ℕ
value_in values reloc = unwrap_or (value_at values reloc.symbol) 0

-- the relocations of high parts, by their addresses, with their displacements
abbrev pub is_high : Reloc → Bool
is_high reloc = reloc.kind == PCREL_HI20

-- the field of an upper part, and the displacement whose lower part its partner takes
abbrev pub upper_part : Room → List (Option ℕ) → Reloc → ℕ × ℕ
upper_part room values reloc =
    (field_address room reloc, displacement (value_in values reloc) reloc.addend (field_address room reloc))

-- those of all upper parts, in order
abbrev pub high_parts : Room → List (Option ℕ) → List Reloc → List (ℕ × ℕ)
high_parts room values relocs = map (upper_part room values) (filter is_high relocs)

-- the displacement of the first of them at an address
abbrev pub partner_in : List (ℕ × ℕ) → (address : ℕ) → Option ℕ
partner_in parts address = lookup (λ at. address == at) parts

-- the displacement at an address when there is one more, at `at`, which comes after those that are there
abbrev pub with_partner : (at number : ℕ) → (found : Option ℕ) → (address : ℕ) → Option ℕ
with_partner at number found address =
    if address == at && not (is_some found) then Some number else found

-- a relocation applied to the bytes of its area
abbrev pub applied_in : Area → Reloc → (at value : ℕ) → (partner : Option ℕ) → Areas → Result Areas RelocFault
applied_in areas.Text reloc at value partner bytes =
    applied reloc at value partner bytes.text >>= λ text. Ok (record bytes { text = text })
applied_in areas.Data reloc at value partner bytes =
    applied reloc at value partner bytes.static_data >>= λ static_data. Ok (record bytes { static_data = static_data })

-- a relocation that can be tried, in text and data of so many bytes
pub record CanBeTried (room : Room) (text static_data : ℕ) (reloc : Reloc) : Type 0 where
  pub known : is_known reloc.kind ≡ true
  pub within : reloc.offset + field_size reloc.kind ≤ size_in reloc.area text static_data
  pub address : field_address room reloc < 2 ^ 32

-- one of a module's relocations, whose high parts are `parts`
abbrev pub relocated_by : Room → List (Option ℕ) → (parts : List (ℕ × ℕ)) → Reloc → Areas
    → Result Areas RelocFault
relocated_by room values parts reloc bytes =
    let value = value_in values reloc in
    applied_in reloc.area reloc (field_address room reloc) value (partner_in parts value) bytes

-- the same, refused with the relocation's number
abbrev pub numbered : (k : ℕ) → Result Areas RelocFault → Result Areas PlaceFault
numbered k (Ok bytes) = Ok bytes
numbered k (Err fault) = Err (faults.Reloc k fault)

-- the relocations from number k on, one after the other
unfoldable pub relocated_from : Room → List (Option ℕ) → (parts : List (ℕ × ℕ)) → (k : ℕ) → List Reloc → Areas
    → Result Areas PlaceFault
relocated_from room values parts k [] bytes = Ok bytes
relocated_from room values parts k (reloc ∷ relocs) bytes =
    numbered k (relocated_by room values parts reloc bytes) >>= λ next.
    relocated_from room values parts (k + 1) relocs next
