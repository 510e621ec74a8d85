-- Where the names are that modules export. The digest of a name leads to the first export that has this digest; a name
-- whose digest leads to the export of another name stands apart, with its address.
use Rattle.std.specs.Prelude.{◌≡◌, ℕ, ◌+◌, ◌*◌, ◌%◌, ◌^◌, ◌<◌, ◌&&◌, List, length, if◌then◌else◌, Option, Some, None, option_and_then, slice_get}
use Rattle.std.specs.Ordering.{nat_cmp}
use Rattle.std.specs.BTreeMap.{get}
use Rattle.std.specs.List.{fold, list_any}
use Rattle.std.specs.Option.{option_or}
use Rattle.std.specs.Str.{bytes_eq}
use Rattle.elf_read.specs.declared.object.Symbol.{Symbol}
use Rattle.cfi_aux.specs.declared.placed.Placed.{Placed}
use Rattle.cfi_place.specs.Names.{Names, find_in}
use Rattle.cfi_place.specs.inner.Wanted.{is_undefined}
use Rattle.cfi_modules.specs.declared.index.ExportPlace.{ExportPlace}
use Rattle.cfi_modules.specs.declared.index.Index.{Index}
use Rattle.cfi_modules.specs.declared.index.TheConstants.{FNV_PRIME}
use Rattle.cfi_modules.specs.Order.{names_of}

-- 32 bits of a name, byte by byte as the FNV hash mixes them, with a sum in the place of its exclusive or
abbrev pub mixed : (digest byte : ℕ) → ℕ
mixed digest byte = (digest * FNV_PRIME % 2 ^ 32 + byte) % 2 ^ 32

-- the digest of a name, byte by byte
unfoldable pub digest_of : (name : List ℕ) → ℕ
digest_of name = fold mixed 0 name

-- the export at a place, and its address if it has this name
abbrev pub export_at : List Placed → ExportPlace → Option (List ℕ × ℕ)
export_at placed place = option_and_then (λ m. slice_get m.exports place.export) (slice_get placed place.number)

-- the address of an export that has this name
abbrev pub address_if : (name : List ℕ) → List ℕ × ℕ → Option ℕ
address_if name export = if bytes_eq export.0 name then Some export.1 else None

-- where the name is exported, if the export of a place has it
abbrev pub named_at : List Placed → (name : List ℕ) → ExportPlace → Option ℕ
named_at placed name place = option_and_then (address_if name) (export_at placed place)

-- the address of a name, by the place that its digest leads to, else by the names that stand apart
abbrev pub address_by : List Placed → (apart : Names) → (name : List ℕ) → Option ExportPlace → Option ℕ
address_by placed apart name place = option_or (option_and_then (named_at placed name) place) (apart name)

-- where a name is exported: apart, or at the place of its digest
abbrev pub address_in : List Placed → Index → Names
address_in placed index name =
    address_by placed (find_in index.apart) name (get nat_cmp index.places (digest_of name))

-- the places are in the first so many modules
abbrev pub ArePlacesBelow : (bound : ℕ) → Index → Type 0
ArePlacesBelow bound index =
    (digest : ℕ) (place : ExportPlace) → get nat_cmp index.places digest ≡ Some place → place.number < bound

-- it has the names that the modules export
pub record IsIndexOf (placed : List Placed) (index : Index) : Type 0 where
  pub below : ArePlacesBelow (length placed) index
  pub names : (name : List ℕ) → address_in placed index name ≡ names_of placed name

-- the names that symbols leave undefined
abbrev pub asked_in : Names → List Symbol → Names
asked_in names symbols name =
    if list_any (λ s. is_undefined s && bytes_eq s.name name) symbols then names name else None
