-- The object that a file is.
use Rattle.std.specs.Prelude.{◌≡◌, ◌+◌, ℕ, not, ◌==◌, if◌then◌else◌, nat_lt, List, [], ◌∷◌, Option, Some, None}
use Rattle.std.specs.Int.{w32, cast_signed}
use Rattle.elf_read.specs.Places.{joined, count_where, first_where}
use Rattle.elf_read.specs.Header.{section_count}
use Rattle.elf_read.specs.Section.{section_at, contents, is_text, is_record_section}
use Rattle.elf_read.specs.Symbol.{symbol_at, symbol_count, binding_of, name_of, is_left_out, is_in_section}
use Rattle.elf_read.specs.Relocation.{rela_at, rela_count, symbol_index, kind_of, is_dropped}
use Rattle.elf_read.specs.Join.{joined_text, joined_data, start_of}
use Rattle.elf_read.specs.declared.object.Object.{Object}
use Rattle.elf_read.specs.declared.object.Symbol.{Symbol}
use Rattle.elf_read.specs.declared.object.Reloc.{Reloc}
use Rattle.elf_read.specs.declared.object.Binding.{Binding}
use Rattle.elf_read.specs.declared.object.Binding.TheVariants as bindings
use Rattle.elf_read.specs.declared.object.Place.{Place}
use Rattle.elf_read.specs.declared.object.Place.TheVariants as places
use Rattle.elf_read.specs.declared.object.Area.{Area}
use Rattle.elf_read.specs.declared.object.Area.TheVariants as areas
use Rattle.elf_read.specs.declared.section.TheConstants.{CFI_TYPES, CFI_RECORDS}
use Rattle.elf_read.specs.declared.symbol.TheConstants.{LOCAL, GLOBAL, UNDEFINED, ABSOLUTE}

-- the binding of symbol k
unfoldable pub kept_binding : List ℕ → (k : ℕ) → Binding
kept_binding bytes k =
    let binding = binding_of (symbol_at bytes k) in
    if binding == LOCAL then bindings.Local else (if binding == GLOBAL then bindings.Global else bindings.Weak)

-- the place of symbol k
unfoldable pub kept_place : List ℕ → (k : ℕ) → Place
kept_place bytes k =
    let section = (symbol_at bytes k).section in
    if section == UNDEFINED then places.Undefined
    else (if section == ABSOLUTE then places.Absolute else (if is_text bytes section then places.Text else places.Data))

-- its value, in a section from the start of the joined text or data
unfoldable pub kept_value : List ℕ → (k : ℕ) → ℕ
kept_value bytes k =
    let symbol = symbol_at bytes k in
    if is_in_section bytes symbol then start_of bytes symbol.section + symbol.value else symbol.value

-- a symbol that is kept
unfoldable pub kept_symbol : List ℕ → (k : ℕ) → Symbol
kept_symbol bytes k =
    record {
      name = name_of bytes k;
      binding = kept_binding bytes k;
      place = kept_place bytes k;
      value = kept_value bytes k;
    }

-- what symbol k adds to the list of symbols
unfoldable pub symbols_of : List ℕ → (k : ℕ) → List Symbol
symbols_of bytes k = if is_left_out bytes k then [] else kept_symbol bytes k ∷ []

-- the number of symbol k among those that are kept
unfoldable pub symbol_number : List ℕ → (k : ℕ) → ℕ
symbol_number bytes k = count_where (λ j. not (is_left_out bytes j)) k

-- the symbol that a relocation names, none for symbol 0
unfoldable pub reference_of : List ℕ → (s i : ℕ) → Option ℕ
reference_of bytes s i =
    let symbol = symbol_index (rela_at bytes s i) in
    if symbol == 0 then None else Some (symbol_number bytes symbol)

-- what the relocations of a section change
unfoldable pub area_of : List ℕ → (s : ℕ) → Area
area_of bytes s = if is_text bytes (section_at bytes s).info then areas.Text else areas.Data

-- entry i of section s
unfoldable pub kept_reloc : List ℕ → (s i : ℕ) → Reloc
kept_reloc bytes s i =
    let rela = rela_at bytes s i in
    record {
      area = area_of bytes s;
      offset = start_of bytes (section_at bytes s).info + rela.offset;
      kind = kind_of rela;
      symbol = reference_of bytes s i;
      addend = cast_signed w32 rela.addend;
    }

-- what entry i of section s, and what the whole section, adds to the list of relocations
unfoldable pub reloc_of : List ℕ → (s i : ℕ) → List Reloc
reloc_of bytes s i = if is_dropped (kind_of (rela_at bytes s i)) then [] else kept_reloc bytes s i ∷ []

-- what is kept of the relocations of a section
unfoldable pub relocs_of : List ℕ → (s : ℕ) → List Reloc
relocs_of bytes s = joined (reloc_of bytes s) (rela_count bytes s)

-- how many relocations section s adds
unfoldable pub kept_count : List ℕ → (s : ℕ) → ℕ
kept_count bytes s = count_where (λ i. not (is_dropped (kind_of (rela_at bytes s i)))) (rela_count bytes s)

-- the contents of the section of types or of records, if there is one
unfoldable pub record_bytes : List ℕ → (name : List ℕ) → Option (List ℕ)
record_bytes bytes name =
    let k = first_where (is_record_section bytes name) (section_count bytes) in
    if nat_lt k (section_count bytes) then Some (contents bytes k) else None

-- the object has what the file keeps
pub record HasKept (bytes : List ℕ) (object : Object) : Type 0 where
  pub text : object.text ≡ joined_text bytes
  pub static_data : object.static_data ≡ joined_data bytes
  pub symbols : object.symbols ≡ joined (symbols_of bytes) (symbol_count bytes)
  pub relocs : object.relocs ≡ joined (relocs_of bytes) (section_count bytes)
  pub types : object.types ≡ record_bytes bytes CFI_TYPES.now
  pub records : object.records ≡ record_bytes bytes CFI_RECORDS.now
