-- What calls that take an object may take for granted of it: what is read of a file is so.
use Rattle.std.specs.Prelude.{◌≡◌, ℕ, ◌+◌, ◌%◌, ◌≤◌, ◌<◌, Bool, true, false, not, ◌||◌, ◌&&◌, ◌==◌, length, All, Option, Some, None}
use Rattle.std.specs.List.{list_any, AllPairs}
use Rattle.std.specs.Str.{bytes_eq, is_utf8}
use Rattle.elf_read.specs.declared.object.Object.{Object}
use Rattle.elf_read.specs.declared.object.Symbol.{Symbol}
use Rattle.elf_read.specs.declared.object.Reloc.{Reloc}
use Rattle.elf_read.specs.declared.object.Binding.{Binding}
use Rattle.elf_read.specs.declared.object.Binding.TheVariants as bindings
use Rattle.elf_read.specs.declared.object.Place.{Place}
use Rattle.elf_read.specs.declared.object.Place.TheVariants as places
use Rattle.elf_read.specs.declared.object.Area.{Area}
use Rattle.elf_read.specs.declared.object.Area.TheVariants as areas
use Rattle.elf_read.specs.Relocation.{is_dropped, is_of_data, is_of_instruction, is_known, field_size}
use Rattle.cfi_word.specs.declared.limits.TheConstants.{MAX_NAME}

-- ---- symbols

-- it may be seen from other objects
abbrev pub is_exported : Binding → Bool
is_exported bindings.Local = false
is_exported bindings.Global = true
is_exported bindings.Weak = true

-- it is defined in its object
abbrev pub is_defined : Place → Bool
is_defined places.Undefined = false
is_defined places.Absolute = true
is_defined places.Text = true
is_defined places.Data = true

-- both define one name for other objects
abbrev pub are_rivals : Symbol → Symbol → Bool
are_rivals a b =
    is_exported a.binding && is_defined a.place && is_exported b.binding && is_defined b.place && bytes_eq a.name b.name

-- a value in text or data is not past its end
abbrev pub IsInsideArea : Object → Place → (value : ℕ) → Type 0
IsInsideArea object places.Undefined value = Unit {0}
IsInsideArea object places.Absolute value = Unit {0}
IsInsideArea object places.Text value = value ≤ length object.text
IsInsideArea object places.Data value = value ≤ length object.static_data

-- a symbol that breaks no rule: its name is short UTF-8 without a zero byte, empty only where it is local; where it is
-- local it is defined; and its value is inside
pub record IsSoundSymbol (object : Object) (symbol : Symbol) : Type 0 where
  pub name_size : length symbol.name ≤ MAX_NAME
  pub name_text : is_utf8 symbol.name ≡ true
  pub name_bytes : list_any (λ byte. byte == 0) symbol.name ≡ false
  pub named : (not (is_exported symbol.binding) || not (length symbol.name == 0)) ≡ true
  pub found : (is_exported symbol.binding || is_defined symbol.place) ≡ true
  pub inside : IsInsideArea object symbol.place symbol.value

-- ---- relocations

-- a relocation's field is in its area, and the area has such fields: instructions in text, at multiples of 4, and
-- other words in data
abbrev pub HasField : Object → Area → (kind offset : ℕ) → Type 0
HasField object areas.Text kind offset =
    (offset + field_size kind ≤ length object.text) × (offset % 4 ≡ 0) × (is_of_data kind ≡ false)
HasField object areas.Data kind offset =
    (offset + field_size kind ≤ length object.static_data) × (is_of_instruction kind ≡ false)

-- its symbol is there, where it has one
abbrev pub HasSymbol : Object → (symbol : Option ℕ) → Type 0
HasSymbol object None = Unit {0}
HasSymbol object (Some k) = k < length object.symbols

-- a relocation that breaks no rule, of a kind that is known and not dropped
pub record IsSoundReloc (object : Object) (reloc : Reloc) : Type 0 where
  pub known : is_known reloc.kind ≡ true
  pub kept : is_dropped reloc.kind ≡ false
  pub symbol : HasSymbol object reloc.symbol
  pub field : HasField object reloc.area reloc.kind reloc.offset

-- ---- objects

-- an object's text is of whole words, and no symbol and no relocation breaks a rule
pub record IsSoundObject (object : Object) : Type 0 where
  pub words : length object.text % 4 ≡ 0
  pub symbols : All (IsSoundSymbol object) object.symbols
  pub definitions : AllPairs (λ a b. are_rivals a b ≡ false) object.symbols
  pub relocs : All (IsSoundReloc object) object.relocs
