-- Objects that a file can be: what is written of them is read again.
use Rattle.std.specs.Prelude.{ℕ, ◌≡◌, ◌≢◌, ◌+◌, ◌-◌, ◌%◌, ◌==◌, ◌&&◌, ◌<◌, ◌≤◌, ◌^◌, Bool, true, false, List, length, get_or, filter, ◌++◌, All, ⊤, FitsSigned}
use Rattle.std.specs.List.{list_any}
use Rattle.std.specs.Int.{w32}
use Rattle.std.specs.Str.{IsUtf8}
use Rattle.elf_read.specs.Relocation.{is_known, is_dropped, is_of_data, is_of_instruction, field_size}
use Rattle.elf_read.specs.declared.object.Object.{Object}
use Rattle.elf_read.specs.declared.object.Symbol.{Symbol}
use Rattle.elf_read.specs.declared.object.Reloc.{Reloc}
use Rattle.elf_read.specs.declared.object.Binding.{Binding}
use Rattle.elf_read.specs.declared.object.Binding.TheVariants as bindings
use Rattle.elf_read.specs.declared.object.Place.{Place}
use Rattle.elf_read.specs.declared.object.Place.TheVariants as places
use Rattle.elf_read.specs.declared.object.Area.{Area}
use Rattle.elf_read.specs.declared.object.Area.TheVariants as areas
use Rattle.elf_read.specs.Sound.{is_exported, is_defined}
use Rattle.elf_write.specs.Contents.{no_symbol, symbol_number, is_in}
use Rattle.elf_write.specs.Limits.{IsWithinLimits}

-- it defines its global or weak name
abbrev pub is_definition : Symbol → Bool
is_definition symbol = is_exported symbol.binding && is_defined symbol.place

-- a global or weak symbol has a name, and a local one is defined
abbrev pub HasName : Binding → (name : List ℕ) → Type 0
HasName bindings.Local name = ⊤
HasName _ name = 0 < length name

-- a local symbol is defined
abbrev pub HasPlace : Binding → Place → Type 0
HasPlace bindings.Local place = is_defined place ≡ true
HasPlace _ place = ⊤

-- the greatest value of a symbol
abbrev pub greatest_value : Object → Place → ℕ
greatest_value object places.Text = length object.text
greatest_value object places.Data = length object.static_data
greatest_value object _ = 2 ^ 32 - 1

-- a symbol breaks no rule
pub record IsGoodSymbol (object : Object) (symbol : Symbol) : Type 0 where
  pub unended : list_any (λ byte. byte == 0) symbol.name ≡ false
  pub text : IsUtf8 symbol.name
  pub named : HasName symbol.binding symbol.name
  pub placed : HasPlace symbol.binding symbol.place
  pub value : symbol.value ≤ greatest_value object symbol.place

-- no two symbols define one name
abbrev pub DefineOnce : List Symbol → Type 0
DefineOnce symbols = (i j : ℕ) → i < j → j < length symbols
    → is_definition (get_or symbols i no_symbol) ≡ true → is_definition (get_or symbols j no_symbol) ≡ true
    → (get_or symbols i no_symbol).name ≢ (get_or symbols j no_symbol).name

-- what an area holds
abbrev pub bytes_in : Object → Area → List ℕ
bytes_in object areas.Text = object.text
bytes_in object areas.Data = object.static_data

-- a relocation of this area, offset and kind: in text it begins at a word and is no kind of data, in data it is no
-- instruction's
abbrev pub IsOfArea : Area → (offset kind : ℕ) → Type 0
IsOfArea areas.Text offset kind = (offset % 4 ≡ 0) × (is_of_data kind ≡ false)
IsOfArea areas.Data offset kind = is_of_instruction kind ≡ false

-- a relocation breaks no rule, and is of no dropped kind
pub record IsGoodReloc (object : Object) (reloc : Reloc) : Type 0 where
  pub known : is_known reloc.kind ≡ true
  pub kept : is_dropped reloc.kind ≡ false
  pub symbol : symbol_number reloc.symbol ≤ length object.symbols
  pub inside : reloc.offset + field_size reloc.kind ≤ length (bytes_in object reloc.area)
  pub placed : IsOfArea reloc.area reloc.offset reloc.kind
  pub fits : FitsSigned w32 reloc.addend

-- the object is within the limits, its text is whole words, nothing of it breaks a rule, and its relocations of text
-- come before those of data
pub record IsWhole (object : Object) : Type 0 where
  pub limits : IsWithinLimits object
  pub words : length object.text % 4 ≡ 0
  pub symbols : All (IsGoodSymbol object) object.symbols
  pub apart : DefineOnce object.symbols
  pub relocs : All (IsGoodReloc object) object.relocs
  pub order : object.relocs ≡ filter (is_in areas.Text) object.relocs ++ filter (is_in areas.Data) object.relocs
