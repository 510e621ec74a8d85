-- The names of a source, in the order in which they first occur: where each is defined, and whether other objects see
-- it. A symbol is local where the file defines its name and no `.globl` exports it; local symbols stand before all
-- others (System V ABI, ELF, symbol table).
use Rattle.std.specs.Prelude.{ℕ, suc, Bool, true, false, not, ◌&&◌, List, [], ◌∷◌, ◌++◌, filter, if◌then◌else◌, Option, Some, None, is_some, option_and_then, option_map}
use Rattle.std.specs.Str.{bytes_eq}
use Rattle.elf_read.specs.declared.object.Area.{Area}
use Rattle.elf_read.specs.declared.object.Area.TheVariants as areas
use Rattle.elf_read.specs.declared.object.Binding.{Binding}
use Rattle.elf_read.specs.declared.object.Binding.TheVariants as bindings
use Rattle.elf_read.specs.declared.object.Place.{Place}
use Rattle.elf_read.specs.declared.object.Place.TheVariants as places
use Rattle.elf_read.specs.declared.object.Symbol.{Symbol}
use Rattle.rv_names.specs.declared.names.Definition.{Definition}
use Rattle.rv_names.specs.declared.names.Entry.{Entry}

-- the entry has this name
abbrev pub is_named : (name : List ℕ) → Entry → Bool
is_named name entry = bytes_eq entry.name name

-- the number of a name
abbrev pub number_in : (table : List Entry) → (name : List ℕ) → Option ℕ
number_in [] name = None
number_in (entry ∷ table) name = if is_named name entry then Some 0 else option_map suc (number_in table name)

-- its first definition
abbrev pub definition_in : (table : List Entry) → (name : List ℕ) → Option Definition
definition_in [] name = None
definition_in (entry ∷ table) name = if is_named name entry then entry.definition else definition_in table name

-- a name that was not there before
abbrev pub fresh : (name : List ℕ) → Entry
fresh name = record { name = name; definition = None; exported = false }

-- the table with a name that occurs
abbrev pub with_name : (table : List Entry) → (name : List ℕ) → List Entry
with_name [] name = fresh name ∷ []
with_name (entry ∷ table) name = if is_named name entry then entry ∷ table else entry ∷ with_name table name

-- the table with another entry of a name
abbrev pub changed : (Entry → Entry) → (table : List Entry) → (name : List ℕ) → List Entry
changed change [] name = []
changed change (entry ∷ table) name =
    if is_named name entry then change entry ∷ table else entry ∷ changed change table name

-- the first definition of a name stands
abbrev pub defined : Definition → Entry → Entry
defined definition entry =
    if is_some entry.definition then entry else record entry { definition = Some definition }

-- the names with a definition of one, where it has none yet
abbrev pub with_definition : (table : List Entry) → (name : List ℕ) → Definition → List Entry
with_definition table name definition = changed (defined definition) (with_name table name) name

-- a name that other objects see
abbrev pub exported : Entry → Entry
exported entry = record entry { exported = true }

-- the names with one that other objects see
abbrev pub with_export : (table : List Entry) → (name : List ℕ) → List Entry
with_export table name = changed exported (with_name table name) name

-- names that occur, one after the other
abbrev pub with_names : (table : List Entry) → (names : List (List ℕ)) → List Entry
with_names table [] = table
with_names table (name ∷ names) = with_names (with_name table name) names

-- local names, and all others
abbrev pub is_local : Entry → Bool
is_local entry = is_some entry.definition && not entry.exported

-- other objects see the symbol
abbrev pub is_seen : Entry → Bool
is_seen entry = not (is_local entry)

-- the names in the order of their symbols
abbrev pub in_order : (table : List Entry) → List Entry
in_order table = filter is_local table ++ filter is_seen table

-- the place of a definition in the text
abbrev pub value_by : Area → (value : ℕ) → Option ℕ
value_by areas.Text value = Some value
value_by areas.Data value = None

-- the value of what is defined in the text
abbrev pub value_in_text : Definition → Option ℕ
value_in_text definition = value_by definition.area definition.value

-- the value of a name that is
abbrev pub text_value : (table : List Entry) → (name : List ℕ) → Option ℕ
text_value table name = option_and_then value_in_text (definition_in table name)

-- the symbol of a name
abbrev pub binding_of : Entry → Binding
binding_of entry = if is_local entry then bindings.Local else bindings.Global

-- the place of what is defined in an area
abbrev pub place_in : Area → Place
place_in areas.Text = places.Text
place_in areas.Data = places.Data

-- the place of a name
abbrev pub place_of : Option Definition → Place
place_of None = places.Undefined
place_of (Some definition) = place_in definition.area

-- its value
abbrev pub value_of : Option Definition → ℕ
value_of None = 0
value_of (Some definition) = definition.value

-- the symbol of a name
abbrev pub symbol_of : Entry → Symbol
symbol_of entry = record {
  name = entry.name;
  binding = binding_of entry;
  place = place_of entry.definition;
  value = value_of entry.definition;
}
