-- What the symbols of a module stand for once it is placed: its text begins at word `base` of the code, its data at the
-- address `data_base`. A name that a symbol leaves undefined has the module's own address of it, else that of `names`,
-- else 0 where the symbol is weak (System V ELF, symbol binding).
use Rattle.std.specs.Prelude.{ℕ, List, [], ◌∷◌, map, Option, Some, None, option_and_then}
use Rattle.std.specs.Option.{option_or, option_map_or}
use Rattle.std.specs.List.{slice_get}
use Rattle.elf_read.specs.declared.object.Symbol.{Symbol}
use Rattle.elf_read.specs.declared.object.Reloc.{Reloc}
use Rattle.elf_read.specs.declared.object.Binding.{Binding}
use Rattle.elf_read.specs.declared.object.Binding.TheVariants as bindings
use Rattle.elf_read.specs.declared.object.Place.{Place}
use Rattle.elf_read.specs.declared.object.Place.TheVariants as places
use Rattle.cfi_aux.specs.Placed.{address_of, exports_of}
use Rattle.cfi_place.specs.declared.room.Room.{Room}
use Rattle.cfi_place.specs.Names.{Names, first_in}

-- the module's own address of a name: that of its export
abbrev pub own_in : Room → List Symbol → Names
own_in room symbols = first_in (exports_of room.base room.data_base symbols)

-- a weak name that nothing defines is 0; any other has no value
abbrev pub weak_value : Binding → Option ℕ
weak_value bindings.Weak = Some 0
weak_value bindings.Global = None
weak_value bindings.Local = None

-- what an undefined symbol stands for
abbrev pub named_value : (own names : Names) → Symbol → Option ℕ
named_value own names symbol =
    option_or (own symbol.name) (option_or (names symbol.name) (weak_value symbol.binding))

-- what a symbol stands for, by its place; none where it is defined nowhere
abbrev pub value_by : Place → Room → (own names : Names) → Symbol → Option ℕ
value_by places.Undefined room own names symbol = named_value own names symbol
value_by places.Absolute room own names symbol = Some (address_of room.base room.data_base symbol)
value_by places.Text room own names symbol = Some (address_of room.base room.data_base symbol)
value_by places.Data room own names symbol = Some (address_of room.base room.data_base symbol)

-- the value of a symbol in a room
abbrev pub value_of : Room → (own names : Names) → Symbol → Option ℕ
value_of room own names symbol = value_by symbol.place room own names symbol

-- the values of a module's symbols
abbrev pub values_by : Room → (own names : Names) → List Symbol → List (Option ℕ)
values_by room own names symbols = map (value_of room own names) symbols

-- the value that a relocation takes: 0 where it has no symbol
abbrev pub value_at : List (Option ℕ) → (symbol : Option ℕ) → Option ℕ
value_at values None = Some 0
value_at values (Some k) = option_and_then (λ value. value) (slice_get values k)

-- the name of a relocation's symbol
abbrev pub name_at : List Symbol → (symbol : Option ℕ) → List ℕ
name_at symbols None = []
name_at symbols (Some k) = option_map_or (λ symbol. symbol.name) (slice_get symbols k) []

-- the name that the first relocation without a value names, if there is one
abbrev pub unless_there : Option ℕ → (name : List ℕ) → (rest : Option (List ℕ)) → Option (List ℕ)
unless_there (Some value) name rest = rest
unless_there None name rest = Some name

-- the name of the first relocation whose symbol has no value
abbrev pub undefined_in : List Symbol → List (Option ℕ) → List Reloc → Option (List ℕ)
undefined_in symbols values [] = None
undefined_in symbols values (reloc ∷ relocs) =
    unless_there (value_at values reloc.symbol) (name_at symbols reloc.symbol) (undefined_in symbols values relocs)
