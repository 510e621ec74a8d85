-- Which definition of a name is chosen among the symbols of joined modules (System V ELF, symbol binding): a global one
-- before a weak one, the first of each. The others become references.
use Rattle.std.specs.Prelude.{ℕ, ◌+◌, Bool, true, false, not, ◌==◌, ◌&&◌, if◌then◌else◌, List, [], ◌∷◌, ◌++◌, map, filter, count_by, Option, Some, None, is_some, option_and_then}
use Rattle.std.specs.Option.{option_or}
use Rattle.std.specs.List.{enumerate_from, slice_get}
use Rattle.elf_read.specs.declared.object.Symbol.{Symbol}
use Rattle.elf_read.specs.declared.object.Binding.{Binding}
use Rattle.elf_read.specs.declared.object.Binding.TheVariants as bindings
use Rattle.elf_read.specs.declared.object.Place.{Place}
use Rattle.elf_read.specs.declared.object.Place.TheVariants as places
use Rattle.cfi_aux.specs.Placed.{is_global_binding}
use Rattle.elf_read.specs.Sound.{is_exported, is_defined}
use Rattle.cfi_place.specs.Names.{Names, first_in}

-- ---- definitions

-- the binding is weak
abbrev pub is_weak : Binding → Bool
is_weak bindings.Weak = true
is_weak bindings.Local = false
is_weak bindings.Global = false

-- it is local
abbrev pub is_local : Binding → Bool
is_local bindings.Local = true
is_local bindings.Global = false
is_local bindings.Weak = false

-- a symbol that defines its name as a global one, as a weak one, for other modules at all
abbrev pub defines_global : Symbol → Bool
defines_global s = is_global_binding s.binding && is_defined s.place

-- a weak definition
abbrev pub defines_weak : Symbol → Bool
defines_weak s = is_weak s.binding && is_defined s.place

-- a definition that other modules may name
abbrev pub is_definition : Symbol → Bool
is_definition s = is_exported s.binding && is_defined s.place

-- names with the numbers of the symbols that pass a test
abbrev pub names_with : (test : Symbol → Bool) → List Symbol → List (List ℕ × ℕ)
names_with test symbols = map (λ s. (s.1.name, s.0)) (filter (λ s. test s.1) (enumerate_from 0 symbols))

-- the first global definition of a name, and the first weak one
abbrev pub global_in : List Symbol → Names
global_in symbols name = first_in (names_with defines_global symbols) name

-- the first weak definition of each name
abbrev pub weak_in : List Symbol → Names
weak_in symbols name = first_in (names_with defines_weak symbols) name

-- the number of the definition that is chosen
abbrev pub chosen_in : List Symbol → Names
chosen_in symbols name = option_or (global_in symbols name) (weak_in symbols name)

-- a symbol defines a name as global that is among known ones
abbrev pub is_second : (known : Names) → Symbol → Bool
is_second known s = defines_global s && is_some (known s.name)

-- the name of the first symbol that defines a name as global that one before it defines so too
unfoldable pub twice_from : (before symbols : List Symbol) → Option (List ℕ)
twice_from before [] = None
twice_from before (s ∷ symbols) =
    if is_second (global_in before) s then Some s.name else twice_from (before ++ s ∷ []) symbols

-- the name of the first global definition of one that an earlier one defines
abbrev pub twice_in : List Symbol → Option (List ℕ)
twice_in symbols = twice_from [] symbols

-- ---- the symbols of the output

-- the number is this one
abbrev pub is_at : (number : Option ℕ) → ℕ → Bool
is_at None k = false
is_at (Some number) k = number == k

-- a definition that is not chosen becomes a reference
abbrev pub loses : (chosen : Names) → ℕ × Symbol → Bool
loses chosen (k, s) = is_definition s && not (is_at (chosen s.name) k)

-- a definition that is not chosen becomes a reference; any other symbol stays
abbrev pub settled_symbol : (chosen : Names) → ℕ × Symbol → Symbol
settled_symbol chosen (k, s) =
    if loses chosen (k, s) then record s { place = places.Undefined; value = 0 } else s

-- all symbols so, by their numbers
abbrev pub settled : (chosen : Names) → List Symbol → List Symbol
settled chosen symbols = map (settled_symbol chosen) (enumerate_from 0 symbols)

-- local symbols before all others
abbrev pub is_local_symbol : Symbol → Bool
is_local_symbol s = is_local s.binding

-- local symbols first, each part in its order
abbrev pub in_order : List Symbol → List Symbol
in_order symbols = filter is_local_symbol symbols ++ filter (λ s. not (is_local_symbol s)) symbols

-- the numbers that symbols get so, where the next local one gets `local` and the next other one `other`
abbrev pub numbers_from : (local other : ℕ) → List Symbol → List ℕ
numbers_from local other [] = []
numbers_from local other (s ∷ symbols) =
    if is_local_symbol s then local ∷ numbers_from (local + 1) other symbols
    else other ∷ numbers_from local (other + 1) symbols

-- the number that each symbol has then
abbrev pub numbers_of : List Symbol → List ℕ
numbers_of symbols = numbers_from 0 (count_by is_local_symbol symbols) symbols

-- ---- where symbols lead in the text

-- the value of a symbol in text
abbrev pub text_value_at : Place → (value : ℕ) → Option ℕ
text_value_at places.Text value = Some value
text_value_at places.Data value = None
text_value_at places.Absolute value = None
text_value_at places.Undefined value = None

-- the place in the text that a symbol has, if it has one
abbrev pub text_value : Symbol → Option ℕ
text_value s = text_value_at s.place s.value

-- that of the definition that is chosen for a name
abbrev pub chosen_value : List Symbol → (number : Option ℕ) → Option ℕ
chosen_value symbols number = option_and_then (λ k. option_and_then text_value (slice_get symbols k)) number

-- a symbol's own, or for a reference that of its name's definition
abbrev pub reach_at : List Symbol → (chosen : Names) → (name : List ℕ) → Place → (value : ℕ) → Option ℕ
reach_at symbols chosen name places.Undefined value = chosen_value symbols (chosen name)
reach_at symbols chosen name places.Text value = Some value
reach_at symbols chosen name places.Data value = None
reach_at symbols chosen name places.Absolute value = None

-- where a symbol leads in the text: by itself, or by the chosen definition of its name
abbrev pub reach_of : List Symbol → (chosen : Names) → Symbol → Option ℕ
reach_of symbols chosen s = reach_at symbols chosen s.name s.place s.value

-- so of each symbol, once all are settled
abbrev pub reaches_of : (chosen : Names) → List Symbol → List (Option ℕ)
reaches_of chosen symbols = map (reach_of symbols chosen) (settled chosen symbols)
