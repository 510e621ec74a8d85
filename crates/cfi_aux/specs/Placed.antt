-- Which functions are global, and what a placed module exports.
use Rattle.std.specs.Prelude.{ℕ, ◌+◌, ◌*◌, Bool, true, false, ◌&&◌, ◌==◌, List, map, filter}
use Rattle.std.specs.List.{list_any}
use Rattle.std.specs.Str.{bytes_eq}
use Rattle.elf_read.specs.declared.object.Symbol.{Symbol}
use Rattle.elf_read.specs.declared.object.Binding.{Binding}
use Rattle.elf_read.specs.declared.object.Binding.TheVariants as bindings
use Rattle.elf_read.specs.declared.object.Place.{Place}
use Rattle.elf_read.specs.declared.object.Place.TheVariants as places
use Rattle.cfi_aux.specs.declared.records.Function.{Function}
use Rattle.elf_read.specs.Sound.{is_exported, is_defined}

-- the binding is Global
abbrev pub is_global_binding : Binding → Bool
is_global_binding bindings.Global = true
is_global_binding bindings.Local = false
is_global_binding bindings.Weak = false

-- the place is in the text
abbrev pub is_text : Place → Bool
is_text places.Text = true
is_text places.Undefined = false
is_text places.Absolute = false
is_text places.Data = false

-- a global symbol of the function's name, in text, whose value is where the function begins
abbrev pub names_function : Function → Symbol → Bool
names_function f symbol =
    is_global_binding symbol.binding && is_text symbol.place && symbol.value == f.offset && bytes_eq symbol.name f.name

-- a global function: one that a symbol names so
abbrev pub is_global : (symbols : List Symbol) → Function → Bool
is_global symbols f = list_any (names_function f) symbols

-- where a symbol is, once its module's text begins at word `base` and its data at address `data_base`
abbrev pub address_in : (base data_base : ℕ) → Place → (value : ℕ) → ℕ
address_in base data_base places.Text value = 4 * base + value
address_in base data_base places.Data value = data_base + value
address_in base data_base places.Absolute value = value
address_in base data_base places.Undefined value = value

-- the address of a symbol, where text and data begin at these addresses
abbrev pub address_of : (base data_base : ℕ) → Symbol → ℕ
address_of base data_base symbol = address_in base data_base symbol.place symbol.value

-- a symbol that other modules may name
abbrev pub is_export : Symbol → Bool
is_export symbol = is_exported symbol.binding && is_defined symbol.place

-- the names and addresses of these, in the order of the symbols
abbrev pub exports_of : (base data_base : ℕ) → (symbols : List Symbol) → List (List ℕ × ℕ)
exports_of base data_base symbols = map (λ s. (s.name, address_of base data_base s)) (filter is_export symbols)
