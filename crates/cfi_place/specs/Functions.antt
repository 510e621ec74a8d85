-- The functions of a placed module, in words from its start.
use Rattle.std.specs.Prelude.{ℕ, ◌/◌, ◌==◌, ◌&&◌, Bool, false, List, map, filter, Option, Some, None}
use Rattle.elf_read.specs.declared.object.Symbol.{Symbol}
use Rattle.cfi_aux.specs.declared.records.Function.{Function}
use Rattle.cfi_aux.specs.declared.placed.PlacedFunction.{PlacedFunction}
use Rattle.cfi_aux.specs.Placed.{is_global, is_global_binding, is_text}
use Rattle.cfi_place.specs.Names.{Names}

-- the function of a record
abbrev pub make_function : (global : Bool) → Function → PlacedFunction
make_function global f = record {
  first = f.offset / 4;
  count = f.length / 4;
  ty = f.ty;
  taken = f.taken;
  global = global;
  name = f.name;
}

-- the functions of a module, which are global where a global symbol stands at their names
abbrev pub placed_functions : List Symbol → List Function → List PlacedFunction
placed_functions symbols functions = map (λ f. make_function (is_global symbols f) f) functions

-- the global symbols of text, by name, with their places
abbrev pub is_global_text : Symbol → Bool
is_global_text symbol = is_global_binding symbol.binding && is_text symbol.place

-- the global symbols in the text, by name
abbrev pub globals_in : List Symbol → List (List ℕ × ℕ)
globals_in symbols = map (λ s. (s.name, s.value)) (filter is_global_text symbols)

-- the function begins where they have its name
abbrev pub stands_at : Option ℕ → (offset : ℕ) → Bool
stands_at None offset = false
stands_at (Some place) offset = place == offset

-- a function's name stands at its offset there
abbrev pub has_global : (globals : Names) → Function → Bool
has_global globals f = stands_at (globals f.name) f.offset
