-- The imports of an object: the functions that it calls or jumps to, and that another object defines (RISC-V ELF psABI,
-- "Relocations": a call and a jump name the symbol of where they lead). Symbols are counted from 0.
use Rattle.std.specs.Prelude.{ℕ, suc, Bool, true, false, not, ◌==◌, ◌||◌, ◌&&◌, if◌then◌else◌, List, [], ◌∷◌, map, filter, Option, Some, None, option_map}
use Rattle.std.specs.List.{list_any, enumerate_from}
use Rattle.elf_read.specs.declared.object.Object.{Object}
use Rattle.elf_read.specs.declared.object.Symbol.{Symbol}
use Rattle.elf_read.specs.declared.object.Reloc.{Reloc}
use Rattle.elf_read.specs.declared.relocation.TheConstants.{CALL, CALL_PLT, JAL}
use Rattle.elf_read.specs.Sound.{is_defined}
use Rattle.cfi_aux.specs.Placed.{is_global_binding}

-- a relocation of a call or of a jump
abbrev pub leads : (kind : ℕ) → Bool
leads kind = kind == CALL || kind == CALL_PLT || kind == JAL

-- the symbol is the one of this number
abbrev pub is_number : (number : ℕ) → (symbol : Option ℕ) → Bool
is_number number None = false
is_number number (Some k) = k == number

-- such a relocation names the symbol of this number
abbrev pub leads_to : (number : ℕ) → Reloc → Bool
leads_to number reloc = leads reloc.kind && is_number number reloc.symbol

-- a symbol that another object defines for all
abbrev pub is_wanted : Symbol → Bool
is_wanted symbol = is_global_binding symbol.binding && not (is_defined symbol.place)

-- a symbol, with its number: it is one of those, and some call or jump leads to it
abbrev pub is_import : List Reloc → ℕ × Symbol → Bool
is_import relocs (number, symbol) = is_wanted symbol && list_any (leads_to number) relocs

-- the imports, with their numbers, in order of these
abbrev pub imports_of : Object → List (ℕ × Symbol)
imports_of object = filter (is_import object.relocs) (enumerate_from 0 object.symbols)

-- their names
abbrev pub names_of : List (ℕ × Symbol) → List (List ℕ)
names_of imports = map (λ one. one.1.name) imports

-- where among them the symbol of a number is, from 0
abbrev pub place_of : List (ℕ × Symbol) → (number : ℕ) → Option ℕ
place_of [] number = None
place_of (one ∷ imports) number = if one.0 == number then Some 0 else option_map suc (place_of imports number)
