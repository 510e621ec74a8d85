-- The limits on one object: how much of each thing it may have, and which limit is passed first, in the order symbols,
-- relocations, words of text, bytes of data, nodes of types, functions, branches.
use Rattle.std.specs.Prelude.{ℕ, ◌*◌, nat_le, if◌then◌else◌, length, Option, Some, None}
use Rattle.elf_read.specs.declared.fault.Limit.{Limit}
use Rattle.elf_read.specs.declared.fault.Limit.TheVariants as limits
use Rattle.cfi_word.specs.declared.limits.TheConstants.{MAX_SYMBOLS, MAX_RELOCS, MAX_WORDS, MAX_DATA, MAX_NODES, MAX_FUNCTIONS, MAX_BRANCHES}
use Rattle.cfi_aux.specs.declared.modules.Module.{Module}
use Rattle.cfi_import.specs.declared.object_sizes.Sizes.{Sizes}

-- how many symbols, relocations, bytes of text and data, nodes, functions and branches a module has
abbrev pub module_sizes : Module → Sizes
module_sizes m = record {
  symbols = length m.object.symbols;
  relocs = length m.object.relocs;
  text = length m.object.text;
  static_data = length m.object.static_data;
  types = length m.types;
  functions = length m.records.functions;
  branches = length m.records.branches;
}

-- the limit that a number is above, or what comes next
abbrev pub unless_above : (limit number : ℕ) → Limit → Option Limit → Option Limit
unless_above limit number what next = if nat_le number limit then next else Some what

-- the first limit that sizes pass
abbrev pub passed : Sizes → Option Limit
passed sizes =
    unless_above MAX_SYMBOLS sizes.symbols limits.Symbols
    (unless_above MAX_RELOCS sizes.relocs limits.Relocs
    (unless_above (4 * MAX_WORDS) sizes.text limits.Words
    (unless_above MAX_DATA sizes.static_data limits.Data
    (unless_above MAX_NODES sizes.types limits.Types
    (unless_above MAX_FUNCTIONS sizes.functions limits.Functions
    (unless_above MAX_BRANCHES sizes.branches limits.Branches None))))))
