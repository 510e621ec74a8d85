-- How much a module with stubs has, counted up to the greatest number of the machine.
use Rattle.std.specs.Prelude.{ℕ, zero, suc, ◌+◌, ◌*◌, length, min}
use Rattle.cfi_import.specs.declared.object_sizes.Sizes.{Sizes}
use Rattle.cfi_import.specs.Limit.{module_sizes}
use Rattle.cfi_aux.specs.Records.{padding}
use Rattle.cfi_aux.specs.declared.modules.Module.{Module}
use Rattle.cfi_import.specs.declared.start.TheConstants.{STUB_BYTES, CELL_BYTES, STUB_SYMBOLS}

-- the greatest number of 64 bits
abbrev pub GREATEST : ℕ
GREATEST = 18446744073709551615

-- the number, or the greatest that the machine has
abbrev pub capped : ℕ → ℕ
capped n = min n GREATEST

-- sizes with those of so many stubs, of which there is one at least
abbrev pub sizes_more : Sizes → (count : ℕ) → Sizes
sizes_more sizes count = record {
  symbols = capped (sizes.symbols + capped (STUB_SYMBOLS * count));
  relocs = capped (sizes.relocs + capped (2 * count));
  text = capped (sizes.text + capped (STUB_BYTES * count));
  static_data = capped (capped (sizes.static_data + padding sizes.static_data) + capped (CELL_BYTES * count));
  types = capped (sizes.types + 2);
  functions = capped (sizes.functions + count);
  branches = capped (sizes.branches + count);
}

-- those of a module with so many stubs
abbrev pub sizes_with : Sizes → (count : ℕ) → Sizes
sizes_with sizes zero = sizes
sizes_with sizes (suc count) = sizes_more sizes (suc count)
