-- Sizes that are counted up to the greatest number of the machine.
use Rattle.std.specs.Prelude.{ℕ, ◌+◌, length, min}
use Rattle.cfi_aux.specs.declared.modules.Module.{Module}
use Rattle.cfi_link.specs.declared.limits.Sizes.{Sizes}
use Rattle.cfi_link.specs.Gap.{gap}

-- the greatest number of 64 bits
abbrev pub GREATEST : ℕ
GREATEST = 18446744073709551615

-- the number, or the greatest that the machine has
abbrev pub capped : ℕ → ℕ
capped n = min n GREATEST

-- so of each size
abbrev pub capped_sizes : Sizes → Sizes
capped_sizes sizes = record {
  symbols = capped sizes.symbols;
  relocs = capped sizes.relocs;
  text = capped sizes.text;
  static_data = capped sizes.static_data;
  types = capped sizes.types;
  functions = capped sizes.functions;
  branches = capped sizes.branches;
}

-- sizes with those of one module more
abbrev pub with_sizes : Sizes → Module → Sizes
with_sizes sizes m = record {
  symbols = capped (sizes.symbols + length m.object.symbols);
  relocs = capped (sizes.relocs + length m.object.relocs);
  text = capped (sizes.text + length m.object.text);
  static_data = capped (capped (sizes.static_data + gap sizes.static_data) + length m.object.static_data);
  types = capped (sizes.types + length m.types);
  functions = capped (sizes.functions + length m.records.functions);
  branches = capped (sizes.branches + length m.records.branches);
}
