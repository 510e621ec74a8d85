-- The gap before a module's data.
use Rattle.std.specs.Prelude.{ℕ, ◌-◌, ◌%◌}
use Rattle.cfi_word.specs.declared.map.TheConstants.{DATA_ALIGNMENT}

-- how many bytes are missing to a multiple of 16
abbrev pub gap : ℕ → ℕ
gap n = (DATA_ALIGNMENT - n % DATA_ALIGNMENT) % DATA_ALIGNMENT
