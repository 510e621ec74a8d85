-- Placed modules of a series.
use Rattle.std.specs.Prelude.{ℕ, List}
use Rattle.cfi_aux.specs.declared.placed.Placed.{Placed}
use Rattle.cfi_modules.specs.Loaded.{AreLoaded}
use Rattle.cfi_modules.specs.Series.{IsSeries}

-- in some number of code words they are loaded, and a series
abbrev pub IsOfSeries : List Placed → Type 0
IsOfSeries placed = (code_words : ℕ) × AreLoaded code_words placed × IsSeries code_words placed
