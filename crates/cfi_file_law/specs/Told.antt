-- A file that a shelf tells.
use Rattle.std.specs.Prelude.{◌≡◌, ℕ, List, Some}
use Rattle.cfi_io.specs.Files.{Files}
use Rattle.cfi_io.specs.Seen.{ShelfView}

-- the shelf tells its files, and the file of this name has these bytes
pub record Tells (shelf : ShelfView) (name file : List ℕ) : Type 0 where
  pub told : Files
  pub tells : shelf.files ≡ Some told
  pub has : told name ≡ Some file
