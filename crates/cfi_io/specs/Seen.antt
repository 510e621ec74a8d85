-- What a shelf and a sink tell and count at one moment.
use Rattle.std.specs.Prelude.{ℕ, List, Option}
use Rattle.cfi_io.specs.Files.{Files}
use Rattle.cfi_io.specs.declared.undone.Undone.{Undone}

-- a shelf: its files, where it tells them, how often it failed, how often a file was not there or was too long, and the
-- last call that was not done
pub record ShelfView : Type 0 where
  pub files : Option Files
  pub faults : ℕ
  pub misses : ℕ
  pub last : Option Undone

-- a sink: its bytes, where it tells them, and how often it failed
pub record SinkView : Type 0 where
  pub written : Option (List ℕ)
  pub faults : ℕ
