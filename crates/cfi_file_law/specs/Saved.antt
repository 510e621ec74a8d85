-- A file that `instrument` saved, once it is read again and placed.
use Rattle.std.specs.Prelude.{ℕ, ◌≢◌, ◌<◌, List, [], All}
use Rattle.cfi_aux.specs.declared.modules.Module.{Module}
use Rattle.cfi_aux.specs.declared.placed.Placed.{Placed}
use Rattle.cfi_place.specs.declared.room.Room.{Room}
use Rattle.cfi_place.specs.Names.{Names}
use Rattle.cfi_place.specs.Placed.{IsRoom, IsPlaced}
use Rattle.cfi_request.specs.Reading.{IsShort}
use Rattle.cfi_commands.specs.Reading.{IsModuleFile}
use Rattle.cfi_commands.specs.Instrumenting.{IsInstrumentedFile}

-- what a file has
abbrev pub AreBytes : List ℕ → Type 0
AreBytes bytes = All (λ byte. byte < 256) bytes

-- of a file with text another one was saved, which is short enough to be read, and the module that this one is stands
-- in a room
pub record IsSavedAt (bytes file : List ℕ) (room : Room) (names : Names) (placed : Placed) : Type 0 where
  pub are : AreBytes bytes
  pub saved : IsInstrumentedFile bytes file
  pub short : IsShort file
  pub some : saved.unplaced.object.text ≢ []
  pub m : Module
  pub read : IsModuleFile file m
  pub fits : IsRoom room
  pub stands : IsPlaced m room names placed
