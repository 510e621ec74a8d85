-- What a command comes to where nobody is waited for.
use Rattle.std.specs.Prelude.{◌≡◌, ℕ, List}
use Rattle.cfi_io.specs.Seen.{ShelfView}
use Rattle.cfi_request.specs.declared.command.Command.{Command}
use Rattle.cfi_request.specs.Command.{more_of}
use Rattle.cfi_request.specs.Reading.{AreRead}
use Rattle.cfi_top.specs.declared.answer.Answer.{Answer}
use Rattle.cfi_top.specs.declared.work.Outcome.{Outcome}
use Rattle.cfi_top.specs.declared.work.Outcome.TheVariants as outcomes
use Rattle.cfi_top.specs.declared.work.Ready.{Ready}
use Rattle.cfi_top.specs.Outcome.{IsAllRead}
use Rattle.cfi_top.specs.Running.{RunsGuests}

-- P holds of the answer, or Q of the run that is to be made
abbrev pub ComesTo : (P : Answer → Type 0) → (Q : Ready → Type 0) → Outcome → Type 0
ComesTo P Q (outcomes.Answer answer) = P answer
ComesTo P Q (outcomes.Run ready) = Q ready

-- this is the command, which runs guests, and it has files of these bytes, which name these files
pub record IsToRun (command : Command) (files more : List (List ℕ)) (ready : Ready) : Type 0 where
  pub is : ready.command ≡ command
  pub runs : RunsGuests command
  pub inputs : ready.files ≡ files
  pub others : ready.more ≡ more

-- this is the command, which runs guests, it has files of these bytes, and the files that these name are read
pub record IsReadToRun (command : Command) (files : List (List ℕ)) (shelf : ShelfView) (ready : Ready) : Type 0 where
  pub is : ready.command ≡ command
  pub runs : RunsGuests command
  pub inputs : ready.files ≡ files
  pub others : AreRead shelf (more_of command files) ready.more

-- this is the command, which runs guests, and all its files are read
pub record IsReadyFor (command : Command) (shelf : ShelfView) (ready : Ready) : Type 0 where
  pub is : ready.command ≡ command
  pub runs : RunsGuests command
  pub read : IsAllRead command shelf ready.files ready.more
