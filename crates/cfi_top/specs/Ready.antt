-- What the words come to where nobody is waited for.
use Rattle.std.specs.Prelude.{◌≡◌, ℕ, List}
use Rattle.cfi_io.specs.Seen.{ShelfView, SinkView}
use Rattle.cfi_request.specs.Command.{IsCommand}
use Rattle.cfi_request.specs.Outside.{IsLater}
use Rattle.cfi_top.specs.declared.program.Served.{Served}
use Rattle.cfi_top.specs.declared.program.Served.TheVariants as served
use Rattle.cfi_top.specs.declared.work.Ready.{Ready}
use Rattle.cfi_top.specs.Outcome.{IsAllRead}
use Rattle.cfi_top.specs.Running.{RunsGuests}
use Rattle.cfi_top.specs.Top.{Ends}

-- the words are this command, which runs guests, and all its files are read
pub record IsReady (words : List (List ℕ)) (shelf : ShelfView) (ready : Ready) : Type 0 where
  pub fits : IsCommand words ready.command
  pub runs : RunsGuests ready.command
  pub read : IsAllRead ready.command shelf ready.files ready.more

-- the program has ended, or guests are to be run, and nothing is saved or printed yet
abbrev pub IsServed : (words : List (List ℕ)) → (shelf shelf' : ShelfView) → (sink sink' : SinkView) → Served → Type 0
IsServed words shelf shelf' sink sink' (served.Ended ended) =
    Ends words shelf shelf' sink sink' ended.status ended.run
IsServed words shelf shelf' sink sink' (served.Run ready) =
    IsReady words shelf ready × IsLater shelf shelf' × (sink' ≡ sink)
