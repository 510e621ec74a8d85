-- What is known of the first file of a command that is not read, and of reading that goes on.
use Rattle.std.proofs.Common.{◌≡◌, ◌≤◌, ℕ, List, map, Option, Some, None, inl, inr, subst}
use Rattle.std.specs.Prelude.{◌<◌, length, IsSomeAnd}
use Rattle.cfi_io.specs.Files.{Files}
use Rattle.cfi_io.specs.Told.{WhereTold}
use Rattle.cfi_word.specs.declared.limits.TheConstants.{MAX_FILE_BYTES}
use Rattle.cfi_request.specs.declared.command.Command.{Command}
use Rattle.cfi_request.specs.declared.reading.Cause.{Cause}
use Rattle.cfi_request.specs.declared.reading.Cause.TheVariants.{Failed, Absent, TooLong}
use Rattle.cfi_request.specs.declared.reading.Unread.{Unread}
use Rattle.cfi_request.specs.Command.{inputs_of, more_of}
use Rattle.cfi_io.specs.Seen.{ShelfView}
use Rattle.cfi_top.specs.Outcome.{IsFirstUnread}
use Rattle.cfi_request.specs.Reading.{AreRead, IsUnread, StopsAt}
use Rattle.cfi_request.specs.Outside.{IsLater}
use Rattle.cfi_request.proofs.OutsideLemmas.{rose_earlier}
use Rattle.cfi_request.proofs.ReadingLemmas.{stops_later}

-- why it is not read
pub why_of : (command : Command) (shelf shelf' : ShelfView) (unread : Unread)
    → IsFirstUnread command shelf shelf' unread → IsUnread shelf shelf' unread.name unread.cause
why_of command shelf shelf' unread (inl stops) = stops.why
why_of command shelf shelf' unread (inr stops) = stops.2.why

-- what stood when it was not read stands later
pub first_later : (command : Command) (shelf mid shelf' : ShelfView) (unread : Unread) → shelf.faults ≤ mid.faults
    → mid.faults ≤ shelf'.faults → shelf.misses ≤ mid.misses → mid.misses ≤ shelf'.misses
    → shelf'.last ≡ mid.last → IsFirstUnread command shelf mid unread → IsFirstUnread command shelf shelf' unread
first_later command shelf mid shelf' unread a b c d same (inl stops) =
    inl (stops_later shelf mid shelf' (inputs_of command) unread a b c d same stops)
first_later command shelf mid shelf' unread a b c d same (inr stops) =
    inr (stops.0, stops.1, stops_later shelf mid shelf' (more_of command stops.0) unread a b c d same stops.2)

-- ---- what was read over a later shelf was read over the earlier one

pub read_since : (shelf mid : ShelfView) (names files : List (List ℕ)) → IsLater shelf mid → AreRead mid names files
    → AreRead shelf names files
read_since shelf mid names files later read = record {
  count = read.count;
  short = read.short;
  held = subst (λ (told : Option Files). WhereTold told (λ t. map t names ≡ map Some files)) later.files read.held;
}

unread_since : (shelf mid shelf' : ShelfView) (name : List ℕ) (cause : Cause) → IsLater shelf mid
    → IsUnread mid shelf' name cause → IsUnread shelf shelf' name cause
unread_since shelf mid shelf' name Failed later why =
    record { rose = rose_earlier _ _ _ later.faults why.rose; last = why.last }
unread_since shelf mid shelf' name Absent later why = record {
  rose = rose_earlier _ _ _ later.misses why.rose;
  last = why.last;
  told = subst (λ (told : Option Files). WhereTold told (λ t. t name ≡ None)) later.files why.told;
}
unread_since shelf mid shelf' name TooLong later why = record {
  rose = rose_earlier _ _ _ later.misses why.rose;
  last = why.last;
  told = subst (λ (told : Option Files). WhereTold told (λ t. IsSomeAnd (t name) (λ bytes. MAX_FILE_BYTES < length bytes)))
      later.files why.told;
}

pub stops_since : (shelf mid shelf' : ShelfView) (names : List (List ℕ)) (unread : Unread) → IsLater shelf mid
    → StopsAt mid shelf' names unread → StopsAt shelf shelf' names unread
stops_since shelf mid shelf' names unread later stops = record {
  at = stops.at;
  named = stops.named;
  files = stops.files;
  before = read_since shelf mid _ stops.files later stops.before;
  why = unread_since shelf mid shelf' unread.name unread.cause later stops.why;
}
