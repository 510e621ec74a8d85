-- Files that are read one after the other, and the first that is not read.
use Rattle.std.specs.Prelude.{◌≡◌, ℕ, ◌<◌, ◌≤◌, List, length, map, take, slice_get, All, Option, Some, None, IsSomeAnd, Result, Ok, Err}
use Rattle.cfi_io.specs.Count.{Rose}
use Rattle.cfi_io.specs.Told.{WhereTold}
use Rattle.cfi_io.specs.declared.undone.Undone.TheVariants as undone
use Rattle.cfi_word.specs.declared.limits.TheConstants.{MAX_FILE_BYTES}
use Rattle.cfi_request.specs.declared.reading.Cause.{Cause}
use Rattle.cfi_request.specs.declared.reading.Cause.TheVariants.{Failed, Absent, TooLong}
use Rattle.cfi_request.specs.declared.reading.Unread.{Unread}
use Rattle.cfi_request.specs.Outside.{Holds}
use Rattle.cfi_io.specs.Seen.{ShelfView}

-- a file that may be read
abbrev pub IsShort : (bytes : List ℕ) → Type 0
IsShort bytes = length bytes ≤ MAX_FILE_BYTES

-- the file of this name was read, and has these bytes
abbrev pub HasRead : ShelfView → (name bytes : List ℕ) → Type 0
HasRead shelf name bytes = IsShort bytes × Holds shelf name bytes

-- the files of these names were read, and have these bytes, one by one
pub record AreRead (shelf : ShelfView) (names files : List (List ℕ)) : Type 0 where
  pub count : length files ≡ length names
  pub short : All IsShort files
  pub held : WhereTold shelf.files (λ told. map told names ≡ map Some files)

-- the shelf failed, and the last of its calls that was not done is the read of the file of this name
pub record HasFailed (shelf shelf' : ShelfView) (name : List ℕ) : Type 0 where
  pub rose : Rose shelf.faults shelf'.faults
  pub last : shelf'.last ≡ Some (undone.Read name)

-- the shelf missed a file, that of this name, of which P holds where the shelf tells its files
pub record HasMissed (shelf shelf' : ShelfView) (name : List ℕ) (P : Option (List ℕ) → Type 0) : Type 0 where
  pub rose : Rose shelf.misses shelf'.misses
  pub last : shelf'.last ≡ Some (undone.Missed name)
  pub told : WhereTold shelf.files (λ told. P (told name))

-- why the file of this name is not read: the shelf failed there, or lacks it, or it is too long
abbrev pub IsUnread : (shelf shelf' : ShelfView) → (name : List ℕ) → Cause → Type 0
IsUnread shelf shelf' name Failed = HasFailed shelf shelf' name
IsUnread shelf shelf' name Absent = HasMissed shelf shelf' name (λ found. found ≡ None)
IsUnread shelf shelf' name TooLong =
    HasMissed shelf shelf' name (λ found. IsSomeAnd found (λ bytes. MAX_FILE_BYTES < length bytes))

-- of the files of these names, which are read in order, the first that is not read is this
pub record StopsAt (shelf shelf' : ShelfView) (names : List (List ℕ)) (unread : Unread) : Type 0 where
  pub at : ℕ
  pub named : slice_get names at ≡ Some unread.name
  pub files : List (List ℕ)
  pub before : AreRead shelf (take at names) files
  pub why : IsUnread shelf shelf' unread.name unread.cause

-- what reading comes to: the bytes of all files, or the first that is not read
abbrev pub IsFound : (shelf shelf' : ShelfView) → (names : List (List ℕ)) → Result (List (List ℕ)) Unread → Type 0
IsFound shelf shelf' names (Ok files) = AreRead shelf names files
IsFound shelf shelf' names (Err unread) = StopsAt shelf shelf' names unread
