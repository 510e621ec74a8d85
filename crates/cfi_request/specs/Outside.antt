-- What a shelf and a sink tell and count at one moment, and what becomes of them where something is delivered.
use Rattle.std.specs.Prelude.{◌≡◌, ◌≢◌, ◌≤◌, ◌⊎◌, ℕ, List, [], Some, ⊤}
use Rattle.std.specs.Io.KnownBytes.{Appends}
use Rattle.cfi_io.specs.Count.{Rose}
use Rattle.cfi_io.specs.Files.{Puts, PutsPart}
use Rattle.cfi_io.specs.Seen.{ShelfView, SinkView}
use Rattle.cfi_io.specs.declared.undone.Undone.TheVariants as undone
use Rattle.cfi_io.specs.Told.{WhereTold, WhereKeptTold, AppendsPrefix}
use Rattle.cfi_request.specs.declared.output.Output.{Output}
use Rattle.cfi_request.specs.declared.output.Output.TheVariants as outputs
use Rattle.cfi_request.specs.declared.output.TheConstants.{DONE, WRITE_FAULT, MEMORY}

-- where the shelf tells its files, the file of this name has these bytes
abbrev pub Holds : ShelfView → (name bytes : List ℕ) → Type 0
Holds shelf name bytes = WhereTold shelf.files (λ told. told name ≡ Some bytes)

-- a shelf, and the same shelf later: its files are the same, and no count fell
pub record IsLater (shelf mid : ShelfView) : Type 0 where
  pub files : mid.files ≡ shelf.files
  pub faults : shelf.faults ≤ mid.faults
  pub misses : shelf.misses ≤ mid.misses

-- the status where an output was delivered whole
abbrev pub status_of : Output → ℕ
status_of (outputs.Print status text) = status
status_of (outputs.Save name bytes) = DONE

-- the text is printed whole, for which an empty one makes no call, and all files stay; or the file has the bytes, all
-- other files stay, and nothing is printed
abbrev pub IsWrittenWhole : Output → (shelf shelf' : ShelfView) → (sink sink' : SinkView) → Type 0
IsWrittenWhole (outputs.Print status text) shelf shelf' sink sink' =
    (shelf'.files ≡ shelf.files) × Appends sink.written sink'.written text × (text ≡ [] → sink' ≡ sink)
IsWrittenWhole (outputs.Save name bytes) shelf shelf' sink sink' =
    (sink'.written ≡ sink.written) × WhereKeptTold shelf.files shelf'.files (Puts name bytes)

-- the shelf failed, and the last of its calls that was not done is the write of the file of this name
pub record HasFailedToSave (shelf shelf' : ShelfView) (name : List ℕ) : Type 0 where
  pub rose : Rose shelf.faults shelf'.faults
  pub last : shelf'.last ≡ Some (undone.Write name)

-- The sink failed and has a part of the text, which is not empty, and all files stay. Or the shelf failed to save the
-- file, which has what it had, or a part of the bytes, all other files stay, and nothing is printed.
abbrev pub IsBroken : Output → (shelf shelf' : ShelfView) → (sink sink' : SinkView) → Type 0
IsBroken (outputs.Print status text) shelf shelf' sink sink' =
    (shelf'.files ≡ shelf.files) × Rose sink.faults sink'.faults × AppendsPrefix sink.written sink'.written text
    × (text ≢ [])
IsBroken (outputs.Save name bytes) shelf shelf' sink sink' =
    (sink'.written ≡ sink.written) × HasFailedToSave shelf shelf' name
    × WhereKeptTold shelf.files shelf'.files (PutsPart name bytes)

-- no memory was left: all files stay, and nothing is printed
abbrev pub IsStarved : (shelf shelf' : ShelfView) → (sink sink' : SinkView) → (status : ℕ) → Type 0
IsStarved shelf shelf' sink sink' status =
    (status ≡ MEMORY) × (shelf'.files ≡ shelf.files) × (sink'.written ≡ sink.written)

-- what is printed leaves the last call of the shelf that was not done
abbrev pub KeepsLast : Output → (shelf shelf' : ShelfView) → Type 0
KeepsLast (outputs.Print status text) shelf shelf' = shelf'.last ≡ shelf.last
KeepsLast (outputs.Save name bytes) shelf shelf' = ⊤

-- an output was delivered, whole or in part, and the status says which
abbrev pub IsDelivered : Output → (shelf shelf' : ShelfView) → (sink sink' : SinkView) → (status : ℕ) → Type 0
IsDelivered output shelf shelf' sink sink' status =
    ((status ≡ status_of output) × IsWrittenWhole output shelf shelf' sink sink')
    ⊎ ((status ≡ WRITE_FAULT) × IsBroken output shelf shelf' sink sink')
