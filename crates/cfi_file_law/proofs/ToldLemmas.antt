-- What becomes of a file that a shelf tells, when it is read.
use Rattle.std.proofs.Common.{◌≡◌, ◌∙◌, ℕ, zero, suc, ◌<◌, List, [], ◌∷◌, length, slice_get, Option, Some, None, All, Result, Ok, Err, IsSomeAnd, unwrap_or, refl, sym, ap, ap₂, subst, arith}
use Rattle.std.proofs.lemmas.List.Elements.{All-head}
use Rattle.cfi_word.specs.declared.limits.TheConstants.{MAX_FILE_BYTES}
use Rattle.cfi_io.specs.Count.{Rose}
use Rattle.cfi_io.specs.Files.{Files}
use Rattle.cfi_io.specs.Seen.{ShelfView}
use Rattle.cfi_io.specs.Told.{WhereTold}
use Rattle.cfi_request.specs.Reading.{IsShort, AreRead, IsUnread, IsFound}
use Rattle.cfi_request.specs.declared.reading.Cause.{Cause}
use Rattle.cfi_request.specs.declared.reading.Cause.TheVariants.{Failed, Absent, TooLong}
use Rattle.cfi_request.specs.declared.reading.Unread.{Unread}
use Rattle.cfi_request.proofs.ReadingLemmas.{one_file}
use Rattle.cfi_file_law.specs.Told.{Tells}

-- the one name at a place of a list of one
the-one : (name : List ℕ) (at : ℕ) (other : List ℕ) → slice_get (name ∷ []) at ≡ Some other → other ≡ name
the-one name zero other same = ap (λ (o : Option (List ℕ)). unwrap_or o []) (sym same)
the-one name (suc at) other same = absurd (cc)

-- a file of this name is not read for this cause
abbrev unread-of : (name : List ℕ) → Cause → Unread
unread-of name cause = record { name = name; cause = cause }

module _ (shelf shelf' : ShelfView) (name file : List ℕ) (tells : Tells shelf name file) where
  -- what is read of the name is the file
  read-told : (files : List (List ℕ)) → AreRead shelf (name ∷ []) files → files ≡ file ∷ []
  read-told files read =
      let one = one_file shelf name files read in
      let held : tells.told name ≡ Some one.0 =
      subst (λ (o : Option Files). WhereTold o (λ told. told name ≡ Some one.0)) tells.tells one.2 in
      let same : one.0 ≡ file = ap (λ (o : Option (List ℕ)). unwrap_or o []) (sym held ∙ tells.has) in
      one.1 ∙ ap (λ (bytes : List ℕ). bytes ∷ []) same

  -- what is not read, though the shelf did not fail, is too long
  unread-long : (cause : Cause) → ¬ Rose shelf.faults shelf'.faults → IsUnread shelf shelf' name cause
      → (cause ≡ TooLong) × (MAX_FILE_BYTES < length file)
  unread-long Failed steady why = absurd (steady why.rose)
  unread-long Absent steady why =
      let none : tells.told name ≡ None =
      subst (λ (o : Option Files). WhereTold o (λ told. told name ≡ None)) tells.tells why.told in
      absurd (cc)
  unread-long TooLong steady why =
      let long : IsSomeAnd (tells.told name) (λ bytes. MAX_FILE_BYTES < length bytes) =
      subst (λ (o : Option Files). WhereTold o (λ told. IsSomeAnd (told name) (λ bytes. MAX_FILE_BYTES < length bytes)))
      tells.tells why.told in
      (refl, subst (λ (o : Option (List ℕ)). IsSomeAnd o (λ bytes. MAX_FILE_BYTES < length bytes)) tells.has long)

  stops-long : (unread : Unread) → ¬ Rose shelf.faults shelf'.faults → IsFound shelf shelf' (name ∷ []) (Err unread)
      → (unread ≡ record { name = name; cause = TooLong }) × (MAX_FILE_BYTES < length file)
  stops-long unread steady stops =
      let named : unread.name ≡ name = the-one name stops.at unread.name stops.named in
      let why =
      unread-long unread.cause steady (subst (λ (n : List ℕ). IsUnread shelf shelf' n unread.cause) named stops.why) in
      (ap₂ unread-of named why.0, why.1)

  pub short-read : (found : Result (List (List ℕ)) Unread) → ¬ Rose shelf.faults shelf'.faults
      → IsFound shelf shelf' (name ∷ []) found → IsShort file → found ≡ Ok (file ∷ [])
  short-read (Ok files) steady read short = ap (λ (fs : List (List ℕ)). Ok fs) (read-told files read)
  short-read (Err unread) steady stops short = absurd (omega (arith, short, (stops-long unread steady stops).1))

  pub long-refused : (found : Result (List (List ℕ)) Unread) → ¬ Rose shelf.faults shelf'.faults
      → IsFound shelf shelf' (name ∷ []) found → ¬ IsShort file
      → found ≡ Err (record { name = name; cause = TooLong })
  long-refused (Ok files) steady read long =
      absurd (long (All-head IsShort file [] (subst (All IsShort) (read-told files read) read.short)))
  long-refused (Err unread) steady stops long = ap (λ (u : Unread). Err u) (stops-long unread steady stops).0
