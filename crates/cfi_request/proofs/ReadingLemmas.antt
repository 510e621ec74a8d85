-- What is known of files that are read one after the other.
use Rattle.std.proofs.Common.{◌≡◌, ◌≤◌, ◌+◌, ℕ, List, [], ◌∷◌, ◌++◌, map, Option, Some, None, refl, sym, ap, ap₂, ◌∙◌, arith, unwrap_or, length-append}
use Rattle.std.specs.Prelude.{slice_get}
use Rattle.std.proofs.lemmas.List.{map-append}
use Rattle.std.proofs.lemmas.List.Elements.{All-nil, All-cons, All-append}
use Rattle.cfi_io.specs.Count.{Rose}
use Rattle.cfi_io.specs.Files.{Files}
use Rattle.cfi_io.specs.Told.{WhereTold}
use Rattle.cfi_request.specs.declared.output.TheConstants.{READ_FAULT, NO_FILE}
use Rattle.cfi_request.specs.declared.reading.Cause.{Cause}
use Rattle.cfi_request.specs.declared.reading.Cause.TheVariants.{Failed, Absent, TooLong}
use Rattle.cfi_request.specs.declared.reading.Unread.{Unread}
use Rattle.cfi_request.specs.Output.{unread_status}
use Rattle.cfi_request.specs.Outside.{Holds}
use Rattle.cfi_io.specs.Seen.{ShelfView}
use Rattle.cfi_request.specs.Reading.{IsShort, HasRead, AreRead, IsUnread, StopsAt}
use Rattle.cfi_request.proofs.OutsideLemmas.{rose_later}

-- ---- files that are read

-- no file
told_none : (files : Option Files) → WhereTold files (λ told. map told [] ≡ map Some [])
told_none None = tt
told_none (Some told) = refl

pub none_read : (shelf : ShelfView) → AreRead shelf [] []
none_read shelf = record { count = refl; short = All-nil IsShort; held = told_none shelf.files }

-- one more file
told_more : (files : Option Files) (names contents : List (List ℕ)) (name bytes : List ℕ)
    → WhereTold files (λ told. map told names ≡ map Some contents) → WhereTold files (λ told. told name ≡ Some bytes)
    → WhereTold files (λ told. map told (names ++ name ∷ []) ≡ map Some (contents ++ bytes ∷ []))
told_more None names contents name bytes before here = tt
told_more (Some told) names contents name bytes before here =
    map-append told names (name ∷ [])
    ∙ ap₂ (λ (xs ys : List (Option (List ℕ))). xs ++ ys) before (ap (λ (o : Option (List ℕ)). o ∷ []) here)
    ∙ sym (map-append Some contents (bytes ∷ []))

pub more_read : (shelf : ShelfView) (names files : List (List ℕ)) (name bytes : List ℕ) → AreRead shelf names files
    → HasRead shelf name bytes → AreRead shelf (names ++ name ∷ []) (files ++ bytes ∷ [])
more_read shelf names files name bytes before here = record {
  count = length-append files (bytes ∷ []) ∙ ap (λ (n : ℕ). n + 1) before.count ∙ sym (length-append names (name ∷ []));
  short = All-append IsShort files (bytes ∷ []) before.short (All-cons IsShort bytes [] here.0 (All-nil IsShort));
  held = told_more shelf.files names files name bytes before.held here.1;
}

-- the one file of a list of one name
told_one : (files : Option Files) (name bytes : List ℕ)
    → WhereTold files (λ told. map told (name ∷ []) ≡ map Some (bytes ∷ []))
    → WhereTold files (λ told. told name ≡ Some bytes)
told_one None name bytes held = tt
told_one (Some told) name bytes held =
    ap (λ (found : List (Option (List ℕ))). unwrap_or (slice_get found 0) None) held

pub one_file : (shelf : ShelfView) (name : List ℕ) (files : List (List ℕ)) → AreRead shelf (name ∷ []) files
    → (bytes : List ℕ) × (files ≡ bytes ∷ []) × Holds shelf name bytes
one_file shelf name [] read = absurd (omega (arith, read.count))
one_file shelf name (bytes ∷ []) read = (bytes, refl, told_one shelf.files name bytes read.held)
one_file shelf name (a ∷ b ∷ rest) read = absurd (omega (arith, read.count))

-- what is told is told once
found_files : (files : List (List ℕ)) → map (λ (found : Option (List ℕ)). unwrap_or found []) (map Some files) ≡ files
found_files [] = refl
found_files (bytes ∷ rest) = ap (λ (more : List (List ℕ)). bytes ∷ more) (found_files rest)

pub same_files : (xs ys : List (List ℕ)) → map Some xs ≡ map Some ys → xs ≡ ys
same_files xs ys same =
    sym (found_files xs) ∙ ap (map (λ (found : Option (List ℕ)). unwrap_or found [])) same ∙ found_files ys

-- ---- a file that is not read

-- what stood when it was not read stands later
unread_later : (shelf mid shelf' : ShelfView) (name : List ℕ) (cause : Cause) → shelf.faults ≤ mid.faults
    → mid.faults ≤ shelf'.faults → shelf.misses ≤ mid.misses → mid.misses ≤ shelf'.misses
    → shelf'.last ≡ mid.last → IsUnread shelf mid name cause → IsUnread shelf shelf' name cause
unread_later shelf mid shelf' name Failed a b c d same why =
    record { rose = rose_later _ _ _ a b why.rose; last = same ∙ why.last }
unread_later shelf mid shelf' name Absent a b c d same why =
    record { rose = rose_later _ _ _ c d why.rose; last = same ∙ why.last; told = why.told }
unread_later shelf mid shelf' name TooLong a b c d same why =
    record { rose = rose_later _ _ _ c d why.rose; last = same ∙ why.last; told = why.told }

pub stops_later : (shelf mid shelf' : ShelfView) (names : List (List ℕ)) (unread : Unread) → shelf.faults ≤ mid.faults
    → mid.faults ≤ shelf'.faults → shelf.misses ≤ mid.misses → mid.misses ≤ shelf'.misses
    → shelf'.last ≡ mid.last → StopsAt shelf mid names unread → StopsAt shelf shelf' names unread
stops_later shelf mid shelf' names unread a b c d same stops = record {
  at = stops.at;
  named = stops.named;
  files = stops.files;
  before = stops.before;
  why = unread_later shelf mid shelf' unread.name unread.cause a b c d same stops.why;
}

-- the statuses of files that are not read lie between
pub unread_least : (cause : Cause) → READ_FAULT ≤ unread_status cause
unread_least Failed = omega arith
unread_least Absent = omega arith
unread_least TooLong = omega arith

pub unread_most : (cause : Cause) → unread_status cause ≤ NO_FILE
unread_most Failed = omega arith
unread_most Absent = omega arith
unread_most TooLong = omega arith

module _ (shelf shelf' : ShelfView) (name : List ℕ) where
  pub failed_rose : (cause : Cause) → IsUnread shelf shelf' name cause → unread_status cause ≡ READ_FAULT
      → Rose shelf.faults shelf'.faults
  failed_rose Failed why e = why.rose
  failed_rose Absent why e = absurd (omega (arith, e))
  failed_rose TooLong why e = absurd (omega (arith, e))

  pub missed_rose : (cause : Cause) → IsUnread shelf shelf' name cause → unread_status cause ≡ NO_FILE
      → Rose shelf.misses shelf'.misses
  missed_rose Failed why e = absurd (omega (arith, e))
  missed_rose Absent why e = why.rose
  missed_rose TooLong why e = why.rose

  -- it is read where no count rises
  pub unread_unsteady : (cause : Cause) → IsUnread shelf shelf' name cause → ¬ Rose shelf.faults shelf'.faults
      → ¬ Rose shelf.misses shelf'.misses → ⊥
  unread_unsteady Failed why read found = read why.rose
  unread_unsteady Absent why read found = found why.rose
  unread_unsteady TooLong why read found = found why.rose
