-- What all threads share, and the events on it: each is one load or store of one word (MCFI, Niu and Tan, PLDI 2014:
-- checks load two tables while an update stores them, one word at a time).
-- Guests, entries and the words of each area are numbered from 0; epochs are numbers.
use Rattle.std.specs.Prelude.{◌≡◌, ◌≢◌, ℕ, ◌+◌, ◌-◌, ◌≤◌, ◌<◌, nat_lt, if◌then◌else◌, true, false, List, [], ◌∷◌, ◌++◌, length, slice_index_or}
use Rattle.cfi_word.specs.declared.limits.TheConstants.{GUESTS}
use Rattle.cfi_word.specs.Table.{Place, IsPlace}
use Rattle.cfi_word.specs.Table as places
use Rattle.cfi_word.specs.Word.{epoch_in}
use Rattle.cfi_model.specs.declared.history.Entry.{Entry}
use Rattle.cfi_model.specs.declared.quiet.Quiet.{Quiet}
use Rattle.cfi_model.specs.declared.quiet.Quiet.TheVariants.{Published}
use Rattle.cfi_model.specs.declared.quiet.TheConstants.{PARKED}
use Rattle.cfi_model.specs.Quiet.{admits, quiet_word_of}
use Rattle.cfi_model.specs.Words.{HasStore, entry_word, no_entry, rank_at}

-- the number of code words and of versions, the first epoch, an entry for each epoch from the first on, and how many
-- QUIET words the test of the next update has passed
pub record Past : Type 0 where
  pub code_words : ℕ
  pub versions : ℕ
  pub first : ℕ
  pub entries : List Entry
  pub tested : ℕ

-- with the word at each place
pub record Shared : Type 0 where
  pub past : Past
  pub word : Place → ℕ

-- the word at a place in the last entry, and in the one before it
abbrev pub word_of_past : Past → (number : ℕ) → Place → ℕ
word_of_past p number place =
    entry_word p.versions (p.first + number) (slice_index_or p.entries number no_entry) place

-- the word of a place in the newest entry
abbrev pub newest_word : Past → Place → ℕ
newest_word p place = word_of_past p (length p.entries - 1) place

-- the word of it in the entry before
abbrev pub earlier_word : Past → Place → ℕ
earlier_word p place = word_of_past p (length p.entries - 2) place

-- the epoch of the next update
abbrev pub epoch_to_come : Past → ℕ
epoch_to_come p = p.first + length p.entries

-- an event: a guest loads the word at a place, parks, publishes an epoch in its QUIET word, or leaves; the QUIET word of
-- the guest whose turn it is lets the update to an entry pass, or refuses it by the epoch that it tells; or the update
-- stores the word at a place
pub data SharedEvent : Type 0 where
  Load : (place : Place) → (found : ℕ) → SharedEvent
  Park : (guest : ℕ) → SharedEvent
  Publish : (guest epoch : ℕ) → SharedEvent
  Leave : (guest : ℕ) → SharedEvent
  Pass : Entry → SharedEvent
  Refuse : (guest quiet epoch : ℕ) → SharedEvent
  Store : Place → SharedEvent

-- no word changes, and nothing does
abbrev pub HaveSameWords : (old new : Shared) → Type 0
HaveSameWords old new =
    (place : Place) → IsPlace old.past.code_words place → new.word place ≡ old.word place

-- two moments have the same past and the same words
pub record AreSame (old new : Shared) : Type 0 where
  pub past : new.past ≡ old.past
  pub words : HaveSameWords old new

-- the word at a place becomes this one, and nothing else changes
pub record IsSet (place : Place) (word : ℕ) (old new : Shared) : Type 0 where
  pub past : new.past ≡ old.past
  pub within : IsPlace old.past.code_words place
  pub here : new.word place ≡ word
  pub others : (other : Place) → IsPlace old.past.code_words other → other ≢ place → new.word other ≡ old.word other

-- a load finds the word, and changes nothing
pub record MakesLoad (place : Place) (found : ℕ) (old new : Shared) : Type 0 where
  pub is : found ≡ old.word place
  pub same : AreSame old new

-- a guest that is registered, and is not parked, parks
pub record MakesPark (guest : ℕ) (old new : Shared) : Type 0 where
  pub registered : old.word (places.Quiet guest) ≢ 0
  pub outside : old.word (places.Quiet guest) ≢ PARKED
  pub set : IsSet (places.Quiet guest) PARKED old new

-- a guest that is parked publishes an epoch that is or was in force
pub record MakesPublish (guest epoch : ℕ) (old new : Shared) : Type 0 where
  pub parked : old.word (places.Quiet guest) ≡ PARKED
  pub most : epoch ≤ epoch_in (old.word places.Epoch)
  pub set : IsSet (places.Quiet guest) (epoch + 1) old new

-- a guest that is registered leaves
pub record MakesLeave (guest : ℕ) (old new : Shared) : Type 0 where
  pub registered : old.word (places.Quiet guest) ≢ 0
  pub set : IsSet (places.Quiet guest) 0 old new

-- a QUIET word more has passed, or all have, and there is an entry more
abbrev pub past_passed : Entry → Past → Past
past_passed entry p =
    if nat_lt (p.tested + 1) GUESTS
    then record p { tested = p.tested + 1 }
    else record p { entries = p.entries ++ entry ∷ []; tested = 0 }

-- the word that is loaded admits the update; no store is under way, so all words are those of the last entry
pub record MakesPass (entry : Entry) (old new : Shared) : Type 0 where
  pub within : old.past.tested < GUESTS
  pub settled : (place : Place) → IsPlace old.past.code_words place → HasStore place
      → old.word place ≡ newest_word old.past place
  pub quiet : Quiet
  pub found : old.word (places.Quiet old.past.tested) ≡ quiet_word_of quiet
  pub admitted : admits old.past.versions (epoch_to_come old.past) quiet ≡ true
  pub past : new.past ≡ past_passed entry old.past
  pub words : HaveSameWords old new

-- or it does not, and the test ends
pub record MakesRefusal (guest quiet epoch : ℕ) (old new : Shared) : Type 0 where
  pub turn : guest ≡ old.past.tested
  pub within : guest < GUESTS
  pub found : old.word (places.Quiet guest) ≡ quiet + 1
  pub epoch_is : epoch ≡ epoch_to_come old.past
  pub spent : admits old.past.versions epoch (Published quiet) ≡ false
  pub past : new.past ≡ record old.past { tested = 0 }
  pub words : HaveSameWords old new

-- the words that an update stores before this one are those of the last entry, those that it stores after it are of the
-- entry before; and this one becomes the last entry's
pub record MakesStore (place : Place) (old new : Shared) : Type 0 where
  pub stored : HasStore place
  pub before : (other : Place) → IsPlace old.past.code_words other → HasStore other
      → rank_at old.past.code_words other < rank_at old.past.code_words place
      → old.word other ≡ newest_word old.past other
  pub after : (other : Place) → IsPlace old.past.code_words other → HasStore other
      → rank_at old.past.code_words place < rank_at old.past.code_words other
      → old.word other ≡ earlier_word old.past other
  pub set : IsSet place (newest_word old.past place) old new

-- an event makes the new of the old
abbrev pub Makes : SharedEvent → (old new : Shared) → Type 0
Makes (Load place found) old new = MakesLoad place found old new
Makes (Park guest) old new = MakesPark guest old new
Makes (Publish guest epoch) old new = MakesPublish guest epoch old new
Makes (Leave guest) old new = MakesLeave guest old new
Makes (Pass entry) old new = MakesPass entry old new
Makes (Refuse guest quiet epoch) old new = MakesRefusal guest quiet epoch old new
Makes (Store place) old new = MakesStore place old new
