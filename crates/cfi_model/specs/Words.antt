-- The words of the shared tables, by the entries that they have had and one number: how many stores the newest update
-- has made. A code word on which both images agree needs no store, and counts as stored.
-- Epochs, policies and classes are numbers; entries are numbered from 0, and so are the words of each area.
use Rattle.std.specs.Prelude.{ℕ, ◌+◌, ◌-◌, ◌*◌, nat_lt, if◌then◌else◌, Bool, List, [], ◌∷◌, length, slice_index, slice_index_or, Option, None, ⊤}
use Rattle.cfi_word.specs.Word.{packed, epoch_in, policy_in}
use Rattle.cfi_word.specs.Table.{Place, Epoch, Quiet, Code, Tary, Bary}
use Rattle.cfi_word.specs.Rank.{stores_of}
use Rattle.cfi_model.specs.declared.history.Entry.{Entry}

-- the tables: the number of code words and of versions, the first epoch, an entry for each epoch from the first on, how
-- many stores of the update to the last entry were made, and the update whose test is under way, with the number of
-- the guest whose QUIET word is tested next
pub record Tables : Type 0 where
  pub code_words : ℕ
  pub versions : ℕ
  pub first : ℕ
  pub entries : List Entry
  pub stored : ℕ
  pub asked : Option Entry
  pub tested : ℕ

-- the tables of an opening: one entry, all of whose words are stored
abbrev pub opened_tables : (code_words versions first : ℕ) → Entry → Tables
opened_tables code_words versions first entry = record {
  code_words = code_words;
  versions = versions;
  first = first;
  entries = entry ∷ [];
  stored = stores_of code_words;
  asked = None;
  tested = 0;
}

-- how many stores of an update come before that of the word at a place: the code, the Tary words, EPOCH, the Bary
-- words; no update stores a QUIET word
abbrev pub rank_at : (code_words : ℕ) → Place → ℕ
rank_at code_words (Code index) = index
rank_at code_words (Tary index) = code_words + index
rank_at code_words Epoch = 2 * code_words
rank_at code_words (Bary slot) = 2 * code_words + 1 + slot
rank_at code_words (Quiet guest) = stores_of code_words

-- an update stores the word at the place
abbrev pub HasStore : Place → Type 0
HasStore Epoch = ⊤
HasStore (Code index) = ⊤
HasStore (Tary index) = ⊤
HasStore (Bary slot) = ⊤
HasStore (Quiet guest) = ⊥

-- the entry of a number
abbrev pub no_entry : Entry
no_entry = record { policy = 0; image = record { tary = []; bary = []; code = [] }; mark = 0 }

-- the entry of a number
abbrev pub entry_at : Tables → (number : ℕ) → Entry
entry_at t number = slice_index_or t.entries number no_entry

-- the number of the last entry, and of the one before it
abbrev pub newest : Tables → ℕ
newest t = length t.entries - 1

-- the number of the entry before the newest
abbrev pub before : Tables → ℕ
before t = length t.entries - 2

-- the word at a place, of an entry and its epoch: EPOCH has class 0, and a QUIET word is of no entry
abbrev pub entry_word : (versions epoch : ℕ) → Entry → Place → ℕ
entry_word versions epoch entry (Code index) = slice_index entry.image.code index
entry_word versions epoch entry (Tary index) =
    packed epoch entry.policy (slice_index entry.image.tary index) versions
entry_word versions epoch entry Epoch = packed epoch entry.policy 0 versions
entry_word versions epoch entry (Bary slot) =
    packed epoch entry.policy (slice_index entry.image.bary slot) versions
entry_word versions epoch entry (Quiet guest) = 0

-- the same by the entry's number: its epoch is that many after the first
abbrev pub word_of_entry : Tables → (number : ℕ) → Place → ℕ
word_of_entry t number place = entry_word t.versions (t.first + number) (entry_at t number) place

-- a word is of the newest entry exactly where its rank is below the number of stores made, else of the one before
abbrev pub is_stored : Tables → Place → Bool
is_stored t place = nat_lt (rank_at t.code_words place) t.stored

-- of which entry the word of a place is
abbrev pub number_at : Tables → Place → ℕ
number_at t place = if is_stored t place then newest t else before t

-- the word at a place
abbrev pub word_at : Tables → Place → ℕ
word_at t place = word_of_entry t (number_at t place) place

-- the epoch and the policy in force: those in the word EPOCH
abbrev pub epoch_in_force : Tables → ℕ
epoch_in_force t = epoch_in (word_at t Epoch)

-- the policy of EPOCH's word
abbrev pub policy_in_force : Tables → ℕ
policy_in_force t = policy_in (word_at t Epoch)

-- the epoch that the next update is to
abbrev pub next_epoch : Tables → ℕ
next_epoch t = t.first + length t.entries
