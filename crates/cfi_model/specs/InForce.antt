-- The history of tables, as the law of a running guest takes it, and how tables go on.
use Rattle.std.specs.Prelude.{◌≡◌, ℕ, ◌+◌, ◌-◌, ◌/◌, ◌≤◌, ◌<◌, nat_lt, if◌then◌else◌, List, length}
use Rattle.cfi_word.specs.Table.{Epoch}
use Rattle.cfi_model.specs.History.{History}
use Rattle.cfi_model.specs.Words.{Tables, entry_at, number_at}

-- the number of the entry in force
abbrev pub in_force : Tables → ℕ
in_force t = number_at t Epoch

-- the entries up to the one in force are or were in force, and those behind it are ahead
abbrev pub history_of : Tables → History
history_of t = record {
  first = t.first;
  count = in_force t + 1;
  ahead = length t.entries - (in_force t + 1);
  versions = t.versions;
  policy = λ epoch. (entry_at t (epoch - t.first)).policy;
  image = λ epoch. (entry_at t (epoch - t.first)).image;
}

-- the code of the image in force
abbrev pub code_in_force : Tables → List ℕ
code_in_force t = (entry_at t (in_force t)).image.code

-- the tables have had the entries of those, and what is in force has not gone back
pub record GoesOn (old new : Tables) : Type 0 where
  pub code_words : new.code_words ≡ old.code_words
  pub versions : new.versions ≡ old.versions
  pub first : new.first ≡ old.first
  pub longer : length old.entries ≤ length new.entries
  pub entries : (number : ℕ) → number < length old.entries → entry_at new number ≡ entry_at old number
  pub force : in_force old ≤ in_force new

-- a Tary word past the code is that of code word 0
abbrev pub tary_index : (code_words address : ℕ) → ℕ
tary_index code_words address = if nat_lt (address / 4) code_words then address / 4 else 0
