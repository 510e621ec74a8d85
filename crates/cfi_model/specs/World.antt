-- A world: the shared words, and guests of the raw machine that load and store them.
use Rattle.std.specs.Prelude.{ℕ, ◌-◌, List, ◌++◌, length, replicate, slice_index_or}
use Rattle.cfi_word.specs.declared.lists.Image.{Image}
use Rattle.cfi_word.specs.declared.limits.TheConstants.{GUESTS}
use Rattle.cfi_word.specs.Table.{Place}
use Rattle.cfi_word.specs.Table as places
use Rattle.cfi_model.specs.declared.history.Entry.{Entry}
use Rattle.cfi_model.specs.declared.quiet.Quiet.{Quiet}
use Rattle.cfi_model.specs.declared.quiet.Quiet.TheVariants.{Unregistered, Published}
use Rattle.cfi_model.specs.declared.quiet.Point.{Point}
use Rattle.cfi_model.specs.declared.quiet.Point.TheVariants.{Outside}
use Rattle.cfi_model.specs.Raw.{Raw}
use Rattle.cfi_model.specs.Quiet.{quiet_word_of}
use Rattle.cfi_model.specs.Words.{Tables, opened_tables, word_at}

-- the tables; what the QUIET word of each guest number tells; the guests, and how far each guest number is in a
-- service; after how many instructions guests stop; for how many updates there is room, and how many began
pub record World : Type 0 where
  pub tables : Tables
  pub quiets : List Quiet
  pub guests : List Raw
  pub points : List Point
  pub fuel : ℕ
  pub room : ℕ
  pub updates : ℕ

-- the first entry
abbrev pub first_entry : Image → Entry
first_entry image = record { policy = 0; image = image; mark = 0 }

-- a world at its start: each guest is registered at the first epoch
abbrev pub opened_world : (code_words versions first : ℕ) → Image → List Raw → (room fuel : ℕ) → World
opened_world code_words versions first image guests room fuel = record {
  tables = opened_tables code_words versions first (first_entry image);
  quiets = replicate (length guests) (Published first) ++ replicate (GUESTS - length guests) Unregistered;
  guests = guests;
  points = replicate GUESTS Outside;
  fuel = fuel;
  room = room;
  updates = 0;
}

-- what the QUIET word of a guest tells, and how far it is in a service
abbrev pub quiet_of : World → (guest : ℕ) → Quiet
quiet_of w guest = slice_index_or w.quiets guest Unregistered

-- where the guest is in its service, by what was taken of it last
abbrev pub point_of : World → (guest : ℕ) → Point
point_of w guest = slice_index_or w.points guest Outside

-- each word of the table
abbrev pub shared_word : World → Place → ℕ
shared_word w (places.Quiet guest) = quiet_word_of (quiet_of w guest)
shared_word w places.Epoch = word_at w.tables places.Epoch
shared_word w (places.Code index) = word_at w.tables (places.Code index)
shared_word w (places.Tary index) = word_at w.tables (places.Tary index)
shared_word w (places.Bary slot) = word_at w.tables (places.Bary slot)
