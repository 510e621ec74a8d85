-- What fixes a table: the number of its code words and of versions, the first epoch, and the first image.
use Rattle.std.specs.Prelude.{ℕ, []}
use Rattle.atomic_table.specs.Seated.{TableId}
use Rattle.cfi_word.specs.declared.lists.Image.{Image}
use Rattle.cfi_model.specs.Words.{no_entry}
use Rattle.cfi_tables.specs.declared.view.Told.{Told}

-- what fixes a table
pub record Key : Type 0 where
  pub code_words : ℕ
  pub versions : ℕ
  pub first : ℕ
  pub image : Image

-- a table's key, of its parts
abbrev pub key_by : (code_words versions first : ℕ) → Image → Key
key_by code_words versions first image = record {
  code_words = code_words;
  versions = versions;
  first = first;
  image = image;
}

-- the key of a table that was opened so
abbrev pub key_of : Told → Key
key_of told = key_by told.layout told.versions told.first told.image.value

-- which table it is, and what fixes it
pub record Named : Type 0 where
  pub table : TableId
  pub key : Key

-- the name of no table
abbrev pub no_table : TableId
no_table = record { words = 0; slots = 0; views_name = 0; atom = 0; block = 0; offset = 0; slot_names = [] }

-- a key for where none is asked for
abbrev pub no_key : Key
no_key = record { code_words = 0; versions = 0; first = 0; image = no_entry.image }
