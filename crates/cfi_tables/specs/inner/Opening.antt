-- A table as it was opened.
use Rattle.std.specs.Prelude.{◌≡◌, ℕ, List, [], ◌∷◌, ◌++◌, map, replicate}
use Rattle.cfi_word.specs.declared.limits.TheConstants.{GUESTS}
use Rattle.cfi_word.specs.declared.lists.Image.{Image}
use Rattle.cfi_word.specs.Table.{word_count}
use Rattle.cfi_model.specs.Tables.{IsTables}
use Rattle.cfi_tables.specs.Key.{Named, key_of}
use Rattle.cfi_tables.specs.Keeping.{opened_keeping}
use Rattle.cfi_tables.specs.Views.{idle_tables, opened_view}
use Rattle.cfi_tables.specs.inner.Stamps.{Stamp, word_by}
use Rattle.cfi_tables.specs.declared.blank.Blank.TheInside.{Inside}

-- the words, in their order
abbrev pub opened_words : Stamp → Image → List ℕ
opened_words stamp image =
    (word_by stamp 0 ∷ replicate GUESTS 0)
    ++ (image.code ++ (map (word_by stamp) image.tary ++ map (word_by stamp) image.bary))

-- which table a blank is
abbrev pub named_by : Inside → Named
named_by a = record { table = a.words.shared.table_id; key = key_of a.words.shared.key }

-- the keeper's seat is at the table's opening
pub record IsBlank (a : Inside) : Type 0 where
  pub table : a.seat.table_id ≡ a.words.shared.table_id
  pub seat : a.seat.id ≡ 0
  pub me : a.seat.me ≡ (opened_view (key_of a.words.shared.key), [])
  pub many : a.words.shared.table_id.words ≡ word_count (key_of a.words.shared.key).code_words
  pub layout : a.layout ≡ (key_of a.words.shared.key).code_words
  pub versions : a.versions ≡ (key_of a.words.shared.key).versions
  pub first : a.first ≡ (key_of a.words.shared.key).first
  pub tables : IsTables (idle_tables (key_of a.words.shared.key) (opened_keeping (key_of a.words.shared.key)))
