-- A keeper as it is kept: no update is under way.
use Rattle.std.specs.Prelude.{◌≡◌, ℕ, ◌+◌, List, Bool, length}
use Rattle.atomic_table.specs.Seated.{TableId}
use Rattle.cfi_word.specs.declared.limits.TheConstants.{GUESTS}
use Rattle.cfi_model.specs.Tables.{IsTables}
use Rattle.cfi_tables.specs.Key.{Key}
use Rattle.cfi_tables.specs.Keeping.{last_of}
use Rattle.cfi_tables.specs.Views.{idle_tables, idle_view}
use Rattle.cfi_tables.specs.inner.Steps.{Seated}
use Rattle.cfi_tables.specs.inner.Stores.{IsAt, keeping_at}

-- what it has beside its seat
pub record Beside : Type 0 where
  pub layout : ℕ
  pub versions : ℕ
  pub epoch : ℕ
  pub policy : ℕ
  pub out : List Bool

-- what the keeper's value has beside its seat agrees with what it keeps
pub record IsKeeper (table : TableId) (k : Key) (at : TableId) (id : ℕ) (me : Seated) (a : Beside) : Type 0 where
  pub seat : IsAt table at id me (idle_view k (keeping_at me))
  pub layout_is : a.layout ≡ k.code_words
  pub versions_is : a.versions ≡ k.versions
  pub epoch_is : a.epoch + 1 ≡ k.first + length (keeping_at me).entries
  pub policy_is : a.policy ≡ (last_of (keeping_at me).entries).policy
  pub tables : IsTables (idle_tables k (keeping_at me))
  pub out_is : a.out ≡ (keeping_at me).out
  pub out_many : length (keeping_at me).out ≡ GUESTS
  pub quiets_many : length (keeping_at me).quiets.heard ≡ GUESTS
  pub found_many : length (keeping_at me).quiets.found ≡ GUESTS
