-- A pass as it is kept.
use Rattle.std.specs.Prelude.{◌≡◌, ℕ, ◌<◌, []}
use Rattle.atomic_table.specs.Seated.{TableId}
use Rattle.cfi_word.specs.declared.limits.TheConstants.{GUESTS}
use Rattle.cfi_tables.specs.Views.{pass_of}
use Rattle.cfi_tables.specs.inner.Steps.{Seated}
use Rattle.cfi_tables.specs.declared.view.View.TheVariants.{Pass}

-- a pass's seat at the table
pub record IsPass (table at : TableId) (me : Seated) (guest : ℕ) : Type 0 where
  pub table_is : at ≡ table
  pub me_is : me ≡ (Pass (pass_of me.0), [])
  pub guest_is : guest ≡ (pass_of me.0).guest
  pub within : guest < GUESTS
