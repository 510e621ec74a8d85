-- The entries of the image over which the tests run.
use Rattle.std.specs.Prelude.{◌≡◌, ℕ, ◌⊎◌}
use Rattle.cfi_word.specs.declared.lists.Image.{Image}
use Rattle.cfi_model.specs.Closed.{IsStartIn}

-- its load, its call and its return
abbrev pub StartsAt : (entry : ℕ) → Type 0
StartsAt entry = (entry ≡ 64) ⊎ ((entry ≡ 88) ⊎ (entry ≡ 172))

-- each of these addresses is a start of the image
abbrev pub StartAll : Image → Type 0
StartAll image = (entry : ℕ) → StartsAt entry → IsStartIn image entry
