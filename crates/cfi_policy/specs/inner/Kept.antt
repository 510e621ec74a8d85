-- What the type of a book keeps.
use Rattle.std.specs.Prelude.{◌≡◌, ℕ, length}
use Rattle.cfi_word.specs.declared.lists.Image.{Image}
use Rattle.cfi_word.specs.declared.lists.Labels.{Labels}
use Rattle.cfi_policy.specs.Book.{labels_of}

-- the labels are those of the image, and both have so many code words
pub record IsKept (code_words : ℕ) (labels : Labels) (image : Image) : Type 0 where
  pub same : labels ≡ labels_of image
  pub words : length image.tary ≡ code_words
  pub code : length image.code ≡ code_words
