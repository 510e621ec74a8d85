-- The image of placed modules under a relation between slots and addresses: its labels, and the modules' code.
use Rattle.std.specs.Prelude.{ℕ, ◌+◌, ◌*◌, ◌<◌, ◌≤◌, List, length, All}
use Rattle.cfi_aux.specs.declared.placed.Placed.{Placed}
use Rattle.cfi_word.specs.declared.lists.Image.{Image}
use Rattle.cfi_class.specs.Labels.{AreLabels}
use Rattle.cfi_word.specs.Table.{slots_of}
use Rattle.cfi_graph.specs.Direct.{DirectEdge}
use Rattle.cfi_graph.specs.Reading.{HaveGraph}
use Rattle.cfi_policy.specs.Code.{IsCodeOf}

-- the image has the labels of the relation and the code of the modules
pub record IsImage (joins : (slot address : ℕ) → Type 0) (modules : List Placed) (code_words : ℕ)
    (image : Image) : Type 0 where
  pub labels : AreLabels joins code_words image.tary image.bary
  pub code : IsCodeOf modules code_words image.code

-- modules that lie within so many code words and the slots of their table; so does what their branches may go to, and
-- nothing comes back to the place past them
pub record HaveImage (modules : List Placed) (code_words : ℕ) : Type 0 where
  pub graph : HaveGraph modules
  pub words : All (λ m. m.base + length m.words ≤ code_words) modules
  pub slots : All (λ m. m.slot_base + length m.branches ≤ slots_of code_words) modules
  pub targets : (slot address : ℕ) → DirectEdge modules slot address → address < 4 * code_words
