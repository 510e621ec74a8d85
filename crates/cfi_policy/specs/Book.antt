-- What stands of the policy of modules from load to load: links, and an image in which classes keep their numbers.
use Rattle.std.specs.Prelude.{◌≡◌, ◌⊎◌, ℕ, ◌+◌, ◌<◌, ◌≤◌, List, length, slice_index}
use Rattle.cfi_word.specs.declared.lists.Edge.{Edge}
use Rattle.cfi_word.specs.declared.lists.Image.{Image}
use Rattle.cfi_word.specs.declared.lists.Labels.{Labels}
use Rattle.cfi_aux.specs.declared.placed.Placed.{Placed}
use Rattle.cfi_class.specs.Labels.{HasEdge}
use Rattle.cfi_class.specs.Kept.{AreLabelsOf, AreKept}
use Rattle.cfi_graph.specs.Direct.{DirectEdge}
use Rattle.cfi_graph.specs.KeptGraph.{Graph, IsGraphOf}
use Rattle.cfi_policy.specs.Code.{HasWords}
use Rattle.cfi_policy.specs.Spans.{Spans}

-- the class numbers of an image
abbrev pub labels_of : Image → Labels
labels_of image = record { tary = image.tary; bary = image.bary }

-- an image, and the links of which its class numbers are made
pub record KeptImage : Type 0 where
  pub graph : Graph
  pub image : Image

-- they stand for the modules: the links are those of the modules, and the class numbers those of the few edges of these
pub record StandsFor (modules : List Placed) (book : KeptImage) : Type 0 where
  pub graph : IsGraphOf modules book.graph
  pub labels : AreLabelsOf book.graph.flow.edges (labels_of book.image)

-- the class numbers of the modules, with those of the old image where it has some: such numbers of some edges, which
-- have the chains of all direct edges
pub record KeepsNumbers (modules : List Placed) (old new : Image) : Type 0 where
  pub edges : List Edge
  pub span : Spans (HasEdge edges) (DirectEdge modules)
  pub kept : AreKept edges (labels_of old) (labels_of new)

-- the new code has the module's words at its place, and elsewhere what the old one has
pub record PutsWords (placed : Placed) (old new : List ℕ) : Type 0 where
  pub len : length new ≡ length old
  pub words : HasWords new placed
  pub kept : (word : ℕ) → (word < placed.base) ⊎ (placed.base + length placed.words ≤ word)
      → slice_index new word ≡ slice_index old word
