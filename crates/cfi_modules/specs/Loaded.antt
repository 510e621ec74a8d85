-- Modules that were loaded one after the other, each at the next free place. Of those that stood there then a module
-- was verified against some: one that was taken away keeps its place, and nothing new leads to it.
use Rattle.std.specs.Prelude.{◌≡◌, ℕ, ◌+◌, ◌*◌, ◌≤◌, List, length, take, slice_get, Some, All, Contains}
use Rattle.cfi_word.specs.declared.map.TheConstants.{FIRST_BASE}
use Rattle.cfi_word.specs.declared.lists.Image.{Image}
use Rattle.cfi_word.specs.Table.{IsSize}
use Rattle.cfi_aux.specs.declared.placed.Placed.{Placed}
use Rattle.cfi_aux.specs.declared.placed.PlacedFunction.{PlacedFunction}
use Rattle.cfi_aux.specs.declared.records.Kind.TheVariants.{Switch}
use Rattle.cfi_graph.specs.Calls.{HasKind, IsFunction, ReturnsTo}
use Rattle.cfi_graph.specs.Code.{entry_of}
use Rattle.cfi_graph.specs.Direct.{DirectEdge}
use Rattle.cfi_graph.specs.Shaped.{Follows}
use Rattle.cfi_model.specs.Closed.{IsClosed, IsStartIn}
use Rattle.cfi_policy.specs.Image.{IsImage}
use Rattle.cfi_verify.specs.Fault.{IsVerified}

-- the modules are among these
abbrev pub AreAmong : (ms all : List Placed) → Type 0
AreAmong ms all = All (Contains all) ms

-- the module verifies against some of these
abbrev pub IsVerifiedAmong : (before : List Placed) → Placed → Type 0
IsVerifiedAmong before m = (live : List Placed) × AreAmong live before × IsVerified m live

-- the first module begins at the first word and at slot 0, each other where the one before ends; all end within the
-- code; and each verifies against some of those before it
pub record AreLoaded (code_words : ℕ) (ms : List Placed) : Type 0 where
  pub size : IsSize code_words
  pub first : (m : Placed) → slice_get ms 0 ≡ Some m → (m.base ≡ FIRST_BASE) × (m.slot_base ≡ 0)
  pub next : (k : ℕ) (m n : Placed) → slice_get ms k ≡ Some m → slice_get ms (k + 1) ≡ Some n → Follows m n
  pub ends : All (λ (m : Placed). m.base + length m.words ≤ code_words) ms
  pub verified : (k : ℕ) (m : Placed) → slice_get ms k ≡ Some m → IsVerifiedAmong (take k ms) m

-- the image has the code of all modules, and the labels of the policy of some of them
abbrev pub IsLoadedImage : (code_words : ℕ) → (ms live : List Placed) → Image → Type 0
IsLoadedImage code_words ms live image = AreAmong live ms × IsImage (DirectEdge live) ms code_words image

-- each image of the modules is closed
abbrev pub HaveClosedImages : (code_words : ℕ) → List Placed → Type 0
HaveClosedImages code_words ms =
    (live : List Placed) (image : Image) → IsLoadedImage code_words ms live image → IsClosed code_words image

-- what of the modules is a start of the image: the first word of each function, each entry of a switch, each address
-- after a call, and each address that a branch may go to
pub record HasStarts (ms live : List Placed) (image : Image) : Type 0 where
  pub functions : (m : Placed) (f : PlacedFunction) → IsFunction ms m f → IsStartIn image (entry_of m f)
  pub switches : (m : Placed) (slot entry : ℕ) (entries : List ℕ) → Contains ms m → HasKind m slot (Switch entries)
      → Contains entries entry → IsStartIn image (4 * m.base + entry)
  pub returns : (m : Placed) (f : PlacedFunction) (address : ℕ) → ReturnsTo ms m f address → IsStartIn image address
  pub edges : (slot address : ℕ) → DirectEdge live slot address → IsStartIn image address

-- each image of the modules has these starts
abbrev pub HaveStarts : (code_words : ℕ) → List Placed → Type 0
HaveStarts code_words ms =
    (live : List Placed) (image : Image) → IsLoadedImage code_words ms live image → HasStarts ms live image
