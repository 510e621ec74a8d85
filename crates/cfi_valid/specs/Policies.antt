-- Images as policies: what a check compares is what the policy of an image allows, also where a slot is not used, and
-- an address is none that a branch may go to.
use Rattle.std.specs.Prelude.{◌≡◌, ◌↔◌, ℕ, ◌/◌, ◌%◌, ◌<◌, List, slice_index}
use Rattle.cfi_aux.specs.declared.placed.Placed.{Placed}
use Rattle.cfi_graph.specs.Direct.{Allowed}
use Rattle.cfi_modules.specs.Loaded.{AreLoaded, IsLoadedImage}
use Rattle.cfi_word.specs.declared.lists.Image.{Image}
use Rattle.cfi_word.specs.Table.{slots_of}

-- the classes of a slot and of an aligned address are equal exactly where the policy of the modules that are live
-- lets the slot go to the address
abbrev pub ImagesArePolicies : Type 0
ImagesArePolicies =
    (code_words : ℕ) (ms live : List Placed) (image : Image) → AreLoaded code_words ms →
    IsLoadedImage code_words ms live image → (slot address : ℕ) → slot < slots_of code_words → address % 4 ≡ 0 →
    (slice_index image.bary slot ≡ slice_index image.tary (address / 4)) ↔ Allowed live slot address
