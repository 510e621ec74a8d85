-- The labels of the policies of a run. A policy is told by its number, from 0: that of the start modules. An address is
-- in bytes.
use Rattle.std.specs.Prelude.{◌≡◌, ◌↔◌, ℕ, ◌+◌, ◌≤◌, true, List, length, slice_get, Some}
use Rattle.std.specs.List.{AllPairs}
use Rattle.cfi_model.specs.Effect.{is_in_code}
use Rattle.cfi_model.specs.Plain.{has_one_class}
use Rattle.cfi_valid.specs.Loaded.{LoadedModule, Members, AllowedAt}
use Rattle.cfi_word.specs.declared.lists.Labels.{Labels}

-- the labels are those of a policy: a slot and an address of the code have one class exactly where it allows them
abbrev pub AreLabelsAt : Members → (policy : ℕ) → Labels → Type 0
AreLabelsAt members policy labels = (slot target : ℕ) → is_in_code target ≡ true
    → (has_one_class labels slot target ≡ true) ↔ AllowedAt members policy slot target

-- the labels of each policy up to the last, in order
pub record AreLabelsOf (members : Members) (last : ℕ) (sets : List Labels) : Type 0 where
  pub count : length sets ≡ last + 1
  pub each : (policy : ℕ) (labels : Labels) → slice_get sets policy ≡ Some labels → AreLabelsAt members policy labels

-- in load order policies never fall
abbrev pub ComeInOrder : List LoadedModule → Type 0
ComeInOrder loaded = AllPairs (λ (a b : LoadedModule). a.policy ≤ b.policy) loaded
