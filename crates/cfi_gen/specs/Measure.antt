-- How much modules are in all: their words, their branches, each of which has a slot, and the groups of their policy
-- that have targets.
use Rattle.std.specs.Prelude.{◌≡◌, ℕ, Bool, true, false, List, [], ◌∷◌, length, sum_by, count_by}
use Rattle.cfi_aux.specs.declared.placed.Placed.{Placed}
use Rattle.cfi_commands.specs.Files.{ArePlacedFiles}
use Rattle.cfi_policy.specs.Group.{AreGroups}
use Rattle.cfi_policy.specs.declared.group.Group.{Group}
use Rattle.cfi_gen.specs.declared.summary_text.Measure.{Measure}

-- their words
abbrev pub words_in : List Placed → ℕ
words_in placed = sum_by (λ (m : Placed). length m.words) placed

-- their branches
abbrev pub branches_in : List Placed → ℕ
branches_in placed = sum_by (λ (m : Placed). length m.branches) placed

-- a group has targets
abbrev pub has_some : List ℕ → Bool
has_some [] = false
has_some (address ∷ addresses) = true

-- the branches of the group may go somewhere
abbrev pub has_targets : Group → Bool
has_targets group = has_some group.targets

-- how much the modules are that files are, placed in order in so many code words
pub record IsMeasure (code_words : ℕ) (files : List (List ℕ)) (measure : Measure) : Type 0 where
  pub placed : List Placed
  pub are : ArePlacedFiles code_words files placed
  pub groups : List Group
  pub joined : AreGroups placed groups
  pub words : measure.words ≡ words_in placed
  pub slots : measure.slots ≡ branches_in placed
  pub classes : measure.classes ≡ count_by has_targets groups
