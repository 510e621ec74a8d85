-- The groups of a policy as text: a line for each. Slots are decimal, addresses eight hexadecimal digits.
use Rattle.std.specs.Prelude.{◌≡◌, ℕ, List, [], ◌∷◌, ◌++◌, codes}
use Rattle.std.specs.List.{flat_map}
use Rattle.cfi_text.specs.Decimal.{dec_text}
use Rattle.cfi_text.specs.Hex.{hex8_text}
use Rattle.cfi_aux.specs.declared.placed.Placed.{Placed}
use Rattle.cfi_policy.specs.declared.group.Group.{Group}
use Rattle.cfi_policy.specs.Group.{AreGroups}
use Rattle.cfi_commands.specs.Files.{ArePlacedFiles}

-- a slot, and an address, after a space
abbrev pub slot_word : (slot : ℕ) → List ℕ
slot_word slot = codes " " ++ dec_text slot

-- an address in a line, after a space
abbrev pub address_word : (address : ℕ) → List ℕ
address_word address = codes " " ++ hex8_text address

-- the line of a group's branches and addresses; of branches that may go nowhere
abbrev pub line_by : (branches targets : List ℕ) → List ℕ
line_by branches [] = codes "none" ++ flat_map slot_word branches ++ 10 ∷ []
line_by branches (target ∷ targets) =
    codes "class" ++ flat_map slot_word branches ++ codes " :" ++ flat_map address_word (target ∷ targets) ++ 10 ∷ []

-- the line of a group: its slots, then its addresses
abbrev pub group_line : Group → List ℕ
group_line group = line_by group.branches group.targets

-- the text of the groups of the modules that files are
pub record IsGraphText (code_words : ℕ) (files : List (List ℕ)) (text : List ℕ) : Type 0 where
  pub placed : List Placed
  pub are : ArePlacedFiles code_words files placed
  pub groups : List Group
  pub joined : AreGroups placed groups
  pub spelled : text ≡ flat_map group_line groups
