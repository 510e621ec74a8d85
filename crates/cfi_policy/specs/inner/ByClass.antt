-- Class numbers read by class: the places of a list that have a number, and the groups that they make.
use Rattle.std.specs.Prelude.{◌≡◌, ◌↔◌, ℕ, ◌+◌, ◌*◌, ◌<◌, ◌≤◌, List, [], length, slice_index, slice_index_or}
use Rattle.std.specs.List.{Contains, AllPairs}
use Rattle.cfi_word.specs.declared.ids.TheConstants.{FIELD_MAX}
use Rattle.cfi_flow.specs.declared.links.Link.{Link}
use Rattle.cfi_flow.specs.Flow.{Links}
use Rattle.cfi_policy.specs.declared.group.Group.{Group}

-- a place has the number, and this is the place, times the step
abbrev pub IsMember : (step : ℕ) → (numbers : List ℕ) → (number member : ℕ) → Type 0
IsMember step numbers number member =
    (place : ℕ) × (place < length numbers) × (slice_index numbers place ≡ number) × (member ≡ step * place)

-- all members of a number, in order
pub record AreMembers (step : ℕ) (numbers : List ℕ) (number : ℕ) (members : List ℕ) : Type 0 where
  pub are : (member : ℕ) → Contains members member ↔ IsMember step numbers number member
  pub order : AllPairs ◌<◌ members

-- links from each number from 1 to the count to its members, in the order of the members
pub record AreLinksBy (step count : ℕ) (numbers : List ℕ) (links : List Link) : Type 0 where
  pub sound : (number member : ℕ) → Links links number member
      → (1 ≤ number) × (number ≤ count) × IsMember step numbers number member
  pub whole : (number member : ℕ) → 1 ≤ number → number ≤ count → IsMember step numbers number member
      → Links links number member
  pub order : AllPairs (λ a b. a.to < b.to) links

-- the row of each number from 1 to the count has its members
pub record AreRowsBy (step count : ℕ) (numbers : List ℕ) (rows : List (List ℕ)) : Type 0 where
  pub len : length rows ≡ count + 1
  pub row : (number : ℕ) → 1 ≤ number → number ≤ count → AreMembers step numbers number (slice_index_or rows number [])

-- the greatest class number of slots, 0 where they have none
pub record IsCount (bary : List ℕ) (count : ℕ) : Type 0 where
  pub low : count < FIELD_MAX
  pub most : (slot : ℕ) → slot < length bary → slice_index bary slot < FIELD_MAX → slice_index bary slot ≤ count
  pub some : 0 < count → (slot : ℕ) × (slot < length bary) × (slice_index bary slot ≡ count)

-- the group has the slots and the addresses of one class
pub record IsClassGroup (tary bary : List ℕ) (number : ℕ) (group : Group) : Type 0 where
  pub branches : AreMembers 1 bary number group.branches
  pub targets : AreMembers 4 tary number group.targets

-- a group for each class number, from 1 to the greatest one
pub record AreClassGroups (tary bary : List ℕ) (groups : List Group) : Type 0 where
  pub count : IsCount bary (length groups)
  pub each : (k : ℕ) (d : Group) → k < length groups → IsClassGroup tary bary (k + 1) (slice_index_or groups k d)
