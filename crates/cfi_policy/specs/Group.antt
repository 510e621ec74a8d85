-- The groups of placed modules: branches that the policy lets go to the same addresses, with these addresses (MCFI, Niu
-- and Tan, PLDI 2014: the classes of branches and targets, where sets of targets that overlap are one). A branch is
-- told by its slot; addresses are in bytes.
use Rattle.std.specs.Prelude.{◌≡◌, ◌↔◌, ◌⊎◌, ℕ, ◌+◌, ◌<◌, List, [], length, slice_index, All}
use Rattle.std.specs.List.{Contains, AllPairs}
use Rattle.cfi_aux.specs.declared.placed.Placed.{Placed}
use Rattle.cfi_graph.specs.Direct.{Allowed}
use Rattle.cfi_policy.specs.declared.group.Group.{Group}

-- the slot is that of a branch of the modules
pub record IsBranch (ms : List Placed) (slot : ℕ) : Type 0 where
  pub owner : Placed
  pub placed : Contains ms owner
  pub number : ℕ
  pub below : number < length owner.branches
  pub is : slot ≡ owner.slot_base + number

-- the policy lets both branches go to the same addresses
abbrev pub GoAlike : (ms : List Placed) → (one other : ℕ) → Type 0
GoAlike ms one other = (address : ℕ) → Allowed ms one address ↔ Allowed ms other address

-- the group is that of the branch: the addresses to which the policy lets it go, and all branches that go alike
pub record IsGroupOf (ms : List Placed) (slot : ℕ) (group : Group) : Type 0 where
  pub targets : (address : ℕ) → Contains group.targets address ↔ Allowed ms slot address
  pub branches : (other : ℕ) → Contains group.branches other ↔ (IsBranch ms other × GoAlike ms slot other)

-- the group has branches, and is that of each of them; branches and addresses are in order, each once
pub record IsGroup (ms : List Placed) (group : Group) : Type 0 where
  pub some : 0 < length group.branches
  pub own : (slot : ℕ) → Contains group.branches slot → IsGroupOf ms slot group
  pub branches : AllPairs ◌<◌ group.branches
  pub targets : AllPairs ◌<◌ group.targets

-- a group stands before another: it has addresses, and the other has none or a greater least branch
pub record GroupPrecedes (group other : Group) : Type 0 where
  pub goes : 0 < length group.targets
  pub later : (other.targets ≡ []) ⊎ (slice_index group.branches 0 < slice_index other.branches 0)

-- these are the groups of the modules: each branch is in one, and the one without addresses, if there is one, is last
pub record AreGroups (ms : List Placed) (groups : List Group) : Type 0 where
  pub each : All (IsGroup ms) groups
  pub whole : (slot : ℕ) → IsBranch ms slot → (group : Group) × Contains groups group × Contains group.branches slot
  pub order : AllPairs GroupPrecedes groups
