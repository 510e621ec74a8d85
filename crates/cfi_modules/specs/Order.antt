-- Modules that are placed one after the other, each at the next free place with the exports of those before it that are
-- live, and verified against these; and why a module is not.
use Rattle.std.specs.Prelude.{◌≡◌, ◌≢◌, ℕ, List, length, take, slice_get, Some, Err, ⊤}
use Rattle.std.specs.List.{flat_map}
use Rattle.cfi_aux.specs.declared.modules.Module.{Module}
use Rattle.cfi_aux.specs.declared.placed.Placed.{Placed}
use Rattle.cfi_place.specs.declared.fault.PlaceFault.TheVariants as place_faults
use Rattle.cfi_place.specs.declared.room.Room.{Room}
use Rattle.cfi_place.specs.Names.{Names, first_in}
use Rattle.cfi_place.specs.Placed.{IsPlaced, placed_in}
use Rattle.cfi_verify.specs.Fault.{IsVerified, IsFirstFault}
use Rattle.cfi_modules.specs.declared.fault.JoinFault.{JoinFault}
use Rattle.cfi_modules.specs.declared.fault.JoinFault.TheVariants.{Place, Verify, Memory}
use Rattle.cfi_modules.specs.Room.{room_after}

-- the names that modules export, in their order: the first address of a name counts
abbrev pub names_of : List Placed → Names
names_of placed = first_in (flat_map (λ m. m.exports) placed)

-- what placing makes of the module behind those before it, with the names that the live ones export
abbrev pub IsPlacedBehind : (code_words : ℕ) → (before live : List Placed) → Module → Placed → Type 0
IsPlacedBehind code_words before live m placed = IsPlaced m (room_after code_words before) (names_of live) placed

-- the module is placed in a room, with the names that live modules export, and verifies against these
pub record JoinsIn (room : Room) (live : List Placed) (m : Module) (placed : Placed) : Type 0 where
  pub behind : IsPlaced m room (names_of live) placed
  pub verified : IsVerified placed live

-- it is placed behind those before it, and verifies against the live ones
abbrev pub Joins : (code_words : ℕ) → (before live : List Placed) → Module → Placed → Type 0
Joins code_words before live m placed = JoinsIn (room_after code_words before) live m placed

-- the modules are placed and verified in their order, and all of them are live
pub record AreInOrder (code_words : ℕ) (modules : List Module) (placed : List Placed) : Type 0 where
  pub count : length placed ≡ length modules
  pub joins : (k : ℕ) (m : Module) (p : Placed) → slice_get modules k ≡ Some m → slice_get placed k ≡ Some p
      → Joins code_words (take k placed) (take k placed) m p

-- why a module does not join in a room: it is not placed there, or what placing makes of it does not verify
abbrev pub IsFaultIn : Room → (live : List Placed) → Module → JoinFault → Type 0
IsFaultIn room live m (Place fault) =
    (placed_in m.object room (names_of live) ≡ Err fault) × (fault ≢ place_faults.Memory)
IsFaultIn room live m (Verify fault) =
    (placed : Placed) × IsPlaced m room (names_of live) placed × IsFirstFault placed live fault
IsFaultIn room live m Memory = ⊤

-- why it does not join those before it
abbrev pub IsJoinFault : (code_words : ℕ) → (before live : List Placed) → Module → JoinFault → Type 0
IsJoinFault code_words before live m fault = IsFaultIn (room_after code_words before) live m fault

-- the module of this number is the first that does not join those before it
pub record IsFirstRefused (code_words : ℕ) (modules : List Module) (number : ℕ) (fault : JoinFault) : Type 0 where
  pub refused : Module
  pub is : slice_get modules number ≡ Some refused
  pub before : List Placed
  pub order : AreInOrder code_words (take number modules) before
  pub why : IsJoinFault code_words before before refused fault
