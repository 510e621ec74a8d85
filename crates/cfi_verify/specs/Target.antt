-- Where direct jumps lead (RISC-V Unprivileged ISA 20191213, 2.5, jumps and branches), and where they may.
-- An offset is in bytes, from the jump's own address.
use Rattle.std.specs.Prelude.{◌≡◌, ◌⊎◌, ℕ, ◌+◌, ◌*◌, ℤ, pos, negsuc, true, false, List, ◌∷◌, map, ⊤}
use Rattle.std.specs.List.{Contains, flat_map}
use Rattle.cfi_unit.specs.declared.unit.Unit.{Unit as CodeUnit}
use Rattle.cfi_unit.specs.declared.unit.Unit.TheVariants.{Branch, Jump}
use Rattle.cfi_aux.specs.declared.placed.Placed.{Placed}
use Rattle.cfi_aux.specs.declared.placed.PlacedFunction.{PlacedFunction}
use Rattle.cfi_unit.specs.declared.spot.Spot.{Spot}
use Rattle.cfi_unit.specs.Spots.{BeginsUnit}
use Rattle.cfi_aux.specs.Extent.{LiesIn}

-- the offset leads from the word `at` to the word `to`
abbrev pub LeadsTo : (at : ℕ) → ℤ → (to : ℕ) → Type 0
LeadsTo at (pos n) to = 4 * to ≡ 4 * at + n
LeadsTo at (negsuc n) to = 4 * to + n + 1 ≡ 4 * at

-- a unit begins at the word `to`, which lies in the same function as the word `at`
pub record IsAtHome (functions : List PlacedFunction) (spots : List Spot) (at to : ℕ) : Type 0 where
  pub home : PlacedFunction
  pub has : Contains functions home
  pub from : LiesIn home at
  pub lies : LiesIn home to
  pub unit : BeginsUnit spots to

-- the first words of the functions of a module, and of modules; they are words of the code
abbrev pub entries_in : Placed → List ℕ
entries_in m = map (λ f. m.base + f.first) m.functions

-- where the functions of modules begin
abbrev pub entries_of : List Placed → List ℕ
entries_of ms = flat_map entries_in ms

-- the offset leads from the word `at` to a unit of its own function
abbrev pub LeadsHome : Placed → List Spot → (at : ℕ) → ℤ → Type 0
LeadsHome m spots at off = (to : ℕ) × LeadsTo at off to × IsAtHome m.functions spots at to

-- it leads from the word `at` of a module to the first word of a function of the module or of those loaded
abbrev pub LeadsToEntry : Placed → (loaded : List Placed) → (at : ℕ) → ℤ → Type 0
LeadsToEntry m loaded at off = (to : ℕ) × LeadsTo (m.base + at) off to × Contains (entries_of (m ∷ loaded)) to

-- where a unit may lead
abbrev pub MayLead : Placed → (loaded : List Placed) → List Spot → (at : ℕ) → CodeUnit → Type 0
MayLead m loaded spots at (Branch cond rs1 rs2 off) = LeadsHome m spots at off
MayLead m loaded spots at (Jump true off) = LeadsToEntry m loaded at off
MayLead m loaded spots at (Jump false off) = LeadsHome m spots at off ⊎ LeadsToEntry m loaded at off
MayLead m loaded spots at unit = ⊤

-- a unit of the module leads where it may
abbrev pub LeadsWell : Placed → (loaded : List Placed) → List Spot → (number : ℕ) → Spot → Type 0
LeadsWell m loaded spots number spot = MayLead m loaded spots spot.at spot.unit
