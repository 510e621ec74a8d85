-- What the passes over units, functions and checks know and find.
use Rattle.std.specs.Prelude.{◌≡◌, ◌⊎◌, ℕ, ◌*◌, ◌^◌, ◌<◌, ◌≤◌, List, ◌∷◌, length, All}
use Rattle.std.specs.List.{Contains, AllPairs}
use Rattle.std.specs.List.Sorted.{IsPermutation}
use Rattle.cfi_aux.specs.declared.placed.Placed.{Placed}
use Rattle.cfi_aux.specs.declared.placed.PlacedFunction.{PlacedFunction}
use Rattle.cfi_unit.specs.declared.spot.Spot.{Spot}
use Rattle.cfi_verify.specs.declared.checks.CheckSpot.{CheckSpot}
use Rattle.elf_read.specs.Lists.{Each, IsFirstBreak, own_number}
use Rattle.cfi_verify.specs.Functions.{FitsBehind, IsIdleBehind}
use Rattle.cfi_aux.specs.Extent.{end_of, LiesIn, DoNotOverlap}
use Rattle.cfi_verify.specs.Target.{entries_of}
use Rattle.cfi_verify.specs.Branches.{KindFits}
use Rattle.cfi_verify.specs.Fault.{check_place}

-- each unit begins after those before it
abbrev pub AreRising : List Spot → Type 0
AreRising spots = AllPairs (λ s t. s.at < t.at) spots

-- the places of units and of checks in bytes are 32-bit numbers
abbrev pub AreSmall : List Spot → Type 0
AreSmall spots = All (λ s. 4 * s.at < 2 ^ 32) spots

-- the places of checks are 32-bit numbers in bytes
abbrev pub AreSmallChecks : List CheckSpot → Type 0
AreSmallChecks checks = All (λ c. 4 * c.at < 2 ^ 32) checks

-- each function ends before those after it begin
abbrev pub AreFunctionsApart : List PlacedFunction → Type 0
AreFunctionsApart functions = DoNotOverlap (λ f. f.first) end_of functions

-- the ends of functions are 32-bit numbers
abbrev pub AreInRange : List PlacedFunction → Type 0
AreInRange functions = All (λ f. end_of f < 2 ^ 32) functions

-- a function has words, after the word `before` and within so many
pub record FollowsWithin (before count : ℕ) (f : PlacedFunction) : Type 0 where
  pub some : 0 < f.count
  pub order : before ≤ f.first
  pub within : end_of f ≤ count

-- a function in which the word lies begins and ends at these words
pub record IsHome (functions : List PlacedFunction) (at first end : ℕ) : Type 0 where
  pub home : PlacedFunction
  pub has : Contains functions home
  pub lies : LiesIn home at
  pub begins : first ≡ home.first
  pub ends : end ≡ end_of home

-- these are the first words of the functions of a module and of those loaded, in some order
abbrev pub AreEntriesOf : Placed → (loaded : List Placed) → List ℕ → Type 0
AreEntriesOf m loaded entries = IsPermutation (entries_of (m ∷ loaded)) entries

-- the first function that does not fit; their number where each one does, and what stands behind is not idle
abbrev pub IsFirstUnfit : Placed → List Spot → (number : ℕ) → Type 0
IsFirstUnfit m spots number = IsFirstBreak m.functions own_number (FitsBehind m spots) number
    ⊎ ((number ≡ length m.functions) × Each m.functions (FitsBehind m spots) × ¬ IsIdleBehind m spots)

-- the first check whose record does not fit; the code's length where each one does, and records are left over
abbrev pub IsFirstMisfit : Placed → List CheckSpot → (place : ℕ) → Type 0
IsFirstMisfit m checks place = IsFirstBreak checks check_place (KindFits m) place
    ⊎ ((place ≡ 4 * length m.words) × Each checks (KindFits m) × (length checks < length m.branches))
