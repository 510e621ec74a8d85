-- A closed image: tables and code in which each unit at a start leads to starts.
-- Code addresses are in bytes; places are word numbers, from 0.
use Rattle.std.specs.Prelude.{◌≡◌, ◌≢◌, ℕ, ◌+◌, ◌-◌, ◌*◌, ◌≤◌, ◌<◌, Bool, true, false, ℤ, pos, negsuc, List, ◌++◌, length, take, drop, replicate, slice_get, slice_index, Some, ⊤}
use Rattle.std.specs.List.{flat_map, AllByRecursion}
use Rattle.rv_insn.specs.declared.insn.Insn.TheVariants.{OpImm}
use Rattle.rv_insn.specs.declared.insn.ImmOp.TheVariants.{Addi}
use Rattle.cfi_unit.specs.declared.unit.Unit.{Unit as CodeUnit}
use Rattle.cfi_unit.specs.declared.unit.Unit.TheVariants as units
use Rattle.cfi_unit.specs.Unit.{IsUnit, words_of}
use Rattle.cfi_word.specs.declared.lists.Image.{Image}
use Rattle.cfi_word.specs.declared.ids.TheConstants.{FIELD_MAX}
use Rattle.cfi_word.specs.Table.{slots_of}
use Rattle.cfi_word.specs.declared.map.TheConstants.{FIRST_BASE}
use Rattle.cfi_word.specs.declared.sizes.TheConstants.{ACCESS_WORDS, CHECK_WORDS}
use Rattle.cfi_unit.specs.Spots.{IsOneOf}

-- `addi x0,x0,0`
abbrev pub idle : CodeUnit
idle = units.Plain (OpImm Addi 0 0 (pos 0))

-- the words of units, one after the other
abbrev pub code_of : List CodeUnit → List ℕ
code_of body = flat_map words_of body

-- code is read as units from the first module on: first `body`, then so many idle ones, then words of 0
pub record IsReadAs (code : List ℕ) (body : List CodeUnit) (idles zeros : ℕ) : Type 0 where
  pub fit : AllByRecursion IsUnit body
  pub spelled : drop FIRST_BASE code ≡ (code_of body ++ code_of (replicate idles idle)) ++ replicate zeros 0
  pub busy : slice_get body (length body - 1) ≢ Some idle

-- the address of a unit of the body, by its number
abbrev pub unit_address : (body : List CodeUnit) → (number : ℕ) → ℕ
unit_address body number = 4 * (FIRST_BASE + length (code_of (take number body)))

-- a unit of the body stands at the address
abbrev pub StandsIn : (body : List CodeUnit) → (address : ℕ) → CodeUnit → Type 0
StandsIn body address unit = (number : ℕ) × (slice_get body number ≡ Some unit) × (address ≡ unit_address body number)

-- the address is a start
abbrev pub IsStartOf : (body : List CodeUnit) → (address : ℕ) → Type 0
IsStartOf body address = IsOneOf (length body) (unit_address body) address

-- the address that lies so far from another is a start
abbrev pub LeadsToStart : (body : List CodeUnit) → (address : ℕ) → ℤ → Type 0
LeadsToStart body address (pos n) = IsStartOf body (address + n)
LeadsToStart body address (negsuc n) = (to : ℕ) × (to + n + 1 ≡ address) × IsStartOf body to

-- control goes on after a unit that links
abbrev pub ReturnsToStart : (body : List CodeUnit) → (link : Bool) → (address : ℕ) → Type 0
ReturnsToStart body true address = IsStartOf body address
ReturnsToStart body false address = ⊤

-- the unit at the address leads to starts, and its slot is there
abbrev pub StaysInside : (body : List CodeUnit) → (slots : ℕ) → (address : ℕ) → CodeUnit → Type 0
StaysInside body slots address (units.Plain insn) = IsStartOf body (address + 4)
StaysInside body slots address (units.Load kind rd rs1 imm) = IsStartOf body (address + 4 * ACCESS_WORDS)
StaysInside body slots address (units.Store kind rs1 rs2 imm) = IsStartOf body (address + 4 * ACCESS_WORDS)
StaysInside body slots address (units.Branch cond rs1 rs2 off) =
    IsStartOf body (address + 4) × LeadsToStart body address off
StaysInside body slots address (units.Jump link off) =
    ReturnsToStart body link (address + 4) × LeadsToStart body address off
StaysInside body slots address (units.Check link rs1 imm slot) =
    ReturnsToStart body link (address + 4 * CHECK_WORDS) × (slot < slots)
StaysInside body slots address units.Service = IsStartOf body (address + 4)

-- the classes of an image of so many code words
pub record HasClasses (code_words : ℕ) (image : Image) : Type 0 where
  pub tary_length : length image.tary ≡ code_words
  pub bary_length : length image.bary ≡ slots_of code_words
  pub code_length : length image.code ≡ code_words
  pub tary_most : (k : ℕ) → slice_index image.tary k ≤ FIELD_MAX
  pub bary_most : (slot : ℕ) → slice_index image.bary slot ≤ FIELD_MAX
  pub bary_least : (slot : ℕ) → slot < slots_of code_words → slice_index image.bary slot ≢ 0

-- the image, whose code is read as this body, is closed
pub record IsClosedBy (code_words : ℕ) (image : Image) (body : List CodeUnit) : Type 0 where
  pub classes : HasClasses code_words image
  pub idles : ℕ
  pub zeros : ℕ
  pub code : IsReadAs image.code body idles zeros
  pub inside : (address : ℕ) (unit : CodeUnit) → StandsIn body address unit
      → StaysInside body (length image.bary) address unit
  pub targets : (k : ℕ) → slice_index image.tary k ≢ 0 → IsStartOf body (4 * k)

-- the address is a start of the image's code
pub record IsStartIn (image : Image) (address : ℕ) : Type 0 where
  pub body : List CodeUnit
  pub idles : ℕ
  pub zeros : ℕ
  pub code : IsReadAs image.code body idles zeros
  pub starts : IsStartOf body address

-- the image is closed
abbrev pub IsClosed : (code_words : ℕ) → Image → Type 0
IsClosed code_words image = (body : List CodeUnit) × IsClosedBy code_words image body
