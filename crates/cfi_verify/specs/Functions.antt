-- Where the functions of a module may lie, and how they may end.
use Rattle.std.specs.Prelude.{◌≡◌, ◌⊎◌, ℕ, zero, suc, ◌<◌, ◌≤◌, pos, Bool, true, false, not, IsTrue, List, length, slice_get, Option, Some, None}
use Rattle.std.specs.List.{Contains}
use Rattle.rv_insn.specs.declared.insn.Insn.TheVariants.{OpImm}
use Rattle.rv_insn.specs.declared.insn.ImmOp.TheVariants.{Addi}
use Rattle.cfi_unit.specs.declared.unit.Unit.{Unit as CodeUnit}
use Rattle.cfi_unit.specs.declared.unit.Unit.TheVariants.{Plain, Jump, Check}
use Rattle.cfi_type_table.specs.Kind.{is_callable}
use Rattle.cfi_aux.specs.declared.placed.Placed.{Placed}
use Rattle.cfi_aux.specs.declared.placed.PlacedFunction.{PlacedFunction}
use Rattle.cfi_unit.specs.declared.spot.Spot.{Spot}
use Rattle.cfi_unit.specs.Spots.{BeginsUnit}
use Rattle.cfi_aux.specs.Extent.{end_of, LiesIn}

-- where a function ends; before the first one, the module's first word
abbrev pub end_in : Option PlacedFunction → ℕ
end_in None = 0
end_in (Some f) = end_of f

-- where the function before that of the number ends
abbrev pub end_before : List PlacedFunction → (number : ℕ) → ℕ
end_before functions zero = 0
end_before functions (suc number) = end_in (slice_get functions number)

-- each unit from one word up to another is `addi x0,x0,0`
abbrev pub IsIdle : List Spot → (from to : ℕ) → Type 0
IsIdle spots from to = (spot : Spot) → Contains spots spot → from ≤ spot.at → spot.at < to
    → spot.unit ≡ Plain (OpImm Addi 0 0 (pos 0))

-- a function has words, comes after the one before, which ends at a word, stays in the words, begins and ends at
-- units, and has the type of a function; and what stands between the two is idle
pub record FunctionFits (m : Placed) (spots : List Spot) (before : ℕ) (f : PlacedFunction) : Type 0 where
  pub some : 0 < f.count
  pub order : before ≤ f.first
  pub within : end_of f ≤ length m.words
  pub begins : BeginsUnit spots f.first
  pub ends : (end_of f ≡ length m.words) ⊎ BeginsUnit spots (end_of f)
  pub typed : IsTrue (is_callable m.types f.ty)
  pub idle : IsIdle spots before f.first

-- the function of the number fits
abbrev pub FitsBehind : (m : Placed) → List Spot → (number : ℕ) → PlacedFunction → Type 0
FitsBehind m spots number f = FunctionFits m spots (end_before m.functions number) f

-- what stands after the last function is idle
abbrev pub IsIdleBehind : (m : Placed) → List Spot → Type 0
IsIdleBehind m spots = IsIdle spots (end_before m.functions (length m.functions)) (length m.words)

-- a jump or a check that does not link
abbrev pub may_be_last : CodeUnit → Bool
may_be_last (Jump link off) = not link
may_be_last (Check link rs1 imm slot) = not link
may_be_last unit = false

-- the last unit of the function
pub record IsLastIn (spots : List Spot) (f : PlacedFunction) (spot : Spot) : Type 0 where
  pub has : Contains spots spot
  pub lies : LiesIn f spot.at
  pub last : (other : Spot) → Contains spots other → LiesIn f other.at → other.at ≤ spot.at

-- the last unit of the function is a jump or a check that does not link
abbrev pub EndsWell : List Spot → (number : ℕ) → PlacedFunction → Type 0
EndsWell spots number f = (spot : Spot) × IsLastIn spots f spot × (may_be_last spot.unit ≡ true)
