-- How far a guest is within a unit. How many instructions of its present try are done follows from where it stands, so
-- how many tries it has repeated follows from its count of instructions.
use Rattle.std.specs.Prelude.{◌≡◌, ℕ, ◌-◌, ◌==◌, ◌&&◌, ◌⊎◌, nat_le, if◌then◌else◌, List}
use Rattle.cfi_unit.specs.declared.unit.Unit.{Unit as CodeUnit}
use Rattle.cfi_unit.specs.declared.unit.Unit.TheVariants as units
use Rattle.cfi_word.specs.declared.map.TheConstants.{CODE_BYTES}
use Rattle.cfi_word.specs.declared.sizes.TheConstants.{CHECK_WORDS, OUTSIDE_STEPS, PASSED_STEPS}
use Rattle.cfi_model.specs.History.{History}
use Rattle.cfi_model.specs.Raw.{Raw}
use Rattle.cfi_model.specs.Shows.{IsBetween, IsInside}
use Rattle.cfi_model.specs.State.{State, register, displaced}

-- The words of a check before its last two are run one after the other. Its last one is the jump, to which a try leads
-- that has found equal words; the one before stops the guest, and is run early where the target is past the code.
abbrev pub done_in_check : (target at : ℕ) → ℕ
done_in_check target at =
    if at == CHECK_WORDS - 1 then PASSED_STEPS - 1 else
    (if (at == CHECK_WORDS - 2) && nat_le CODE_BYTES target then OUTSIDE_STEPS - 1 else at)

-- how many instructions of a unit are done at one of its words, in a check those of the first and of the present try
abbrev pub done_in : CodeUnit → State → (at : ℕ) → ℕ
done_in (units.Check link rs1 imm slot) s at = done_in_check (displaced (register s rs1) imm) at
done_in unit s at = at

-- a guest is inside a unit, and has repeated so many tries of it
pub record HasTried (h : History) (code : List ℕ) (retries : ℕ) (s : State) (r : Raw) (tries : ℕ) : Type 0 where
  pub inside : IsInside h code retries s r
  pub done : inside.few ≡ done_in inside.unit s inside.at
  pub is : inside.more ≡ tries

-- or it is between two units, and has repeated none
abbrev pub HasRepeated : History → (code : List ℕ) → (retries : ℕ) → State → Raw → (tries : ℕ) → Type 0
HasRepeated h code retries s r tries = (IsBetween retries s r × (tries ≡ 0)) ⊎ HasTried h code retries s r tries

-- there is one such number
abbrev pub RepeatsAreCounted : Type 0
RepeatsAreCounted =
    (h : History) (code : List ℕ) (retries : ℕ) (s : State) (r : Raw) (one other : ℕ) →
    HasRepeated h code retries s r one → HasRepeated h code retries s r other → one ≡ other
