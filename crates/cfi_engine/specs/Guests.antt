-- The guests of a plan, as far as they are opened.
use Rattle.std.specs.Prelude.{◌≡◌, ℕ, ◌<◌, ◌≤◌, true, false, List, [], length, slice_get, slice_index_or, None, Some}
use Rattle.cfi_aux.specs.declared.modules.Module.{Module}
use Rattle.cfi_guest_run.specs.Runner.{Ran}
use Rattle.cfi_loader.specs.Ledger.{Ledger}
use Rattle.cfi_plan.specs.declared.plan.Plan.{Plan}
use Rattle.cfi_plan.specs.declared.plan.PlanModule.{PlanModule}
use Rattle.cfi_tables.specs.Keeping.{is_out}
use Rattle.cfi_valid.specs.Bare.{is_bare_plan}
use Rattle.cfi_valid.specs.Journal.{IsOpeningState}
use Rattle.cfi_word.specs.declared.limits.TheConstants.{GUESTS}

-- the plan's first module is there from the start, and where it has text it has a function
pub record HasFirst (plan : Plan) (modules : List Module) : Type 0 where
  pub line : PlanModule
  pub line_is : slice_get plan.modules 0 ≡ Some line
  pub starts : line.start ≡ true
  pub first : Module
  pub first_is : slice_get modules 0 ≡ Some first
  pub some : 0 < length first.object.text → 0 < length first.records.functions

-- where a plan stands for a bare file, there is code for its guest to begin in
abbrev pub HasCode : Plan → List Module → Type 0
HasCode plan modules = is_bare_plan plan ≡ true → HasFirst plan modules

-- nothing was loaded or told since the start, and the passes that are out are those of the guests below a number
pub record IsOpenedTo (plan : Plan) (modules : List Module) (number : ℕ) (l : Ledger) : Type 0 where
  pub opens : IsOpeningState plan modules l.course.end
  pub untold : l.course.journal ≡ []
  pub seats : length l.keeping.out ≡ GUESTS
  pub out : (guest : ℕ) → guest < number → is_out l.keeping.out guest ≡ true
  pub free : (guest : ℕ) → number ≤ guest → is_out l.keeping.out guest ≡ false

-- so many of the plan's first guests were opened, and no others
pub record AreFirstOpened (plan : Plan) (modules : List Module) (l : Ledger) : Type 0 where
  pub number : ℕ
  pub most : number ≤ length plan.guests
  pub opened : IsOpenedTo plan modules number l

-- passes went out, and nothing else was done
abbrev pub HasAdmitted : (old new : Ledger) → Type 0
HasAdmitted old new = new ≡ record old {
  keeping = record old.keeping { out = new.keeping.out; quiets = new.keeping.quiets };
}

-- a runner of the guest of this number that waits for nothing
pub record IsWaiting (number : ℕ) (ran : Ran) : Type 0 where
  pub number_is : ran.pass.guest ≡ number
  pub idle : ran.guest.waits ≡ None

-- runners of the plan's guests, in order
abbrev pub AreWaiting : List Ran → Type 0
AreWaiting rans = (number : ℕ) (d : Ran) → number < length rans → IsWaiting number (slice_index_or rans number d)
