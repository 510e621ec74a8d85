-- A whole plan, read line by line. Line 1 is `plan 1`, each other line adds to the draft, and the first faulty line
-- decides.
use Rattle.std.specs.Prelude.{ℕ, Bool, false, ◌&&◌, List, [], ◌∷◌, codes, if◌then◌else◌, Option, Some, None, Result, Ok, Err}
use Rattle.std.specs.Str.{bytes_eq}
use Rattle.cfi_plan.specs.declared.line.Line.{Line}
use Rattle.cfi_plan.specs.declared.plan.Plan.{Plan}
use Rattle.cfi_plan.specs.declared.fault.PlanFault.{PlanFault}
use Rattle.cfi_plan.specs.declared.fault.PlanFault.TheVariants.{Syntax}
use Rattle.cfi_plan.specs.Draft.{PlanSoFar, empty, taken, plan_of}
use Rattle.cfi_plan.specs.Line.{form_of}
use Rattle.cfi_text.specs.Words.{words_in}
use Rattle.cfi_text.specs.Lines.{numbered_lines, statement_of}
use Rattle.cfi_values.specs.Then.{◌>>=◌}

-- the words of line 1
abbrev pub is_head : (words : List (List ℕ)) → Bool
is_head [] = false
is_head (keyword ∷ []) = false
is_head (keyword ∷ number ∷ []) = bytes_eq keyword (codes "plan") && bytes_eq number (codes "1")
is_head (keyword ∷ number ∷ word ∷ words) = false

-- what comes of a line, if it says one
abbrev pub taken_if : (number : ℕ) → PlanSoFar → Option Line → Result PlanSoFar PlanFault
taken_if number draft None = Err (Syntax number)
taken_if number draft (Some line) = taken number draft line

-- what comes of the line of this number
unfoldable pub with_text : (number : ℕ) → PlanSoFar → (line : List ℕ) → Result PlanSoFar PlanFault
with_text number draft line = taken_if number draft (form_of (words_in (statement_of line)))

-- what comes of numbered lines, one after another
abbrev pub with_lines : PlanSoFar → (lines : List (ℕ × List ℕ)) → Result PlanSoFar PlanFault
with_lines draft [] = Ok draft
with_lines draft (line ∷ lines) = with_text line.0 draft line.1 >>= λ next. with_lines next lines

-- what comes of all numbered lines
abbrev pub plan_of_lines : (lines : List (ℕ × List ℕ)) → Result Plan PlanFault
plan_of_lines [] = Err (Syntax 1)
plan_of_lines (head ∷ lines) =
    if is_head (words_in (statement_of head.1)) then with_lines empty lines >>= plan_of else Err (Syntax 1)

-- what comes of a text
unfoldable pub plan_in : (text : List ℕ) → Result Plan PlanFault
plan_in text = plan_of_lines (numbered_lines text)
