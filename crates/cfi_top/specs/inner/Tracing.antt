-- What tracing comes to, step by step.
use Rattle.std.specs.Prelude.{◌≡◌, ℕ, List, [], ◌∷◌, Option, Some, None}
use Rattle.cfi_plan.specs.declared.plan.Plan.{Plan}
use Rattle.cfi_io.specs.Seen.{ShelfView}
use Rattle.cfi_request.specs.Plans.{named_files_and}
use Rattle.cfi_request.specs.Reading.{AreRead, StopsAt}
use Rattle.cfi_top.specs.declared.answer.Answer.{Answer}
use Rattle.cfi_top.specs.declared.answer.Answer.TheVariants as answers
use Rattle.cfi_top.specs.Simulating.{RefusesSimOf}
use Rattle.cfi_top.specs.Tracing.{AreNames, IsTraceText, IsTraced}

-- what tracing a plan with the modules of these files, by a schedule of these bytes, comes to
abbrev pub IsTracedBy : (plan schedule : List ℕ) → Plan → (files : List (List ℕ)) → (bytes : List ℕ) → Answer → Type 0
IsTracedBy plan schedule found files bytes (answers.Print text) = IsTraceText found files bytes text
IsTracedBy plan schedule found files bytes (answers.Refused name refusal) =
    RefusesSimOf plan schedule found files bytes name refusal
IsTracedBy plan schedule found files bytes answer = ⊥

-- what it comes to once the plan is read and has these bytes
abbrev pub TraceGoesOn : (plan schedule bytes : List ℕ) → (shelf shelf' : ShelfView) → Answer → Type 0
TraceGoesOn plan schedule bytes shelf shelf' (answers.Unread unread) =
    StopsAt shelf shelf' (named_files_and bytes schedule) unread
TraceGoesOn plan schedule bytes shelf shelf' answer =
    (others : List (List ℕ)) × AreRead shelf (named_files_and bytes schedule) others
    × IsTraced plan schedule bytes others answer

-- the words are the names of a plan and a schedule, or are not
abbrev pub IsPair : (words : List (List ℕ)) → Option (List ℕ × List ℕ) → Type 0
IsPair words None = (plan schedule : List ℕ) → ¬ AreNames words plan schedule
IsPair words (Some names) = AreNames words names.0 names.1
