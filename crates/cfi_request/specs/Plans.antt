-- The files that a plan names.
use Rattle.std.specs.Prelude.{ℕ, ◌%◌, ◌==◌, Bool, nat_eq, List, length, [], ◌∷◌, ◌++◌, map, codes, if◌then◌else◌, Result, Ok, Err}
use Rattle.std.specs.List.{starts_with}
use Rattle.cfi_plan.specs.declared.plan.Plan.{Plan}
use Rattle.cfi_plan.specs.declared.fault.PlanFault.{PlanFault}
use Rattle.cfi_plan.specs.Reading.{plan_in}

-- the files of its modules, in order
abbrev pub files_of : Plan → List (List ℕ)
files_of plan = map (λ one. one.file) plan.modules

-- those of what is read as a plan; none of what is no plan
abbrev pub files_in : Result Plan PlanFault → List (List ℕ)
files_in (Ok plan) = files_of plan
files_in (Err fault) = []

-- the files that the plan of these bytes names
abbrev pub named_files : (bytes : List ℕ) → List (List ℕ)
named_files bytes = files_in (plan_in bytes)

-- the same, and the file of one name more behind those of a plan
abbrev pub files_and : (last : List ℕ) → Result Plan PlanFault → List (List ℕ)
files_and last (Ok plan) = files_of plan ++ last ∷ []
files_and last (Err fault) = []

-- the files of the plan in these bytes, and these behind them
abbrev pub named_files_and : (bytes last : List ℕ) → List (List ℕ)
named_files_and bytes last = files_and last (plan_in bytes)

-- a file that begins so is a plan where it is to be run, any other a bare file
abbrev pub begins_as_plan : (bytes : List ℕ) → Bool
begins_as_plan bytes = starts_with nat_eq bytes (codes "plan ")

-- the files that a file of these bytes names where it is to be run
abbrev pub run_files : (bytes : List ℕ) → List (List ℕ)
run_files bytes = if begins_as_plan bytes then named_files bytes else []

-- the files that a file of these bytes names where a report of its run is judged, and the report's behind them; there
-- are none where it is no plan, or a bare file that is no whole words
abbrev pub judged_files : (bytes report : List ℕ) → List (List ℕ)
judged_files bytes report =
    if begins_as_plan bytes then named_files_and bytes report
    else (if length bytes % 4 == 0 then report ∷ [] else [])
