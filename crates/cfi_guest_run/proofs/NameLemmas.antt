-- The loaded modules are some of the plan's, so that the names in a report are too.
use Rattle.std.proofs.Common.{◌≡◌, ◌<◌, ℕ, true, false, List, [], ◌∷◌, Option, get_or, length, map, sym, ap, subst}
use Rattle.std.specs.List.{AllByRecursion}
use Rattle.std.specs.Option.{option_map_or}
use Rattle.std.proofs.lemmas.Option.{slice_get-get_or}
use Rattle.cfi_plan.specs.declared.journal.ModuleLine.{ModuleLine}
use Rattle.cfi_plan.specs.declared.plan.Plan.{Plan}
use Rattle.cfi_plan.specs.declared.plan.PlanModule.{PlanModule}
use Rattle.cfi_text.specs.Names.{is_name}
use Rattle.cfi_loader.proofs.NumberLemmas.{AreBelow}
use Rattle.cfi_valid.specs.Loaded.{LoadedModule, module_line_of, planned_name}
use Rattle.cfi_guest_run.specs.Concluded.{HasReadableNames}

-- ---- names

no_module : PlanModule
no_module = record { name = []; file = []; start = false }

module_named : (plan : Plan) → HasReadableNames plan → (number : ℕ) → number < length plan.modules
    → is_name (planned_name plan.modules number) ≡ true
module_named plan names number within =
    let one : PlanModule = get_or plan.modules number no_module in
    let found = ap (λ (o : Option PlanModule). option_map_or (λ (m : PlanModule). m.name) o [])
    (slice_get-get_or plan.modules number no_module within) in
    subst (λ (name : List ℕ). is_name name ≡ true) (sym found) (names.modules number no_module within)

pub lines_named : (plan : Plan) → HasReadableNames plan → (loaded : List LoadedModule)
    → AreBelow (length plan.modules) loaded
    → AllByRecursion (λ (l : ModuleLine). is_name l.name ≡ true) (map (module_line_of plan.modules) loaded)
lines_named plan names [] known = tt
lines_named plan names (l ∷ loaded) known =
    (module_named plan names l.number known.0, lines_named plan names loaded known.1)
