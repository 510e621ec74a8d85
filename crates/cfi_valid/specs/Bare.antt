-- Plans that stand for a bare file.
use Rattle.std.specs.Prelude.{Bool, ◌==◌, length}
use Rattle.std.specs.List.{list_any}
use Rattle.cfi_plan.specs.declared.plan.Plan.{Plan}
use Rattle.cfi_plan.specs.declared.plan.PlanModule.{PlanModule}

-- the file of a module has no name
abbrev pub has_no_file : PlanModule → Bool
has_no_file one = length one.file == 0

-- the plan stands for a bare file
abbrev pub is_bare_plan : Plan → Bool
is_bare_plan plan = list_any has_no_file plan.modules
