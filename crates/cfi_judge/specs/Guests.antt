-- The plan and the start modules of a course.
use Rattle.std.specs.Prelude.{◌≡◌, List}
use Rattle.cfi_aux.specs.declared.placed.Placed.{Placed}
use Rattle.cfi_plan.specs.declared.plan.Plan.{Plan}
use Rattle.cfi_valid.specs.Course.{Course}
use Rattle.cfi_valid.specs.Loaded.{placed_modules, loaded_by}

-- the course is one of the plan, and these are its start modules
pub record HasStarts (plan : Plan) (starts : List Placed) (c : Course) : Type 0 where
  pub plan_is : c.plan ≡ plan
  pub starts_are : placed_modules (loaded_by 0 c.end.loaded) ≡ starts
