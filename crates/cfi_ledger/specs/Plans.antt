-- Plans that can be started, with their modules.
use Rattle.std.specs.Prelude.{◌≡◌, ◌≤◌, List, length, All}
use Rattle.cfi_aux.specs.declared.modules.Module.{Module}
use Rattle.cfi_plan.specs.Draft.{starts}
use Rattle.cfi_plan.specs.Plan.{IsVersions, IsScript}
use Rattle.cfi_plan.specs.declared.plan.Plan.{Plan}
use Rattle.cfi_modules.specs.Series.{CanBeTaken}
use Rattle.cfi_word.specs.Table.{IsSize}
use Rattle.cfi_word.specs.declared.limits.TheConstants.{MAX_EPOCH, MAX_MODULES, MAX_STARTS, GUESTS}

-- the plan is within the limits, and each module can be taken: one for each line
pub record CanStart (plan : Plan) (modules : List Module) : Type 0 where
  pub code_words : IsSize plan.code_words
  pub versions : IsVersions plan.versions
  pub first : plan.first ≤ MAX_EPOCH
  pub most_modules : length plan.modules ≤ MAX_MODULES
  pub most_starts : starts plan.modules ≤ MAX_STARTS
  pub most_guests : length plan.guests ≤ GUESTS
  pub script : IsScript (length plan.modules) plan.script
  pub count : length modules ≡ length plan.modules
  pub taken : All CanBeTaken modules
