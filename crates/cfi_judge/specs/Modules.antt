-- The modules of a report, whether its journal is legal or not.
use Rattle.std.specs.Prelude.{List}
use Rattle.cfi_aux.specs.declared.modules.Module.{Module}
use Rattle.cfi_plan.specs.declared.plan.Plan.{Plan}
use Rattle.cfi_report.specs.declared.report.Report.{Report}
use Rattle.cfi_valid.specs.Loaded.{LoadedModule}
use Rattle.cfi_valid.specs.Modules.{HasModules}

-- some loaded modules are those that the report tells of
abbrev pub HasSomeModules : Plan → List Module → Report → Type 0
HasSomeModules plan modules report = (loaded : List LoadedModule) × HasModules plan modules report loaded
