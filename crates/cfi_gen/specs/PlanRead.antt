-- The plan of drawn modules: the first is there from the start, and the others are loaded late.
use Rattle.std.specs.Prelude.{ℕ, ◌==◌, List, [], ◌∷◌, codes}
use Rattle.elf_read.specs.Places.{joined}
use Rattle.cfi_gen.specs.Source.{module_name, file_name}
use Rattle.cfi_plan.specs.declared.plan.Plan.{Plan}
use Rattle.cfi_plan.specs.declared.plan.PlanModule.{PlanModule}
use Rattle.cfi_plan.specs.declared.plan.ScriptLine.TheVariants.{Refresh}
use Rattle.cfi_word.specs.declared.limits.TheConstants.{MAX_VERSIONS}

-- the module of a number
abbrev pub drawn_module : (number : ℕ) → PlanModule
drawn_module number = record { name = module_name number; file = file_name number; start = number == 0 }

-- the plan of so many
abbrev pub drawn_plan : (count : ℕ) → Plan
drawn_plan count = record {
  code_words = 16384;
  versions = MAX_VERSIONS;
  first = 0;
  fuel = 10000000;
  modules = joined (λ number. drawn_module number ∷ []) count;
  guests = codes "main" ∷ codes "main" ∷ codes "main" ∷ codes "main" ∷ [];
  script = Refresh 20 ∷ [];
}
