-- What a bare file stands for: a plan of one start module with one guest, under the settings that a plan has where it
-- names none. No text of a plan is read as this one, since its file has no name.
use Rattle.std.specs.Prelude.{true, [], ◌∷◌, codes}
use Rattle.cfi_plan.specs.declared.plan.Plan.{Plan}
use Rattle.cfi_plan.specs.declared.plan.PlanModule.{PlanModule}
use Rattle.cfi_word.specs.declared.limits.TheConstants.{MAX_CODE_WORDS, MAX_VERSIONS, FUEL}

-- the one module of the plan, whose file has no name
abbrev pub bare_one : PlanModule
bare_one = record { name = codes "bare"; file = []; start = true }

-- the plan of a bare file
abbrev pub bare_plan : Plan
bare_plan = record {
  code_words = MAX_CODE_WORDS;
  versions = MAX_VERSIONS;
  first = 0;
  fuel = FUEL;
  modules = bare_one ∷ [];
  guests = codes "bare" ∷ [];
  script = [];
}
