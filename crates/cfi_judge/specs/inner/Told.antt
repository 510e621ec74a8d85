-- Modules that lines of a journal say were loaded, one behind the other, and those that they say were retired
-- meanwhile. None of them has to verify.
use Rattle.std.specs.Prelude.{◌≡◌, ℕ, List, [], ◌∷◌, ◌++◌, map, slice_get, Some, ⊤}
use Rattle.cfi_aux.specs.declared.modules.Module.{Module}
use Rattle.cfi_aux.specs.declared.placed.Placed.{Placed}
use Rattle.cfi_modules.specs.Order.{IsPlacedBehind}
use Rattle.cfi_plan.specs.declared.journal.Entry.{Entry}
use Rattle.cfi_plan.specs.declared.journal.ModuleLine.{ModuleLine}
use Rattle.cfi_plan.specs.declared.plan.Plan.{Plan}
use Rattle.cfi_valid.specs.Kept.{Origin, module_from}
use Rattle.cfi_valid.specs.Loaded.{LoadedModule, module_line_of, placed_modules}
use Rattle.cfi_valid.specs.Modules.{without}
use Rattle.cfi_judge.specs.declared.entries.Change.{Change}
use Rattle.cfi_judge.specs.declared.entries.Change.TheVariants as changes
use Rattle.cfi_judge.specs.declared.entries.Update.{Update}
use Rattle.cfi_judge.specs.inner.Lines.{change_of}

-- where the module of a load comes from
abbrev pub origin_by : Update → Origin
origin_by load = record { number = load.number; policy = load.policy }

-- what the lines of a journal change
abbrev pub changes_in : (journal : List Entry) → List Change
changes_in journal = map (λ (e : Entry). change_of e.what) journal

-- a module that is told is placed so behind those before it, with the names of those of them that are not gone, and the
-- line is its own
pub record IsToldBy (plan : Plan) (modules : List Module) (before : List LoadedModule) (gone : List ℕ)
    (line : ModuleLine) (told : Origin) (one : Placed) : Type 0 where
  pub unplaced : Module
  pub is : slice_get modules told.number ≡ Some unplaced
  pub behind : IsPlacedBehind plan.code_words (placed_modules before) (placed_modules (without gone before))
      unplaced one
  pub line_is : line ≡ module_line_of plan.modules (module_from told one)

-- modules that are told follow those before them, each with its line, while some go
abbrev pub Follow : Plan → List Module → (before : List LoadedModule) → (gone : List ℕ) → List Change
    → List ModuleLine → Type 0
Follow plan modules before gone [] [] = ⊤
Follow plan modules before gone [] (line ∷ lines) = ⊥
Follow plan modules before gone (changes.Nothing ∷ more) lines = Follow plan modules before gone more lines
Follow plan modules before gone (changes.Epoch epoch ∷ more) lines = Follow plan modules before gone more lines
Follow plan modules before gone (changes.Retirement one ∷ more) lines =
    Follow plan modules before (gone ++ one.number ∷ []) more lines
Follow plan modules before gone (changes.Module load ∷ more) [] = ⊥
Follow plan modules before gone (changes.Module load ∷ more) (line ∷ lines) =
    (placed : Placed) × IsToldBy plan modules before gone line (origin_by load) placed
    × Follow plan modules (before ++ module_from (origin_by load) placed ∷ []) gone more lines
