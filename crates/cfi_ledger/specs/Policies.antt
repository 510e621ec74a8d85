-- The policies of the loaded modules, and the images that are or were in force.
use Rattle.std.specs.Prelude.{◌≡◌, ◌≢◌, ℕ, ◌+◌, ◌≤◌, All, length}
use Rattle.std.specs.List.{AllPairs}
use Rattle.cfi_model.specs.declared.history.Entry.{Entry as TableEntry}
use Rattle.cfi_plan.specs.Draft.{starts}
use Rattle.cfi_plan.specs.declared.plan.Plan.{Plan}
use Rattle.cfi_modules.specs.Loaded.{AreLoaded, IsLoadedImage}
use Rattle.cfi_valid.specs.Course.{Course}
use Rattle.cfi_valid.specs.Growth.{AreUpTo}
use Rattle.cfi_valid.specs.Journal.{JournalState, members_of, live_in}
use Rattle.cfi_valid.specs.Loaded.{LoadedModule, Members, placed_modules, loaded_by, live_at, IsLoaded}
use Rattle.cfi_valid.specs.declared.retirement.Retirement.{Retirement}
use Rattle.cfi_valid.specs.declared.limits.TheConstants.{MAX_LOADED}

-- each load and each retirement since the start came with a policy of its own, in their order; no module was loaded
-- twice; what was retired had been loaded, and each retirement left one fewer live
pub record HavePolicies (plan : Plan) (s : JournalState) : Type 0 where
  pub count : starts plan.modules + s.policy ≡ length s.loaded + length s.retired
  pub starts : length (loaded_by 0 s.loaded) ≡ starts plan.modules
  pub rises : AllPairs (λ (a b : LoadedModule). a.policy ≤ b.policy) s.loaded
  pub upto : AreUpTo s
  pub once : AllPairs (λ (a b : LoadedModule). a.number ≢ b.number) s.loaded
  pub known : All (λ (r : Retirement). IsLoaded s.loaded r.number) s.retired
  pub live : length (live_in s) + length s.retired ≡ length s.loaded
  pub most : length s.loaded ≤ MAX_LOADED

-- a policy and an image that are or were in force: the image has the code of the modules that the policy finds loaded,
-- and the labels of those that are live under it
pub record IsPolicyOf (code_words : ℕ) (members : Members) (e : TableEntry) : Type 0 where
  pub modules : AreLoaded code_words (placed_modules (loaded_by e.policy members.loaded))
  pub image : IsLoadedImage code_words (placed_modules (loaded_by e.policy members.loaded))
      (placed_modules (live_at e.policy members)) e.image

-- an entry of a history of tables: its policy was in force in this course, with its image
pub record IsEntryOf (c : Course) (e : TableEntry) : Type 0 where
  pub most : e.policy ≤ c.end.policy
  pub is : IsPolicyOf c.plan.code_words (members_of c.end) e
