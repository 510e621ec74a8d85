-- The modules of a report, as its plan and those lines of its journal tell of them that say that a module was loaded or
-- retired. No other line is looked at, nor whether these are legal.
use Rattle.std.specs.Prelude.{◌≡◌, ℕ, ◌+◌, ◌<◌, ◌==◌, not, List, [], ◌∷◌, ◌++◌, length, map, flat_map, filter, replicate, take, slice_get, Some}
use Rattle.std.specs.List.{list_any}
use Rattle.cfi_aux.specs.declared.modules.Module.{Module}
use Rattle.cfi_plan.specs.declared.journal.Entry.{Entry}
use Rattle.cfi_plan.specs.declared.journal.JournalLine.{JournalLine}
use Rattle.cfi_plan.specs.declared.journal.JournalLine.TheVariants.{LoadOk, LoadAgain, LoadFull, LoadPlace, LoadVerify, LoadVersions, LoadEpochs, LoadRetired, RefreshOk, RefreshVersions, RefreshEpochs, RetireOk, RetireNotLive, RetireInUse, RetireVersions, RetireEpochs}
use Rattle.cfi_plan.specs.declared.plan.Plan.{Plan}
use Rattle.cfi_report.specs.declared.report.Report.{Report}
use Rattle.cfi_modules.specs.Order.{IsPlacedBehind, Joins}
use Rattle.cfi_valid.specs.Journal.{starts_from, modules_at}
use Rattle.cfi_valid.specs.Kept.{Origin}
use Rattle.cfi_valid.specs.Loaded.{LoadedModule, placed_modules, module_line_of}

-- ---- which they are

-- a start module comes with policy 0
abbrev pub start_origin : (number : ℕ) → Origin
start_origin number = record { number = number; policy = 0 }

-- where the start modules come from, in plan order
abbrev pub start_origins : Plan → List Origin
start_origins plan = map start_origin (starts_from 0 plan.modules)

-- the module that a line says was loaded, with the policy that came with it: a case a line
abbrev pub origins_in : JournalLine → List Origin
origins_in (LoadOk number epoch policy) = record { number = number; policy = policy } ∷ []
origins_in (LoadAgain number policy) = []
origins_in (LoadFull number) = []
origins_in (LoadPlace number fault) = []
origins_in (LoadVerify number fault place) = []
origins_in (LoadVersions number guest quiet) = []
origins_in (LoadEpochs number) = []
origins_in (LoadRetired number) = []
origins_in (RefreshOk epoch) = []
origins_in (RefreshVersions guest quiet) = []
origins_in RefreshEpochs = []
origins_in (RetireOk number epoch policy) = []
origins_in (RetireNotLive number) = []
origins_in (RetireInUse number user) = []
origins_in (RetireVersions number guest quiet) = []
origins_in (RetireEpochs number) = []

-- where those come from that the journal says were loaded
abbrev pub told_origins : (journal : List Entry) → List Origin
told_origins journal = flat_map (λ (e : Entry). origins_in e.what) journal

-- the module that a line says was retired, by its number: a case a line
abbrev pub gone_in : JournalLine → List ℕ
gone_in (LoadOk number epoch policy) = []
gone_in (LoadAgain number policy) = []
gone_in (LoadFull number) = []
gone_in (LoadPlace number fault) = []
gone_in (LoadVerify number fault place) = []
gone_in (LoadVersions number guest quiet) = []
gone_in (LoadEpochs number) = []
gone_in (LoadRetired number) = []
gone_in (RefreshOk epoch) = []
gone_in (RefreshVersions guest quiet) = []
gone_in RefreshEpochs = []
gone_in (RetireOk number epoch policy) = number ∷ []
gone_in (RetireNotLive number) = []
gone_in (RetireInUse number user) = []
gone_in (RetireVersions number guest quiet) = []
gone_in (RetireEpochs number) = []

-- for each module that the journal says was loaded, the numbers of those that it says were retired before, where these
-- were by then
abbrev pub gone_before : (gone : List ℕ) → (journal : List Entry) → List (List ℕ)
gone_before gone [] = []
gone_before gone (entry ∷ later) =
    replicate (length (origins_in entry.what)) gone ++ gone_before (gone ++ gone_in entry.what) later

-- where a loaded module comes from
abbrev pub origin_of : LoadedModule → Origin
origin_of l = record { number = l.number; policy = l.policy }

-- the number that a loaded module has in the plan
abbrev pub number_of : LoadedModule → ℕ
number_of l = l.number

-- ---- where they stand

-- the modules whose numbers are none of these
abbrev pub without : (gone : List ℕ) → List LoadedModule → List LoadedModule
without gone loaded = filter (λ (l : LoadedModule). not (list_any (λ number. number == l.number) gone)) loaded

-- so many first modules join those before them, so that they verify too; each other one is placed behind those before
-- it, with the names that those of them export that are not gone
pub record ArePlaced (code_words starts : ℕ) (modules : List Module) (gone : List (List ℕ))
    (loaded : List LoadedModule) : Type 0 where
  pub count : length loaded ≡ length modules
  pub starts_join : (k : ℕ) (m : Module) (l : LoadedModule) → k < starts → slice_get modules k ≡ Some m
      → slice_get loaded k ≡ Some l
      → Joins code_words (placed_modules (take k loaded)) (placed_modules (take k loaded)) m l.placed
  pub behind : (k : ℕ) (m : Module) (l : LoadedModule) (numbers : List ℕ) → slice_get modules (starts + k) ≡ Some m
      → slice_get loaded (starts + k) ≡ Some l → slice_get gone k ≡ Some numbers
      → IsPlacedBehind code_words (placed_modules (take (starts + k) loaded))
      (placed_modules (without numbers (take (starts + k) loaded))) m l.placed

-- the start modules in plan order, and then one for each line that says so, in the order of the lines; each stands at
-- the next free place, and the report has a line for each
pub record HasModules (plan : Plan) (modules : List Module) (report : Report) (loaded : List LoadedModule)
    : Type 0 where
  pub origins : map origin_of loaded ≡ start_origins plan ++ told_origins report.journal
  pub places : ArePlaced plan.code_words (length (starts_from 0 plan.modules))
      (modules_at modules (map number_of loaded)) (gone_before [] report.journal) loaded
  pub lines : report.modules ≡ map (module_line_of plan.modules) loaded
