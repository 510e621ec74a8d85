-- What holds of each plan that is read, and is asked of each plan that a call takes: it is within the limits, its
-- modules differ in name, its names are names, and its script loads and retires modules that are there.
use Rattle.std.specs.Prelude.{◌≡◌, ◌≢◌, ℕ, ◌<◌, ◌≤◌, true, List, length, All, AllPairs}
use Rattle.cfi_plan.specs.declared.plan.Plan.{Plan}
use Rattle.cfi_plan.specs.declared.plan.PlanModule.{PlanModule}
use Rattle.cfi_plan.specs.declared.plan.ScriptLine.{ScriptLine}
use Rattle.cfi_plan.specs.declared.plan.ScriptLine.TheVariants.{Load, Retire, Refresh}
use Rattle.cfi_word.specs.declared.limits.TheConstants.{MIN_VERSIONS, MAX_VERSIONS, MAX_EPOCH, MAX_FUEL, MAX_MODULES, MAX_STARTS, GUESTS, MAX_SCRIPT, MAX_REFRESHES}
use Rattle.cfi_word.specs.Table.{IsSize}
use Rattle.cfi_plan.specs.Draft.{starts, refreshes}
use Rattle.cfi_text.specs.Names.{is_name, is_file}

-- a number of versions
abbrev pub IsVersions : (number : ℕ) → Type 0
IsVersions number = (MIN_VERSIONS ≤ number) × (number ≤ MAX_VERSIONS)

-- the fuel of a guest
abbrev pub IsFuel : (number : ℕ) → Type 0
IsFuel number = (1 ≤ number) × (number ≤ MAX_FUEL)

-- a module has a name and a file
abbrev pub IsNamed : PlanModule → Type 0
IsNamed one = (is_name one.name ≡ true) × (is_file one.file ≡ true)

-- two modules have different names
abbrev pub HaveOtherNames : PlanModule → PlanModule → Type 0
HaveOtherNames one other = one.name ≢ other.name

-- the modules of a plan
pub record AreModules (modules : List PlanModule) : Type 0 where
  pub most : length modules ≤ MAX_MODULES
  pub most_starts : starts modules ≤ MAX_STARTS
  pub named : All IsNamed modules
  pub apart : AllPairs HaveOtherNames modules

-- the entries of guests
pub record AreGuests (guests : List (List ℕ)) : Type 0 where
  pub most : length guests ≤ GUESTS
  pub named : All (λ entry. is_name entry ≡ true) guests

-- a line of a script over this many modules
abbrev pub IsScriptLine : (modules : ℕ) → ScriptLine → Type 0
IsScriptLine modules (Load number) = number < modules
IsScriptLine modules (Retire number) = number < modules
IsScriptLine modules (Refresh count) = 1 ≤ count

-- a script over this many modules
pub record IsScript (modules : ℕ) (script : List ScriptLine) : Type 0 where
  pub most : length script ≤ MAX_SCRIPT
  pub most_refreshes : refreshes script ≤ MAX_REFRESHES
  pub lines : All (IsScriptLine modules) script

-- a plan within the limits
pub record IsPlan (plan : Plan) : Type 0 where
  pub code_words : IsSize plan.code_words
  pub versions : IsVersions plan.versions
  pub first : plan.first ≤ MAX_EPOCH
  pub fuel : IsFuel plan.fuel
  pub modules : AreModules plan.modules
  pub guests : AreGuests plan.guests
  pub some_guest : 0 < length plan.guests
  pub script : IsScript (length plan.modules) plan.script
