-- A plan as far as its lines have been read: each line adds to it, says again what stands (Syntax), or passes a limit.
use Rattle.std.specs.Prelude.{◌≡◌, ℕ, ◌+◌, Bool, true, false, ◌&&◌, ◌==◌, ◌%◌, nat_le, nat_lt, List, [], ◌∷◌, ◌++◌, length, sum_by, position, if◌then◌else◌, Option, Some, None, is_some, is_none, unwrap_or, Result, Ok, Err}
use Rattle.std.specs.Str.{bytes_eq}
use Rattle.cfi_plan.specs.declared.line.Line.{Line}
use Rattle.cfi_plan.specs.declared.line.Line.TheVariants.{Blank, Code, Versions, Epoch, Fuel, Module, Guest, Load, Retire, Refresh}
use Rattle.cfi_plan.specs.declared.plan.Plan.{Plan}
use Rattle.cfi_plan.specs.declared.plan.PlanModule.{PlanModule}
use Rattle.cfi_plan.specs.declared.plan.ScriptLine.{ScriptLine}
use Rattle.cfi_plan.specs.declared.plan.ScriptLine.TheVariants as script
use Rattle.cfi_plan.specs.declared.fault.PlanFault.{PlanFault}
use Rattle.cfi_plan.specs.declared.fault.PlanFault.TheVariants.{Syntax, Limit, NoGuest, Memory}
use Rattle.cfi_word.specs.declared.limits.TheConstants.{MIN_CODE_WORDS, MAX_CODE_WORDS, MIN_VERSIONS, MAX_VERSIONS, MAX_EPOCH, MAX_FUEL, FUEL, MAX_MODULES, MAX_STARTS, GUESTS, MAX_SCRIPT, MAX_REFRESHES}

-- what the lines have said
pub record PlanSoFar : Type 0 where
  pub code : Option ℕ
  pub versions : Option ℕ
  pub first : Option ℕ
  pub fuel : Option ℕ
  pub modules : List PlanModule
  pub guests : List (List ℕ)
  pub script : List ScriptLine

-- before any line
abbrev pub empty : PlanSoFar
empty = record { code = None; versions = None; first = None; fuel = None; modules = []; guests = []; script = [] }

-- the number of the module with this name
abbrev pub module_of : (modules : List PlanModule) → (name : List ℕ) → Option ℕ
module_of modules name = position (λ (one : PlanModule). bytes_eq one.name name) modules

-- 1 for a module that is there from the start
abbrev pub one_if : Bool → ℕ
one_if start = if start then 1 else 0

-- how many modules are there from the start
abbrev pub starts : (modules : List PlanModule) → ℕ
starts modules = sum_by (λ (one : PlanModule). one_if one.start) modules

-- how many refreshes a line of the script makes, and the script
abbrev pub refreshes_of : ScriptLine → ℕ
refreshes_of (script.Load number) = 0
refreshes_of (script.Retire number) = 0
refreshes_of (script.Refresh count) = count

-- how many refreshes the lines ask for in all
abbrev pub refreshes : (lines : List ScriptLine) → ℕ
refreshes lines = sum_by refreshes_of lines

-- no guest is there
abbrev pub is_empty : List (List ℕ) → Bool
is_empty [] = true
is_empty (guest ∷ guests) = false

-- the line says again what stands, or names no module
abbrev pub is_astray : PlanSoFar → Line → Bool
is_astray draft Blank = false
is_astray draft (Code number) = is_some draft.code
is_astray draft (Versions number) = is_some draft.versions
is_astray draft (Epoch number) = is_some draft.first
is_astray draft (Fuel number) = is_some draft.fuel
is_astray draft (Module one) = is_some (module_of draft.modules one.name)
is_astray draft (Guest entry) = false
is_astray draft (Load name) = is_none (module_of draft.modules name)
is_astray draft (Retire name) = is_none (module_of draft.modules name)
is_astray draft (Refresh count) = false

-- the line is within the limits
abbrev pub is_within : PlanSoFar → Line → Bool
is_within draft Blank = true
is_within draft (Code number) =
    number % MIN_CODE_WORDS == 0 && nat_le MIN_CODE_WORDS number && nat_le number MAX_CODE_WORDS
is_within draft (Versions number) = nat_le MIN_VERSIONS number && nat_le number MAX_VERSIONS
is_within draft (Epoch number) = nat_le number MAX_EPOCH
is_within draft (Fuel number) = nat_le 1 number && nat_le number MAX_FUEL
is_within draft (Module one) = nat_lt (length draft.modules) MAX_MODULES
    && nat_le (starts draft.modules + one_if one.start) MAX_STARTS
is_within draft (Guest entry) = nat_lt (length draft.guests) GUESTS
is_within draft (Load name) = nat_lt (length draft.script) MAX_SCRIPT
is_within draft (Retire name) = nat_lt (length draft.script) MAX_SCRIPT
is_within draft (Refresh count) =
    nat_lt (length draft.script) MAX_SCRIPT && nat_le (refreshes draft.script + count) MAX_REFRESHES

-- the draft with the line
abbrev pub with_line : PlanSoFar → Line → PlanSoFar
with_line draft Blank = draft
with_line draft (Code number) = record draft { code = Some number }
with_line draft (Versions number) = record draft { versions = Some number }
with_line draft (Epoch number) = record draft { first = Some number }
with_line draft (Fuel number) = record draft { fuel = Some number }
with_line draft (Module one) = record draft { modules = draft.modules ++ one ∷ [] }
with_line draft (Guest entry) = record draft { guests = draft.guests ++ entry ∷ [] }
with_line draft (Load name) = record draft {
  script = draft.script ++ script.Load (unwrap_or (module_of draft.modules name) 0) ∷ [];
}
with_line draft (Retire name) = record draft {
  script = draft.script ++ script.Retire (unwrap_or (module_of draft.modules name) 0) ∷ [];
}
with_line draft (Refresh count) = record draft { script = draft.script ++ script.Refresh count ∷ [] }

-- what comes of the line of this number
abbrev pub taken : (number : ℕ) → PlanSoFar → Line → Result PlanSoFar PlanFault
taken number draft line =
    if is_astray draft line then Err (Syntax number)
    else (if is_within draft line then Ok (with_line draft line) else Err (Limit number))

-- the plan that the lines have said, if one was a guest
abbrev pub plan_of : PlanSoFar → Result Plan PlanFault
plan_of draft = if is_empty draft.guests then Err NoGuest else Ok (record {
  code_words = unwrap_or draft.code MAX_CODE_WORDS;
  versions = unwrap_or draft.versions MAX_VERSIONS;
  first = unwrap_or draft.first 0;
  fuel = unwrap_or draft.fuel FUEL;
  modules = draft.modules;
  guests = draft.guests;
  script = draft.script;
})

-- a call that failed gave the fault that is due, unless memory ran out
abbrev pub Fails : {Y : Type 0} → PlanFault → (due : Result Y PlanFault) → Type 0
Fails Memory due = Unit {0}
Fails (Syntax number) due = due ≡ Err (Syntax number)
Fails (Limit number) due = due ≡ Err (Limit number)
Fails NoGuest due = due ≡ Err NoGuest
