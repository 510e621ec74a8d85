-- Loaded modules: where each stands, under which policy it came, and which of them were retired. A module is told by its
-- number in the plan, a policy by its number, both from 0. Policy 0 has the modules that are there from the start.
use Rattle.std.specs.Prelude.{◌≡◌, ℕ, nat_le, nat_lt, ◌&&◌, ◌==◌, Bool, not, List, [], ◌++◌, map, slice_get, Contains, filter}
use Rattle.std.specs.List.{list_any}
use Rattle.std.specs.Option.{option_map_or}
use Rattle.cfi_unit.specs.declared.fill.Fill.{Fill}
use Rattle.cfi_aux.specs.declared.placed.Placed.{Placed}
use Rattle.cfi_graph.specs.Cell.{cells_of}
use Rattle.cfi_graph.specs.Direct.{Allowed}
use Rattle.cfi_plan.specs.declared.journal.ModuleLine.{ModuleLine}
use Rattle.cfi_plan.specs.declared.plan.PlanModule.{PlanModule}
use Rattle.cfi_modules.specs.Fills.{fills_of}
use Rattle.cfi_valid.specs.declared.retirement.Retirement.{Retirement}

-- a loaded module: its number, what placing made of it, and the policy that came with it
pub record LoadedModule : Type 0 where
  pub number : ℕ
  pub placed : Placed
  pub policy : ℕ

-- what placing made of them, in the order in which they were loaded
abbrev pub placed_modules : List LoadedModule → List Placed
placed_modules loaded = map (λ (l : LoadedModule). l.placed) loaded

-- those that a policy finds loaded: they came with it or before it
abbrev pub loaded_by : (policy : ℕ) → List LoadedModule → List LoadedModule
loaded_by policy loaded = filter (λ (l : LoadedModule). nat_le l.policy policy) loaded

-- the module of the number is loaded
abbrev pub IsLoaded : List LoadedModule → (number : ℕ) → Type 0
IsLoaded loaded number = (l : LoadedModule) × Contains loaded l × (l.number ≡ number)

-- ---- retired modules

-- the modules of a run: those that were loaded, in load order, and which of them were retired, in that order
pub record Members : Type 0 where
  pub loaded : List LoadedModule
  pub retired : List Retirement

-- the module of the number was retired with a policy or before it
abbrev pub is_retired_by : (policy number : ℕ) → List Retirement → Bool
is_retired_by policy number retired =
    list_any (λ (r : Retirement). r.number == number && nat_le r.policy policy) retired

-- a loaded module is live under a policy: it came with it or before it, and was not retired by then
abbrev pub is_live : (policy : ℕ) → List Retirement → LoadedModule → Bool
is_live policy retired l = nat_le l.policy policy && not (is_retired_by policy l.number retired)

-- those that are live under a policy, so that its edges are theirs
abbrev pub live_at : (policy : ℕ) → Members → List LoadedModule
live_at policy members = filter (is_live policy members.retired) members.loaded

-- which of the loaded modules are, by their places in load order
abbrev pub live_flags : (policy : ℕ) → Members → List Bool
live_flags policy members = map (is_live policy members.retired) members.loaded

-- a policy: a chain of direct edges of the modules that are live under it leads from the slot to the address
abbrev pub AllowedAt : Members → (policy slot address : ℕ) → Type 0
AllowedAt members policy slot address = Allowed (placed_modules (live_at policy members)) slot address

-- ---- what a guest is given

-- what becomes of the cells of late imports in a guest's data: a run fills them, and a simulation leaves there what the
-- modules have
pub data Cells : Type 0 where
  Filled : Cells
  Left : Cells

-- the cells of the modules that a policy finds loaded, with what their names mean among those that are live under it
abbrev pub cells_at : (policy : ℕ) → Members → List Fill
cells_at policy members =
    cells_of (placed_modules (live_at policy members)) (placed_modules (loaded_by policy members.loaded))

-- fills, and behind them the cells at a policy, where they are filled
abbrev pub with_cells : Cells → (policy : ℕ) → Members → List Fill → List Fill
with_cells Filled policy members fills = fills ++ cells_at policy members
with_cells Left policy members fills = fills

-- the data that came with the policies above one and up to another, in load order
abbrev pub data_between : (above upto : ℕ) → List LoadedModule → List Fill
data_between above upto loaded =
    fills_of (placed_modules (filter (λ (l : LoadedModule). nat_lt above l.policy && nat_le l.policy upto) loaded))

-- the data of the start modules
abbrev pub start_data : List LoadedModule → List Fill
start_data loaded = fills_of (placed_modules (loaded_by 0 loaded))

-- what a guest that has the data up to one policy is given by an open under another: the data that it lacks, and then
-- the cells
abbrev pub fills_between : Cells → (above upto : ℕ) → Members → List Fill
fills_between cells above upto members = with_cells cells upto members (data_between above upto members.loaded)

-- what it is given at its start
abbrev pub start_fills : Cells → Members → List Fill
start_fills cells members = with_cells cells 0 members (start_data members.loaded)

-- the name of a number
abbrev pub planned_name : List PlanModule → (number : ℕ) → List ℕ
planned_name named number = option_map_or (λ (one : PlanModule). one.name) (slice_get named number) []

-- what a report says of a loaded module
abbrev pub module_line_of : List PlanModule → LoadedModule → ModuleLine
module_line_of named l = record {
  number = l.number;
  name = planned_name named l.number;
  base = l.placed.base;
  slot = l.placed.slot_base;
  data_base = l.placed.data_base;
  policy = l.policy;
}
