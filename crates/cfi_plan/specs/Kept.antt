-- What the code keeps beside a draft: the number of each module by its name, and the sums that are limited.
use Rattle.std.specs.Prelude.{◌≡◌, ◌≤◌, ℕ, List}
use Rattle.std.specs.BTreeMap.{get_by_text}
use Rattle.cfi_plan.specs.declared.draft.Draft.TheInside.{Inside}
use Rattle.cfi_plan.specs.Draft.{PlanSoFar, module_of, starts, refreshes}
use Rattle.cfi_word.specs.declared.limits.TheConstants.{MAX_STARTS, MAX_REFRESHES}

-- the draft without what is kept beside it
abbrev pub view_of : Inside → PlanSoFar
view_of a = record {
  code = a.code;
  versions = a.versions;
  first = a.first;
  fuel = a.fuel;
  modules = a.modules.items;
  guests = a.guests.items;
  script = a.script.items;
}

-- what is kept agrees with the draft, and is within the limits
pub record IsKept (a : Inside) : Type 0 where
  pub names : (name : List ℕ) → get_by_text a.names name ≡ module_of a.modules.items name
  pub starts_counted : a.starts ≡ starts a.modules.items
  pub refreshes_counted : a.refreshes ≡ refreshes a.script.items
  pub starts_within : a.starts ≤ MAX_STARTS
  pub refreshes_within : a.refreshes ≤ MAX_REFRESHES
