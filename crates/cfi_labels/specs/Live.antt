-- Which modules of a roster are live under a policy, by their lines.
use Rattle.std.specs.Prelude.{ℕ, nat_le, ◌&&◌, not, Bool, List}
use Rattle.cfi_plan.specs.declared.journal.ModuleLine.{ModuleLine}
use Rattle.cfi_valid.specs.Loaded.{is_retired_by}
use Rattle.cfi_valid.specs.declared.retirement.Retirement.{Retirement}

-- the module of a line is live under the policy
abbrev pub is_live_line : (policy : ℕ) → List Retirement → ModuleLine → Bool
is_live_line policy retired line = nat_le line.policy policy && not (is_retired_by policy line.number retired)
