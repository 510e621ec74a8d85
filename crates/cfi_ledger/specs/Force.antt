-- What is in force, with the journal that leads to it: the loaded modules, the epoch and the policy.
use Rattle.std.specs.Prelude.{ℕ, ◌+◌, nat_le, length, filter}
use Rattle.cfi_plan.specs.declared.journal.ModuleLine.{ModuleLine}
use Rattle.cfi_plan.specs.declared.plan.Plan.{Plan}
use Rattle.cfi_valid.specs.Journal.{JournalState}
use Rattle.cfi_ledger.specs.declared.force.Force.{Force}
use Rattle.cfi_ledger.specs.Journal.{Minutes}
use Rattle.cfi_ledger.specs.Roster.{Roster, loaded_in_roster}

-- the state to which the journal leads
abbrev pub state_of : Force → JournalState
state_of f = record {
  epoch = f.epoch;
  policy = f.policy;
  loaded = loaded_in_roster f.roster;
  retired = f.roster.retired;
}

-- how many modules a policy finds loaded
abbrev pub count_by_policy : (policy : ℕ) → Roster → ℕ
count_by_policy policy roster = length (filter (λ (line : ModuleLine). nat_le line.policy policy) roster.lines)

-- before the first line of a plan
abbrev pub force_at : Plan → Roster → Minutes → Force
force_at plan roster journal = record { roster = roster; journal = journal; epoch = plan.first; policy = 0 }

-- a load or a retirement is in force: these are the modules, with the next epoch and the next policy
abbrev pub with_change : Roster → Minutes → Force → Force
with_change roster journal f =
    record { roster = roster; journal = journal; epoch = f.epoch + 1; policy = f.policy + 1 }

-- a refresh is, with the next epoch
abbrev pub with_refresh : Minutes → Force → Force
with_refresh journal f = record f { journal = journal; epoch = f.epoch + 1 }
