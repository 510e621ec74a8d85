-- The state to which the first lines of a journal lead, as it is kept.
use Rattle.cfi_ledger.specs.Roster.{IsRosterOf, loaded_in_roster}
use Rattle.cfi_plan.specs.declared.plan.Plan.{Plan}
use Rattle.cfi_valid.specs.Journal.{JournalState}
use Rattle.cfi_judge.specs.declared.reached.Reached.{Reached}

-- the state
abbrev pub state_of : Reached → JournalState
state_of r = record {
  epoch = r.epoch;
  policy = r.policy;
  loaded = loaded_in_roster r.roster;
  retired = r.roster.retired;
}

-- the modules stand in the code of the plan, with the line of a report each
abbrev pub StandsIn : Plan → Reached → Type 0
StandsIn plan r = IsRosterOf plan r.roster
