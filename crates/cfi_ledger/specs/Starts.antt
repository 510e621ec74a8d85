-- Start modules as far as they have been placed.
use Rattle.std.specs.Prelude.{◌≡◌, ℕ, List, [], map, take, All}
use Rattle.cfi_aux.specs.declared.modules.Module.{Module}
use Rattle.cfi_plan.specs.declared.plan.Plan.{Plan}
use Rattle.cfi_modules.specs.Order.{AreInOrder}
use Rattle.cfi_modules.specs.Series.{AreAllLive}
use Rattle.cfi_modules.specs.declared.fault.JoinFault.{JoinFault}
use Rattle.cfi_modules.specs.declared.fault.JoinFault.TheVariants as joins
use Rattle.cfi_valid.specs.Journal.{JournalState, starts_from, modules_at}
use Rattle.cfi_valid.specs.Loaded.{LoadedModule}
use Rattle.cfi_ledger.specs.declared.fault.OpenFault.TheVariants.{Place, Verify}
use Rattle.cfi_ledger.specs.declared.fault.StartFault.{StartFault}
use Rattle.cfi_ledger.specs.declared.fault.StartFault.TheVariants.{Open, Memory}
use Rattle.cfi_ledger.specs.Roster.{Roster, IsRosterOf, loaded_in_roster, series_of}

-- of the first so many modules of the plan, those of the start
pub record AreStarted (plan : Plan) (modules : List Module) (number : ℕ) (r : Roster) : Type 0 where
  pub roster_is : IsRosterOf plan r
  pub starts : map (λ (l : LoadedModule). l.number) (loaded_in_roster r) ≡ starts_from 0 (take number plan.modules)
  pub policies : All (λ (l : LoadedModule). l.policy ≡ 0) (loaded_in_roster r)
  pub live : AreAllLive (series_of r)
  pub stay : r.retired ≡ []
  pub order : AreInOrder plan.code_words (modules_at modules (starts_from 0 (take number plan.modules))) r.placed

-- the state of the opening
abbrev pub opened_state : Plan → Roster → JournalState
opened_state plan r =
    record { epoch = plan.first; policy = 0; loaded = loaded_in_roster r; retired = r.retired }

-- the fault of the module of a number
abbrev pub start_fault_of : (number : ℕ) → JoinFault → StartFault
start_fault_of number (joins.Place fault) = Open (Place number fault)
start_fault_of number (joins.Verify fault) = Open (Verify number fault)
start_fault_of number joins.Memory = Memory
