-- What serving a guest makes of it, and of what its pass has seen.
use Rattle.std.specs.Prelude.{◌≡◌, ℕ, List, Option, Some, None}
use mathlib.Core.List.{IsPrefix}
use Rattle.cfi_aux.specs.declared.modules.Module.{Module}
use Rattle.cfi_loader.specs.Ledger.{Ledger, IsLedger}
use Rattle.cfi_loader.specs.declared.fault.LoadFault.{LoadFault}
use Rattle.cfi_loader.specs.declared.fault.LoadFault.TheVariants.{Retired, ModulesFull, Place, Verify, EpochsSpent, VersionsSpent, Memory}
use Rattle.cfi_model.specs.Raw.{Raw}
use Rattle.cfi_model.specs.Run.{serve_of}
use Rattle.cfi_model.specs.Service.{Reply}
use Rattle.cfi_plan.specs.declared.plan.Plan.{Plan}
use Rattle.cfi_tables.specs.Key.{Key}
use Rattle.cfi_tables.specs.Rule.{AgreesWith}
use Rattle.cfi_tables.specs.Views.{noted}
use Rattle.cfi_tables.specs.declared.view.PassView.{PassView}
use Rattle.cfi_valid.specs.declared.causes.TheConstants as causes

-- a loader has told a pass all that its keeper has seen
pub record IsPassTold (k : Key) (plan : Plan) (modules : List Module) (l : Ledger) (old new : PassView) : Type 0 where
  pub ledger : IsLedger k plan modules l
  pub agrees : AgreesWith k l.keeping.entries l.keeping.refusals old.sight
  pub is : new ≡ noted k l.keeping old

-- the cause with which an open is answered whose load was refused; want of memory leaves it unanswered
abbrev pub cause_by : LoadFault → Option ℕ
cause_by Memory = None
cause_by Retired = Some causes.RETIRED
cause_by ModulesFull = Some causes.MODULES_FULL
cause_by (Place fault) = Some causes.NOT_PLACED
cause_by (Verify fault) = Some causes.NOT_VERIFIED
cause_by (VersionsSpent guest quiet) = Some causes.VERSIONS_SPENT
cause_by EpochsSpent = Some causes.EPOCHS_SPENT

-- a pass goes on: it is of the same guest, and has loaded what it had, or more
pub record KeepsPass (old new : PassView) : Type 0 where
  pub guest : new.guest ≡ old.guest
  pub accesses : IsPrefix old.sight.accesses new.sight.accesses

-- the guest's service has ended, an open's with some answer
pub record HasServed (old new : Raw) : Type 0 where
  pub reply : Reply
  pub is : new ≡ serve_of old reply
