-- How what a runner keeps goes on.
use Rattle.std.specs.Prelude.{◌≡◌, ◌≢◌, ℕ, ◌<◌, ◌≤◌, false, List, slice_get, Some, None}
use mathlib.Core.List.{IsPrefix}
use Rattle.cfi_aux.specs.declared.modules.Module.{Module}
use Rattle.cfi_model.specs.Raw.{Raw}
use Rattle.cfi_model.specs.Run.{Served, serve_of}
use Rattle.cfi_model.specs.Service.{Reply}
use Rattle.cfi_plan.specs.declared.plan.Plan.{Plan}
use Rattle.cfi_runner.specs.Run.{CanRunOn, HasRunOn}
use Rattle.cfi_runner.specs.Laws.{MayServe}
use Rattle.cfi_runner.specs.Seen.{IsSight, policy_seen}
use Rattle.cfi_runner.specs.declared.pause.Pause.{Pause}
use Rattle.cfi_loader.specs.Ledger.{Ledger, IsLedger}
use Rattle.cfi_guest_part.specs.Part.{part_of}
use Rattle.cfi_tables.specs.Key.{Key}
use Rattle.cfi_tables.specs.Loads.{IsQuiet}
use Rattle.cfi_tables.specs.Rule.{AgreesWith}
use Rattle.cfi_tables.specs.declared.view.PassView.{PassView}
use Rattle.cfi_tables.specs.declared.view.Sight.{Sight}
use Rattle.cfi_unit.specs.declared.log.Log.{Log}
use Rattle.cfi_valid.specs.Growth.{IsLater}
use Rattle.cfi_valid.specs.Log.{IsLogged}
use Rattle.cfi_word.specs.declared.limits.TheConstants.{GUESTS}
use Rattle.cfi_guest_run.specs.Ending.{IsPartAt}
use Rattle.cfi_guest_run.specs.Path.{IsDueWith}
use Rattle.cfi_guest_run.specs.Runner.{HasAsked, HasEnded, IsRunner, IsRunnerBy, SeesOn}
use Rattle.cfi_guest_run.specs.Settled.{FitsSettled, IsSettled}

-- a run of the guest over its pass
abbrev pub RunsKeep : Type 0
RunsKeep =
    (k : Key) (plan : Plan) (modules : List Module) (p q : PassView) (old new : Raw) (pause : Pause) →
    CanRunOn k plan.fuel p old → HasRunOn k plan.fuel p q old new pause → IsRunner k plan modules p old →
    IsRunner k plan modules q new

-- what a guest has logged fits each later ledger, whose policy is not below what its pass has seen in force
abbrev pub LogsLast : Type 0
LogsLast =
    (k : Key) (plan : Plan) (modules : List Module) (l m : Ledger) → IsLedger k plan modules l →
    IsLedger k plan modules m → IsPrefix l.keeping.entries m.keeping.entries →
    IsPrefix l.keeping.refusals m.keeping.refusals → (guest : ℕ) → guest < GUESTS → (s : Sight) (log : List Log) →
    FitsSettled k s guest l log → policy_seen k s ≤ m.course.end.policy → IsLogged m.course guest log

-- a runner is one with all that its pass sees later, where one that runs is not parked
abbrev pub SightsKeep : Type 0
SightsKeep =
    (k : Key) (plan : Plan) (modules : List Module) (p q : PassView) (r : Raw) → SeesOn k p q → IsSight k p.sight →
    (r.base.stop ≡ None → r.waits ≡ None → q.parked ≡ false) → IsRunner k plan modules p r → IsRunner k plan modules q r

-- what it keeps is kept by a service, whose answer the log fits over a ledger that its pass has settled by then
abbrev pub ServicesKeep : Type 0
ServicesKeep =
    (k : Key) (plan : Plan) (modules : List Module) (q n : PassView) (r : Raw) (number : ℕ) →
    HasAsked k plan.fuel q r number → SeesOn k q n → (l m : Ledger) → IsRunnerBy k plan modules q r l →
    IsSettled k plan modules n.sight m → IsLater l.course.end m.course.end → (reply : Reply) →
    MayServe k n.sight number reply r → IsDueWith m.course.end r (Served reply) →
    FitsSettled k n.sight n.guest m (serve_of r reply).base.log → HasEnded k plan modules n (serve_of r reply) m

-- and the quiescent point that comes straight behind leaves a runner
abbrev pub PointsKeep : Type 0
PointsKeep =
    (k : Key) (plan : Plan) (modules : List Module) (p q : PassView) (r : Raw) (l : Ledger) →
    HasEnded k plan modules p r l → r.waits ≡ None → (epoch : ℕ) → IsQuiet k epoch p q → IsRunner k plan modules q r

-- where a ledger agrees with what a pass has seen, the part of its guest, which has stopped, is valid for the ledger's
-- course, and tells how the guest has run over the whole history
abbrev pub RunnersMakeParts : Type 0
RunnersMakeParts =
    (k : Key) (plan : Plan) (modules : List Module) (l : Ledger) → IsLedger k plan modules l →
    (p : PassView) (r : Raw) → IsRunner k plan modules p r →
    AgreesWith k l.keeping.entries l.keeping.refusals p.sight → r.base.stop ≢ None →
    (entry : List ℕ) → slice_get plan.guests p.guest ≡ Some entry →
    IsPartAt k l p.guest (part_of p.guest entry r)
