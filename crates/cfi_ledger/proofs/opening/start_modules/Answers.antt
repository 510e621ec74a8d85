use Rattle.std.proofs.Common.{◌≢◌, ◌+◌, ◌<◌, ℕ, List, length, get_or, Some, ap, sym, subst, ◌∙◌, arith}
use Rattle.std.proofs.lemmas.Option.{slice_get-get_or}
use Rattle.cfi_aux.specs.declared.modules.Module.{Module}
use Rattle.cfi_plan.specs.declared.plan.PlanModule.{PlanModule}
use Rattle.cfi_ledger.specs.Opening.{IsStartFault}
use Rattle.cfi_ledger.specs.declared.fault.OpenFault.TheVariants.{NoEntry}
use Rattle.cfi_ledger.specs.declared.fault.StartFault.{StartFault}
use Rattle.cfi_ledger.specs.declared.fault.StartFault.TheVariants.{Open}
use Rattle.cfi_ledger.specs.Roster.{HasJoined}
use Rattle.cfi_ledger.specs.Starts.{AreStarted}
use Rattle.cfi_ledger.proofs.StartLemmas.{never_lost, started_same, started_more, started_fault}
use Rattle.cfi_ledger.proofs.opening.start_modules.Goals as goal
use Rattle.cfi_ledger.proofs.opening.start_modules.Goals.{then-one+in-Ok, else-one}

-- the module is the first that does not join
pub returns-in-Err-clause-fault : goal.returns-in-Err-clause-fault
returns-in-Err-clause-fault c =
    let plan = c.args.plan.now in
    let modules = c.args.modules.now in
    let n = c.loop-number.number in
    let one = c.one-item.result in
    let all = c.as_slice-one-items.ensures in
    let unplaced = c.index-modules-number.result in
    let within = subst (λ (ms : List PlanModule). n < length ms) all c.loop-number-test.true in
    let is = c.one-item.is ∙ ap (λ (ms : List PlanModule). get_or ms n one) all in
    let there = slice_get-get_or modules n unplaced (omega (arith, within, c.requires.can.count))
    ∙ ap (λ (m : Module). Some m) (sym c.index-modules-number.is) in
    subst (IsStartFault plan modules) (sym c.start_fault_of.ensures)
    (started_fault plan modules n one within is c.loop-number.roster c.loop-number.invariant c.if-one.true unplaced
    there c.in-Err.fault c.in-Err.ensures.fault)

-- its fault is not that of a guest
pub returns-in-Err-clause-found : goal.returns-in-Err-clause-found
returns-in-Err-clause-found c = λ guest.
    subst (λ (fault : StartFault). fault ≢ Open (NoEntry guest)) (sym c.start_fault_of.ensures)
    (never_lost c.loop-number.number c.in-Err.fault guest)

-- one module more
pub loop-number-preserved : goal.loop-number-preserved
loop-number-preserved c =
    let plan = c.args.plan.now in
    let modules = c.args.modules.now in
    let n = c.loop-number.number in
    let one = c.one-item.result in
    let all = c.as_slice-one-items.ensures in
    let within = subst (λ (ms : List PlanModule). n < length ms) all c.loop-number-test.true in
    let is = c.one-item.is ∙ ap (λ (ms : List PlanModule). get_or ms n one) all in
    elim c.if-one.branch [
      | then-one+in-Ok w ↦
          let unplaced = w.index-modules-number.result in
          let there = slice_get-get_or modules n unplaced (omega (arith, within, c.requires.can.count))
          ∙ ap (λ (m : Module). Some m) (sym w.index-modules-number.is) in
          let joined = subst (λ (name : List ℕ). HasJoined n name 0 unplaced c.loop-number.roster w.in-Ok.roster)
          w.as_str.ensures w.in-Ok.ensures.ok in
          subst (AreStarted plan modules (n + 1)) (sym w.roster-is)
          (started_more plan modules n one within is c.loop-number.roster c.loop-number.invariant w.if-one.true unplaced
          there w.in-Ok.roster joined)
      | else-one w ↦
          subst (AreStarted plan modules (n + 1)) (sym w.roster-is)
          (started_same plan modules n one within is c.loop-number.roster c.loop-number.invariant w.if-one.false)
    ]
