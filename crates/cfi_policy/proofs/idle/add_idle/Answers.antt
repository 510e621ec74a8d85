use Rattle.std.proofs.Common.{◌∙◌, ◌+◌, sym, ap, subst}
use Rattle.cfi_policy.specs.inner.Idle.{AddsIdle}
use Rattle.cfi_policy.proofs.IdleLemmas.{branch_passed, branch_added}
use Rattle.cfi_policy.proofs.idle.add_idle.Goals as goal
use Rattle.cfi_policy.proofs.idle.add_idle.Goals.{then-bary-slot-eq-FIELD_MAX+in_ok-push, else-bary-slot-eq-FIELD_MAX}

-- this turn's branch is added where it has no class
pub loop-number-preserved : goal.loop-number-preserved
loop-number-preserved c =
    let base = c.args.placed.now.slot_base in
    let number = c.loop-number.number in
    let bary = c.args.bary.now in
    let old = c.args.idle.now.items in
    let mid = c.loop-number.idle.items in
    elim c.if-bary-slot-eq-FIELD_MAX.branch [
      | then-bary-slot-eq-FIELD_MAX+in_ok-push w ↦
          subst (AddsIdle base (number + 1) bary old)
          (sym (ap (λ v. v.items) w.idle-is ∙ w.in_ok-push.ensures.items))
          (branch_added base number bary old mid c.loop-number.invariant w.if-bary-slot-eq-FIELD_MAX.true)
      | else-bary-slot-eq-FIELD_MAX w ↦
          subst (AddsIdle base (number + 1) bary old) (sym (ap (λ v. v.items) w.idle-is))
          (branch_passed base number bary old mid c.loop-number.invariant w.if-bary-slot-eq-FIELD_MAX.false)
    ]
