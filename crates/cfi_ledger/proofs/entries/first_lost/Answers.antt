use Rattle.std.proofs.Common.{List, ℕ, length, ap, arith}
use Rattle.cfi_ledger.proofs.EnterLemmas.{first_out, enter_next, all_enter}
use Rattle.cfi_ledger.proofs.entries.first_lost.Goals as goal

pub overflow_cast-result : goal.overflow_cast-result
overflow_cast-result c =
    let many = ap (λ (gs : List (List ℕ)). length gs) c.as_slice-entry-items.ensures in
    omega (arith, c.loop-number-test.true, many, c.requires.few)

pub returns-in-None-clause-some : goal.returns-in-None-clause-some
returns-in-None-clause-some c =
    first_out c.args.plan.now c.args.starts.now c.as_slice-entry-items.result.now c.as_slice-entry-items.ensures
    c.loop-number.number c.entry-item.result c.loop-number-test.true c.entry-item.is c.loop-number.invariant
    c.as_str.result.now c.as_str.ensures c.in-None.ensures.only

pub loop-number-preserved : goal.loop-number-preserved
loop-number-preserved c =
    enter_next c.args.plan.now c.args.starts.now c.as_slice-entry-items.result.now c.as_slice-entry-items.ensures
    c.loop-number.number c.entry-item.result c.loop-number-test.true c.entry-item.is c.loop-number.invariant
    c.as_str.result.now c.as_str.ensures c.in-Some.field-0 c.in-Some.ensures.some

pub returns-clause-none : goal.returns-clause-none
returns-clause-none c =
    let many = ap (λ (gs : List (List ℕ)). length gs) c.as_slice-entry-items.ensures in
    all_enter c.args.plan.now c.args.starts.now c.loop-number.number
    (omega (arith, c.loop-number-test.false, many)) c.loop-number.invariant
