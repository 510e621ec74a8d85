use Rattle.std.proofs.Common.{◌≡◌, length, subst, subst₂, ℕ, arith}
use Rattle.cfi_instr.specs.inner.Ends.{Raises}
use Rattle.cfi_instr.proofs.EndLemmas.{AreRaised, raised-next, ends-are}
use Rattle.cfi_instr.proofs.ends.ends_of.Goals as goal

pub loop-function-preserved : goal.loop-function-preserved
loop-function-preserved c =
    let n = c.loop-function.function-index in
    raised-next c.args.functions.now c.args.count n c.loop-function.ends.items c.raise.new.ends.items
    c.function-item.result c.loop-function.invariant c.loop-function-test.true c.function-item.is c.raise.ensures.len
    (subst₂ (λ (w to : ℕ). Raises c.loop-function.ends.items w to c.raise.new.ends.items) c.first_word.ensures
    c.end_of.ensures c.raise.ensures.each)

pub returns : goal.returns
returns c =
    let n = c.loop-function.function-index in
    let all : n ≡ length c.args.functions.now =
    omega (arith, c.loop-function-test.false, c.loop-function.auto.function-index-end) in
    ends-are c.args.functions.now c.args.count c.loop-function.ends.items c.carry.new.ends.items
    (subst (λ (k : ℕ). AreRaised c.args.functions.now c.args.count k c.loop-function.ends.items) all
    c.loop-function.invariant) c.carry.ensures.each
