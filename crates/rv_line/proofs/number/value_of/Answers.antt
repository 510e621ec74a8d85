use Rattle.std.proofs.Common.{◌<◌, ◌^◌, arith, rules}
use Rattle.rv_line.proofs.NumberLemmas.{ReadsDigits-below}
use Rattle.rv_line.proofs.number.value_of.Goals as goal

pub overflow_mul-value : goal.overflow_mul-value
overflow_mul-value c =
    let small : c.loop-byte.value < 2 ^ 32 = ReadsDigits-below _ _ _ c.loop-byte.invariant (grind arith) in
    omega arith

pub overflow_add-value : goal.overflow_add-value
overflow_add-value c =
    let small : c.loop-byte.value < 2 ^ 32 = ReadsDigits-below _ _ _ c.loop-byte.invariant (grind arith) in
    search rules

pub returns-clause-fits : goal.returns-clause-fits
returns-clause-fits c = ReadsDigits-below _ _ _ c.loop-byte.invariant (grind arith)
