use Rattle.std.proofs.Common.{rules, arith, ap, sym, Some}
use Rattle.cfi_text.proofs.DecimalLemmas.{digit_inside, reads_next, value_bound, digits_whole, value_whole}
use Rattle.cfi_text.proofs.decimal.value_of.Goals as goal

-- a word of digits has no other byte
pub returns-then-not-is_ascii_digit-clause-only : goal.returns-then-not-is_ascii_digit-clause-only
returns-then-not-is_ascii_digit-clause-only c = λ digits fits.
    let inside = digit_inside c.args.word.now c.loop-c.c-index (search rules) digits in grind arith

-- a number that fits has no greater part
pub returns-in_default-clause-only : goal.returns-in_default-clause-only
returns-in_default-clause-only c = λ digits fits.
    let bound = value_bound _ _ _ c.loop-c.invariant (search rules) digits in absurd (grind (arith, bound))

pub loop-c-preserved : goal.loop-c-preserved
loop-c-preserved c =
    reads_next _ _ _ c.loop-c.invariant c.in-Some.more (search rules) (grind arith) (search rules) (search rules)

pub returns-clause-fits : goal.returns-clause-fits
returns-clause-fits c = c.loop-c.invariant.fits

pub returns-clause-digits : goal.returns-clause-digits
returns-clause-digits c = digits_whole _ _ _ c.loop-c.invariant (search rules)

pub returns-clause-some : goal.returns-clause-some
returns-clause-some c = value_whole _ _ _ c.loop-c.invariant (search rules)

pub returns-clause-only : goal.returns-clause-only
returns-clause-only c = λ digits fits. ap Some (sym (value_whole _ _ _ c.loop-c.invariant (search rules)))
