use Rattle.std.proofs.Common.{◌≡◌, length, subst, arith}
use Rattle.cfi_class.specs.declared.nodes.TheConstants.{CLASSES}
use Rattle.cfi_class.proofs.TakenLemmas.{TakenSoFar, none_taken, one_more_taken, all_taken}
use Rattle.cfi_class.proofs.taken.taken_numbers.Goals as goal

pub loop-number-init : goal.loop-number-init
loop-number-init c =
    none_taken c.args.numbers.now CLASSES c.in_ok-taken.taken.items c.in_ok-taken.ensures.len
    c.in_ok-taken.ensures.none

pub loop-number-preserved : goal.loop-number-preserved
loop-number-preserved c =
    one_more_taken c.args.numbers.now CLASSES c.loop-number.number-index c.loop-number.taken.items
    c.loop-number.invariant c.loop-number-test.true (c.requires c.loop-number.number-index c.loop-number-test.true)

pub returns-clause-ok : goal.returns-clause-ok
returns-clause-ok c =
    let last = c.loop-number-test.false in
    let all : c.loop-number.number-index ≡ length c.args.numbers.now = omega arith in
    all_taken c.args.numbers.now CLASSES c.loop-number.taken.items
    (subst (λ count. TakenSoFar c.args.numbers.now CLASSES count c.loop-number.taken.items) all
    c.loop-number.invariant)
