use Rattle.std.proofs.Common.{◌≡◌, cond, ltb, length, get_or, arith, rules}
use Rattle.cfi_types.proofs.Counts.{no_numbers, given, all_numbers}
use Rattle.cfi_types.proofs.numbering.number.Goals as goal

pub loop-leader-init : goal.loop-leader-init
loop-leader-init c = no_numbers c.args.leaders.now c.in_ok-numbers.numbers.items c.in_ok-numbers.ensures.items

pub loop-leader-preserved : goal.loop-leader-preserved
loop-leader-preserved c =
    let n = c.number_of-number.result in
    let value : n ≡ cond
    (ltb (get_or c.args.leaders.now c.loop-leader.leader-index 0) (length c.loop-leader.numbers.items))
    (get_or c.loop-leader.numbers.items (get_or c.args.leaders.now c.loop-leader.leader-index 0) 0)
    c.loop-leader.count = search rules in
    rw (c.in_ok-push.ensures.items, c.max-count.ensures)
    (given c.args.leaders.now c.loop-leader.leader-index c.loop-leader.numbers.items c.loop-leader.count
    c.loop-leader.invariant c.requires.low c.requires.leader c.loop-leader-test.true n value)

pub returns : goal.returns
returns c =
    all_numbers c.args.leaders.now c.loop-leader.leader-index c.loop-leader.numbers.items c.loop-leader.count
    c.loop-leader.invariant (omega arith)
