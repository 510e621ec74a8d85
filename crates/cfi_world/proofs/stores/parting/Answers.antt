use Rattle.std.proofs.Common.{arith, drop}
use Rattle.std.proofs.lemmas.List.{length-drop}
use Rattle.cfi_world.proofs.AgreeLemmas.{agree_new, agree_most}
use Rattle.cfi_world.proofs.stores.parting.Goals as goal

-- the new list has ended
pub returns-else-at-new-clause-place : goal.returns-else-at-new-clause-place
returns-else-at-new-clause-place c =
    let none = agree_new c.args.old.now c.args.new.now c.loop-at.at (omega (arith, c.if-at-new.false)) in
    omega (arith, none, c.loop-at.invariant)

-- the place is no further than they agree
pub returns-after-loop-at-clause-most : goal.returns-after-loop-at-clause-most
returns-after-loop-at-clause-most c =
    let most = agree_most (drop c.args.from c.args.old.now) (drop c.args.from c.args.new.now) in
    omega (arith, c.loop-at.invariant, most, length-drop c.args.from c.args.old.now)
