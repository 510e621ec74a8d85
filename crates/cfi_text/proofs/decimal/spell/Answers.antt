use Rattle.std.proofs.Common.{arith}
use Rattle.cfi_text.proofs.SpellLemmas.{room, spell_next, spell_end}
use Rattle.cfi_text.proofs.decimal.spell.Goals as goal

pub overflow_sub-at-in-loop-left : goal.overflow_sub-at-in-loop-left
overflow_sub-at-in-loop-left c = room _ _ _ _ c.loop-left.invariant c.loop-left-test.true

pub loop-left-smaller : goal.loop-left-smaller
loop-left-smaller c = let place = room _ _ _ _ c.loop-left.invariant c.loop-left-test.true in omega (arith, place)

pub loop-left-preserved : goal.loop-left-preserved
loop-left-preserved c = spell_next _ _ _ _ c.loop-left.invariant c.loop-left-test.true

pub returns-clause-text : goal.returns-clause-text
returns-clause-text c = spell_end _ _ _ _ c.loop-left.invariant c.loop-left-test.false
