use Rattle.cfi_text.proofs.SpellLemmas.{Spells}
use Rattle.cfi_text.proofs.decimal.spell.Given as goal

abbrev pub invariant-loop-left : goal.invariant-loop-left
invariant-loop-left l = Spells l.value l.left l.at l.digits

abbrev pub decreases-loop-left : goal.decreases-loop-left
decreases-loop-left l = l.at
