use Rattle.cfi_instr.proofs.WideLemmas.{IsWidened}
use Rattle.cfi_instr.proofs.reach.widen.Given as goal

abbrev pub invariant-loop-w : goal.invariant-loop-w
invariant-loop-w l = IsWidened l.source l.symbols l.offsets l.initial.long.items l.long.items l.w l.grew
