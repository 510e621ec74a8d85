use Rattle.std.proofs.Common.{take}
use Rattle.cfi_flow.specs.Fresh.{AreOthers}
use Rattle.cfi_flow.proofs.fresh.others.Given as goal

abbrev pub invariant-loop-number : goal.invariant-loop-number
invariant-loop-number l = AreOthers (take l.number-index l.numbers) l.known.items l.others.items
