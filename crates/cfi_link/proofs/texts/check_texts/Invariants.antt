use Rattle.std.proofs.Common.{All, take}
use Rattle.cfi_link.specs.Fault.{HasUnits}
use Rattle.cfi_link.proofs.texts.check_texts.Given as goal

abbrev pub invariant-loop-number : goal.invariant-loop-number
invariant-loop-number l =
    All HasUnits (take l.number l.modules)
