use Rattle.std.proofs.Common.{}
use Rattle.cfi_link.proofs.ChosenLemmas.{HasDefinitions}
use Rattle.cfi_link.proofs.chosen.choose.Given as goal

abbrev pub invariant-loop-k : goal.invariant-loop-k
invariant-loop-k l =
    HasDefinitions l.symbols l.k l.definitions
