use Rattle.cfi_runner.proofs.HandLemmas.{hands_on}
use Rattle.cfi_runner.proofs.laws.a_service_hands_on.Goals as goal

pub returns : goal.returns
returns c = λ k fuel p q next old new number can run more reply may going.
    hands_on k fuel p q next old new number can run more reply may going
