use Rattle.cfi_model.proofs.FixedLemmas.{opened_ready}
use Rattle.cfi_model_law.proofs.MomentLemmas.{confined}
use Rattle.cfi_model.specs.Raw.{raw_opened}
use Rattle.cfi_model.specs.State.{opened}
use Rattle.cfi_model_law.proofs.laws.guests_are_confined.Goals as goal

pub returns : goal.returns
returns c = λ h code known number entry fills starts takes along.
    let opening = opened_ready h number entry fills starts in
    confined h code known (opened number entry fills) (raw_opened number entry fills) opening.0 opening.1 takes along
