use Rattle.cfi_guest_part.proofs.MadeLemmas.{part_made}
use Rattle.cfi_guest_part.proofs.laws.runs_make_parts.Goals as goal

pub returns : goal.returns
returns c = λ c t h code of number guest run stopped within logged entry named.
    part_made c t h code of number guest run stopped within logged entry named
