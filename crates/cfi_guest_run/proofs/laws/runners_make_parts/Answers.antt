use Rattle.cfi_guest_run.proofs.EndedLemmas.{runner_part}
use Rattle.cfi_guest_run.proofs.laws.runners_make_parts.Goals as goal

pub returns : goal.returns
returns c = λ k plan modules l is p r was agrees stopped entry named.
    runner_part k plan modules l is p r was agrees stopped entry named
