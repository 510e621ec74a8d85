use Rattle.cfi_top.proofs.OutcomeLemmas.{ends_of}
use Rattle.cfi_top.proofs.program.told.Goals as goal

-- the answer was delivered
pub returns : goal.returns
returns g c =
    let delivered = c.deliver-status.ensures in
    record {
      ends = λ words before later is.
          ends_of words before _ _ _ _ _ _ _ _ _ c.in-Ok.ensures.output c.in-Ok.ensures.run c.kept.ensures later
          delivered.faults delivered.misses delivered.last is delivered.delivered;
    }
