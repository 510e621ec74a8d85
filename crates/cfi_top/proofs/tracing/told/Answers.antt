use Rattle.cfi_top.proofs.TracingLemmas.{trace_ends}
use Rattle.cfi_top.proofs.tracing.told.Goals as goal

-- the answer was delivered
pub returns : goal.returns
returns g c =
    let delivered = c.deliver.ensures in
    record {
      ends = λ words before later is.
          trace_ends words before _ _ _ _ _ _ _ c.in-Ok.ensures later delivered.faults delivered.misses delivered.last
          is delivered.delivered;
    }
