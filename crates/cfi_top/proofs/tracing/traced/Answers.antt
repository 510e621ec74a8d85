use Rattle.cfi_request.specs.Words.{texts}
use Rattle.cfi_request.specs.Outside.{IsLater}
use Rattle.cfi_top.proofs.tracing.traced.Goals as goal

-- what was read and traced was delivered
pub returns-in-Ok : goal.returns-in-Ok
returns-in-Ok g c =
    let words = texts c.args.words.now in
    let old = g.F.Shelf.seen c.args.shelf.now in
    let mid = g.F.Shelf.seen c.trace_answer.new.shelf in
    let kept = c.trace_answer.ensures in
    let later : IsLater old mid = record { files = kept.same; faults = kept.faults; misses = kept.misses } in
    record { ends = c.told.ensures.ends words old later c.in-Ok.ensures.answer }
