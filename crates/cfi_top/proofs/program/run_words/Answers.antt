use Rattle.std.proofs.Common.{subst}
use Rattle.cfi_request.specs.Words.{texts}
use Rattle.cfi_io.specs.Seen.{SinkView}
use Rattle.cfi_top.specs.Top.{Ends}
use Rattle.cfi_top.proofs.program.run_words.Goals as goal

-- the run was made of the file that is ready
pub returns-in-Run : goal.returns-in-Run
returns-in-Run g c =
    let words = texts c.args.words.now in
    let old = g.F.Shelf.seen c.args.shelf.now in
    let new = g.F.Shelf.seen c.finish.new.shelf in
    let sink = g.S.Sink.seen c.finish.new.sink in
    let ended = c.finish.result in
    let served = c.in-Run.ensures.served in
    record {
      ends = subst (λ (s : SinkView). Ends words old new s sink ended.status ended.run) served.2
          (c.finish.ensures.ends words old served.1 served.0);
    }
