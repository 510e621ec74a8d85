use Rattle.std.proofs.Common.{subst}
use Rattle.cfi_request.specs.Words.{texts}
use Rattle.cfi_request.specs.Outside.{IsLater}
use Rattle.cfi_top.specs.Outcome.{IsAnswer}
use Rattle.cfi_top.specs.Ready.{IsReady}
use Rattle.cfi_top.specs.inner.Working.{ComesTo}
use Rattle.cfi_top.proofs.program.serve.Goals as goal

-- what was read and done was delivered
pub returns-in-Ok-Answer : goal.returns-in-Ok-Answer
returns-in-Ok-Answer g c =
    let words = texts c.args.words.now in
    let old = g.F.Shelf.seen c.args.shelf.now in
    let mid = g.F.Shelf.seen c.answer_of.new.shelf in
    let kept = c.answer_of.ensures in
    let later : IsLater old mid = record { files = kept.same; faults = kept.faults; misses = kept.misses } in
    let answer = subst (ComesTo (IsAnswer words old mid) (IsReady words old)) c.in-Ok-Answer.field-0-is
    c.in-Ok-Answer.ensures.answer in
    record { served = c.told.ensures.ends words old later answer }
