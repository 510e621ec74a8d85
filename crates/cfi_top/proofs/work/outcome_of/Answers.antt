use Rattle.std.proofs.Common.{◌≡◌, ◌∙◌, Ok, subst}
use Rattle.std.proofs.lemmas.Result.{IfOk-weaker}
use Rattle.cfi_request.specs.Command.{inputs_of}
use Rattle.cfi_request.specs.Reading.{AreRead, IsFound}
use Rattle.cfi_request.specs.Outside.{IsLater}
use Rattle.cfi_top.proofs.ReadyLemmas.{comes_out}
use Rattle.cfi_top.proofs.work.outcome_of.Goals as goal

-- the inputs are read
pub returns-in-Ok-clause-outcome : goal.returns-in-Ok-clause-outcome
returns-in-Ok-clause-outcome g c =
    let command = c.args.command in
    let files = c.in-Ok.files in
    let shelf = c.args.shelf.now in
    let read = c.read_files.new.shelf in
    let last = c.outcome_over.new.shelf in
    let old = g.F.Shelf.seen shelf in
    let mid = g.F.Shelf.seen read in
    let new = g.F.Shelf.seen last in
    let found : IsFound old mid c.deref.result.now (Ok files) =
    subst (IsFound old mid c.deref.result.now) c.in-Ok.is c.in_ok-files.ensures.read in
    let named : c.deref.result.now ≡ inputs_of command = c.deref.ensures.value ∙ c.in_ok-names.ensures in
    let inputs = subst (λ names. AreRead old names files) named found in
    let kept = c.read_files.ensures in
    let later : IsLater old mid = record { files = kept.same; faults = kept.faults; misses = kept.misses } in
    IfOk-weaker c.outcome_over.result _ _
    (λ outcome goes. comes_out command files old mid new outcome later inputs goes) c.outcome_over.ensures.outcome
