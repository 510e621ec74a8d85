use Rattle.std.proofs.Common.{◌≡◌, ◌∙◌, Ok, subst}
use Rattle.std.proofs.lemmas.Result.{IfOk-weaker}
use Rattle.cfi_request.specs.Command.{more_of}
use Rattle.cfi_request.specs.Reading.{AreRead, IsFound}
use Rattle.cfi_top.proofs.ReadyLemmas.{goes_on}
use Rattle.cfi_top.proofs.work.outcome_over.Goals as goal

-- the files that the inputs name are read
pub returns-in-Ok-clause-outcome : goal.returns-in-Ok-clause-outcome
returns-in-Ok-clause-outcome g c =
    let command = c.args.command in
    let files = c.args.files in
    let more = c.in-Ok.more in
    let shelf = c.args.shelf.now in
    let read = c.read_files.new.shelf in
    let old = g.F.Shelf.seen shelf in
    let new = g.F.Shelf.seen read in
    let found : IsFound old new c.deref.result.now (Ok more) =
    subst (IsFound old new c.deref.result.now) c.in-Ok.is c.in_ok-more.ensures.read in
    let named : c.deref.result.now ≡ more_of command files = c.deref.ensures.value ∙ c.in_ok-names.ensures in
    let others = subst (λ names. AreRead old names more) named found in
    IfOk-weaker c.work.result _ _
    (λ outcome worked. goes_on command files more old new outcome others worked) c.work.ensures
