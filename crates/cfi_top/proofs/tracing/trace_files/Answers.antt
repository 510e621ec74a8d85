use Rattle.std.proofs.Common.{◌≡◌, Ok, [], ◌∷◌, subst, rules}
use Rattle.std.proofs.lemmas.Result.{IfOk-weaker}
use Rattle.cfi_request.specs.Reading.{AreRead, IsFound}
use Rattle.cfi_request.specs.Outside.{IsLater}
use Rattle.cfi_top.proofs.TracingLemmas.{one_file, outcome_trace}
use Rattle.cfi_top.proofs.tracing.trace_files.Goals as goal

-- the plan is read
pub returns-in-Ok-clause-answer : goal.returns-in-Ok-clause-answer
returns-in-Ok-clause-answer g c =
    let plan = c.args.plan in
    let schedule = c.args.schedule in
    let files = c.in-Ok.files in
    let old = g.F.Shelf.seen c.args.shelf.now in
    let mid = g.F.Shelf.seen c.read_files.new.shelf in
    let new = g.F.Shelf.seen c.trace_over.new.shelf in
    let found : IsFound old mid c.deref.result.now (Ok files) =
    subst (IsFound old mid c.deref.result.now) c.in-Ok.is c.in_ok-files.ensures.read in
    let named : c.deref.result.now ≡ plan ∷ [] = search rules in
    let inputs = subst (λ names. AreRead old names files) named found in
    let one = one_file files inputs.count in
    let kept = c.read_files.ensures in
    let later : IsLater old mid = record { files = kept.same; faults = kept.faults; misses = kept.misses } in
    IfOk-weaker c.trace_over.result _ _
    (outcome_trace plan schedule one.0 old mid new later (subst (AreRead old (plan ∷ [])) one.1 inputs))
    (c.trace_over.ensures.answer one.0 one.1)
