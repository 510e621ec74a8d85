use Rattle.std.proofs.Common.{List, rules, subst, sym, ◌∙◌, map-id}
use Rattle.std.proofs.lemmas.Iterator.Adapters.{YieldsList-from_vec}
use Rattle.std.proofs.lemmas.Iterator.Consumers.{YieldsList-end, YieldsList-turn}
use Rattle.cfi_guest_run.specs.Runner.{Ran}
use Rattle.cfi_guest_run.specs.inner.Ending.{AreTaken}
use Rattle.cfi_guest_run.proofs.EndingLemmas.{ended_at, ended_stops, none_taken, taken_more}
use Rattle.cfi_guest_run.proofs.concluded.take_all.Goals as goal

pub loop-runner-init : goal.loop-runner-init
loop-runner-init g c =
    none_taken g.N.TableName.key g.N.LoaderName.plan c.args.loader.now c.in_ok-parts.parts.items
    c.in_ok-parts.ensures.items

-- the guest of the runner has stopped
pub take_back-requires : goal.take_back-requires
take_back-requires g c =
    let turn = YieldsList-turn
    (YieldsList-from_vec {s = c.into_iter-runner-iterator.result} c.args.runners.items (search rules) (search rules))
    c.loop-runner.yielded c.loop-runner.runner-iterator c.loop-runner.yielded_by c.next.result c.next.new.self
    c.in-Some.runner c.in-Some.is c.next.ensures.steps in
    ended_stops _ c.in-Some.runner
    (ended_at c.args.runners.items c.requires _ c.in-Some.runner turn.0 turn.1)

-- the part of one guest more
pub loop-runner-preserved : goal.loop-runner-preserved
loop-runner-preserved g c =
    let turn = YieldsList-turn
    (YieldsList-from_vec {s = c.into_iter-runner-iterator.result} c.args.runners.items (search rules) (search rules))
    c.loop-runner.yielded c.loop-runner.runner-iterator c.loop-runner.yielded_by c.next.result c.next.new.self
    c.in-Some.runner c.in-Some.is c.next.ensures.steps in
    let is = c.loop-runner.invariant in
    let told = c.in_ok-take_back.ensures in
    taken_more g.N.TableName.key g.N.LoaderName.plan c.args.loader.now c.loop-runner.loader c.take_back.new.loader
    c.args.runners.items c.requires c.loop-runner.yielded c.in-Some.runner turn.0 turn.1 c.loop-runner.parts.items
    c.push.new.self.items c.in_ok-take_back.field-0 is.say is.each is.same told.says told.part told.opens told.fields
    c.in_ok-push.ensures.items told.out

-- all are taken back
pub returns : goal.returns
returns g c =
    let end = YieldsList-end
    (YieldsList-from_vec {s = c.into_iter-runner-iterator.result} c.args.runners.items (search rules) (search rules))
    c.loop-runner.yielded c.loop-runner.runner-iterator c.loop-runner.yielded_by c.next.result c.next.new.self
    c.in-None.is c.next.ensures.steps in
    subst
    (λ (xs : List Ran). AreTaken g.N.TableName.key g.N.LoaderName.plan c.args.loader.now c.loop-runner.loader xs
    c.loop-runner.parts.items) (sym (map-id c.loop-runner.yielded) ∙ end.0) c.loop-runner.invariant
