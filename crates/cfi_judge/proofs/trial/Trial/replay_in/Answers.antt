use Rattle.std.proofs.Common.{◌≤◌, List, length, refl, sym, subst, ◌∙◌}
use Rattle.std.proofs.lemmas.Result.{err_from_is_err_and}
use Rattle.cfi_report.specs.declared.report.GuestPart.{GuestPart}
use Rattle.cfi_judge.specs.Reached.{state_of}
use Rattle.cfi_judge.specs.inner.Trial.{course_in}
use Rattle.cfi_judge.proofs.PartLemmas.{part_there}
use Rattle.cfi_judge.proofs.RunLemmas.{GoesOn, HasReplayed, all_replayed, can_replay, goes_on, none_replayed, set_course, steps_differ}
use Rattle.cfi_judge.proofs.trial.Trial.replay_in.Goals as goal

pub loop-number-init : goal.loop-number-init
loop-number-init c = none_replayed c.args.self.now.report.now (course_in c.args.self.now)

-- the log of a part can be replayed
pub outcome_of-requires-clause-can : goal.outcome_of-requires-clause-can
outcome_of-requires-clause-can c =
    let t = c.args.self.now in
    let n = c.loop-number.number in
    let part = c.index-parts-number.result in
    can_replay c.args.setting.now (course_in t) n part.log (sym c.requires.here.force_is)
    (c.requires.before.logs n part
    (part_there t.report.now c.as_slice-parts.result.now c.as_slice-parts.ensures n part c.loop-number-test.true
    c.index-parts-number.is))

-- a replay that comes to something else
pub returns-in_err-kept-clause-fault : goal.returns-in_err-kept-clause-fault
returns-in_err-kept-clause-fault c =
    let t = c.args.self.now in
    let n = c.loop-number.number in
    let part = c.index-parts-number.result in
    let there = part_there t.report.now c.as_slice-parts.result.now c.as_slice-parts.ensures n part
    c.loop-number-test.true c.index-parts-number.is in
    let on = goes_on t.plan.now t.modules.now t.report.now (state_of t.end.now) c.requires.before n part there
    c.loop-number.kept c.in_ok-outcome.outcome c.loop-number.invariant
    (c.in_ok-outcome.ensures (course_in t) (set_course t c.args.setting.now c.requires.here) refl) in
    let fault = subst (GoesOn t.plan.now t.modules.now t.report.now (state_of t.end.now) c.requires.before n)
    (sym c.kept_with.ensures ∙ c.in_err-kept.was) on in
    let p = err_from_is_err_and c.from_residual-in_err-kept.result c.from_residual-in_err-kept.ensures.1 in
    rw (p.1, p.2) fault

-- one guest more
pub loop-number-preserved : goal.loop-number-preserved
loop-number-preserved c =
    let t = c.args.self.now in
    let n = c.loop-number.number in
    let part = c.index-parts-number.result in
    let there = part_there t.report.now c.as_slice-parts.result.now c.as_slice-parts.ensures n part
    c.loop-number-test.true c.index-parts-number.is in
    let on = goes_on t.plan.now t.modules.now t.report.now (state_of t.end.now) c.requires.before n part there
    c.loop-number.kept c.in_ok-outcome.outcome c.loop-number.invariant
    (c.in_ok-outcome.ensures (course_in t) (set_course t c.args.setting.now c.requires.here) refl) in
    subst (GoesOn t.plan.now t.modules.now t.report.now (state_of t.end.now) c.requires.before n)
    (sym c.kept_with.ensures ∙ c.in_ok-kept.was) on

-- the steps of one do not fit
pub returns-in-Some-clause-fault : goal.returns-in-Some-clause-fault
returns-in-Some-clause-fault c =
    let t = c.args.self.now in
    let all = subst (λ (parts : List GuestPart). length parts ≤ c.loop-number.number) c.as_slice-parts.ensures
    c.loop-number-test.false in
    steps_differ t.plan.now t.modules.now t.report.now (state_of t.end.now) c.requires.before c.loop-number.number all
    c.in-Some.first
    (subst (HasReplayed t.report.now (course_in t) c.loop-number.number) c.in-Some.is c.loop-number.invariant)

pub returns-in-None-clause-ok : goal.returns-in-None-clause-ok
returns-in-None-clause-ok c =
    let t = c.args.self.now in
    let all = subst (λ (parts : List GuestPart). length parts ≤ c.loop-number.number) c.as_slice-parts.ensures
    c.loop-number-test.false in
    all_replayed t.plan.now t.modules.now t.report.now (state_of t.end.now) c.requires.before c.loop-number.number all
    (subst (HasReplayed t.report.now (course_in t) c.loop-number.number) c.in-None.is c.loop-number.invariant)
