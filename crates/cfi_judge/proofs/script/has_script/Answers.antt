use Rattle.cfi_valid.specs.Valid.{HasScript}
use Rattle.cfi_judge.proofs.ScriptLemmas.{left_none, left_other}
use Rattle.cfi_judge.proofs.script.has_script.Goals as goal

pub returns-then-not-takes : goal.returns-then-not-takes
returns-then-not-takes c =
    left_other (HasScript c.args.plan.now c.args.report.now) c.as_slice-entry-items.result.now c.loop-entry.entry-index
    c.loop-entry-test.true c.loop-entry.calls.left c.loop-entry.invariant _ c.takes.result c.takes.ensures.only
    c.if-not-takes.true

pub returns : goal.returns
returns c =
    left_none (HasScript c.args.plan.now c.args.report.now) c.as_slice-entry-items.result.now c.loop-entry.entry-index
    c.loop-entry-test.false c.loop-entry.calls.left c.loop-entry.invariant c.due.result c.due.ensures c.is_none.result
    c.is_none.ensures
