use Rattle.cfi_judge.specs.Reached.{state_of}
use Rattle.cfi_judge.proofs.JudgeLemmas.{few_guests, to_logs}
use Rattle.cfi_judge.proofs.judged.judge_parts.Goals as goal

pub first_unlogged-requires-clause-trial : goal.first_unlogged-requires-clause-trial
first_unlogged-requires-clause-trial c = record {
  can = c.requires;
  reached = c.in_ok-end.ensures.reached;
  journal = c.in_ok-end.ensures.ok.before.before.journal;
}

pub first_unlogged-requires-clause-few : goal.first_unlogged-requires-clause-few
first_unlogged-requires-clause-few c =
    few_guests c.args.plan.now c.args.modules.now c.args.report.now (state_of c.in_ok-end.end) c.requires
    c.in_ok-end.ensures.ok

pub returns-in-Some-clause-fault : goal.returns-in-Some-clause-fault
returns-in-Some-clause-fault c =
    (state_of c.in_ok-end.end, c.in_ok-end.ensures.ok, c.in-Some.ensures.some)

pub replay-requires-clause-trial : goal.replay-requires-clause-trial
replay-requires-clause-trial c = record {
  can = c.requires;
  reached = c.in_ok-end.ensures.reached;
  journal = c.in_ok-end.ensures.ok.before.before.journal;
}

pub replay-requires-clause-before : goal.replay-requires-clause-before
replay-requires-clause-before c =
    to_logs c.args.plan.now c.args.modules.now c.args.report.now (state_of c.in_ok-end.end)
    c.in_ok-end.ensures.ok c.in-None.ensures.none
