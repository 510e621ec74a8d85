use Rattle.std.proofs.Common.{arith}
use Rattle.cfi_judge.specs.Reached.{state_of}
use Rattle.cfi_judge.proofs.ReachedLemmas.{all_found}
use Rattle.cfi_judge.proofs.TrialLemmas.{spent_told}
use Rattle.cfi_judge.proofs.RefutesLemmas.{not_answered, refuted}
use Rattle.cfi_judge.proofs.trial.Trial.is_spent.Goals as goal

pub returns-then-not-is_last_epoch : goal.returns-then-not-is_last_epoch
returns-then-not-is_last_epoch c = λ guest log at risen span.
    refuted _ (λ spent. not_answered c.is_last_epoch.result _ c.if-not-is_last_epoch.true c.is_last_epoch.ensures
    spent.1)

-- the span ends before the policy in force
pub returns-then-span-force : goal.returns-then-span-force
returns-then-span-force c = λ guest log at risen span.
    refuted _ (λ spent. absurd (omega (arith, spent.0.most, span.most, c.if-span-force.true)))

pub returns : goal.returns
returns c = λ guest log at risen span.
    let j = c.args.self.now in
    spent_told j.plan.now.code_words j.modules.now (state_of j.end.now) j.end.now.rows.items c.requires.reached.rows
    (all_found j.plan.now (state_of j.end.now) c.requires.reached.policies) c.args.number log risen at
    (c.is_last_epoch.ensures.0 c.if-not-is_last_epoch.false)
    c.args.span.most span.most (omega (arith, c.if-span-force.false)) c.has_met.result c.has_met.ensures
