use Rattle.cfi_judge.specs.Reached.{state_of}
use Rattle.cfi_judge.proofs.TrialLemmas.{meets_told}
use Rattle.cfi_judge.proofs.trial.Trial.meets_in.Goals as goal

pub returns : goal.returns
returns c = λ log at risen span.
    let j = c.args.self.now in
    meets_told j.plan.now.code_words j.modules.now (state_of j.end.now) j.end.now.rows.items c.requires.reached.rows
    c.args.number c.args.kind log risen at c.args.span.least c.args.span.most span.least span.most c.has_met.result
    c.has_met.ensures
