use Rattle.std.proofs.Common.{◌≡◌, ◌≤◌, length, sym, subst}
use Rattle.std.proofs.lemmas.Result.{IfOk-weaker}
use Rattle.cfi_text.specs.Lines.{numbered_lines}
use Rattle.rv_asm.specs.inner.Survey.{Survey, nothing, with_lines}
use Rattle.rv_asm.proofs.SurveyLemmas.{lines-le}
use Rattle.rv_asm.proofs.survey.survey_of.Goals as goal

pub returns-clause-few : goal.returns-clause-few
returns-clause-few c =
    IfOk-weaker c.read_all.result (λ (s : Survey). s ≡ with_lines nothing (numbered_lines c.args.text.now)) _
    (λ s same. subst (λ (t : Survey). t.lines ≤ length c.args.text.now) (sym same) (lines-le c.args.text.now))
    c.read_all.ensures
