use Rattle.std.proofs.Common.{◌≡◌, Option, Some, None, sym, ◌∙◌}
use Rattle.std.specs.Prelude.{IfSome}
use Rattle.cfi_sim.specs.Line.{Says}
use Rattle.cfi_sim.specs.declared.line.Line.{Line}
use Rattle.cfi_sim.specs.inner.Forms.{schedule_form}
use Rattle.cfi_sim.proofs.FormLemmas.{form_says, says_form}
use Rattle.cfi_text.specs.Words.{words_in}
use Rattle.cfi_sim.proofs.line.read_line.Goals as goal

-- by its kind
pub returns-clause-some : goal.returns-clause-some
returns-clause-some c = by_line c.line_in.result c.line_in.ensures.line
  where
    by_line : (read : Option Line) → read ≡ schedule_form c.args.plan.now (words_in c.args.statement.now)
        → IfSome read (Says c.args.plan.now (words_in c.args.statement.now))
    by_line None is = tt
    by_line (Some line) is = form_says c.args.plan.now line (words_in c.args.statement.now) (sym is)

pub returns-clause-only : goal.returns-clause-only
returns-clause-only c = λ line says.
    c.line_in.ensures.line ∙ says_form c.args.plan.now (words_in c.args.statement.now) line says
