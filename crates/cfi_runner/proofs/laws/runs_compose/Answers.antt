use Rattle.std.proofs.Common.{◌++◌, sym, ap, ◌∙◌}
use Rattle.cfi_model.specs.Accesses.{ended_by, left_by}
use Rattle.cfi_runner.specs.Run.{words_found}
use Rattle.cfi_runner.proofs.HandLemmas.{joined, along_joined}
use Rattle.cfi_runner.proofs.TakenLemmas.{all_taken}
use Rattle.cfi_runner.proofs.laws.runs_compose.Goals as goal

pub returns-clause-joins : goal.returns-clause-joins
returns-clause-joins c = λ k fuel p q next end old mid new number pause run more reply may then. (
  joined k fuel p q next end old mid new number pause run more reply may then,
  along_joined k fuel p q next end old mid new number pause run more reply may then,
)

pub returns-clause-taken : goal.returns-clause-taken
returns-clause-taken c = λ k p q old last idle taken replies.
    (let all = all_taken k.code_words taken.accesses old replies idle taken.asked in (
      all.takes ∙ ap (λ r. words_found taken.accesses ++ ended_by r.waits r replies) (sym taken.is),
      all.left ∙ ap (λ r. left_by r.waits r replies) (sym taken.is),
    ))
