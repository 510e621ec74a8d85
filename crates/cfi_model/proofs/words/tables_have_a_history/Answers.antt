use Rattle.cfi_model.proofs.InForceLemmas.{history_is, bary_is, tary_is, code_is, extends, keeps}
use Rattle.cfi_model.proofs.words.tables_have_a_history.Goals as goal

pub returns-clause-history : goal.returns-clause-history
returns-clause-history c = history_is

pub returns-clause-bary : goal.returns-clause-bary
returns-clause-bary c = bary_is

pub returns-clause-tary : goal.returns-clause-tary
returns-clause-tary c = tary_is

pub returns-clause-code : goal.returns-clause-code
returns-clause-code c = code_is

pub returns-clause-extends : goal.returns-clause-extends
returns-clause-extends c = extends

pub returns-clause-keeps : goal.returns-clause-keeps
returns-clause-keeps c = keeps
