use Rattle.cfi_valid.proofs.ModulesLemmas.{modules_once, journal_modules}
use Rattle.cfi_valid.proofs.laws.lines_tell_modules.Goals as goal

pub returns-clause-one : goal.returns-clause-one
returns-clause-one c = modules_once

pub returns-clause-legal : goal.returns-clause-legal
returns-clause-legal c = journal_modules
