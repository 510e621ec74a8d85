use Rattle.cfi_modules.proofs.PrefixLemmas.{prefix, data_lies}
use Rattle.cfi_modules.proofs.laws.series_are_closed_below.Goals as goal

pub returns-clause-prefix : goal.returns-clause-prefix
returns-clause-prefix c = λ code_words placed n series. prefix code_words placed series n

pub returns-clause-fills : goal.returns-clause-fills
returns-clause-fills c = data_lies
