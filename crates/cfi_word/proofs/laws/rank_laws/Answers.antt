use Rattle.cfi_word.proofs.RankLemmas.{rank-code, rank-tary, rank-epoch, rank-bary, rank-lt, same_words}
use Rattle.cfi_word.proofs.laws.rank_laws.Goals as goal

pub returns-clause-code : goal.returns-clause-code
returns-clause-code c = rank-code

pub returns-clause-tary : goal.returns-clause-tary
returns-clause-tary c = rank-tary

pub returns-clause-epoch : goal.returns-clause-epoch
returns-clause-epoch c = rank-epoch

pub returns-clause-bary : goal.returns-clause-bary
returns-clause-bary c = rank-bary

pub returns-clause-within : goal.returns-clause-within
returns-clause-within c = rank-lt

pub returns-clause-apart : goal.returns-clause-apart
returns-clause-apart c = same_words
