use Rattle.rv_listing_law.proofs.WordsLemmas.{words_of-word}
use Rattle.rv_listing_law.proofs.laws.words_back.Goals as goal

pub returns : goal.returns
returns c = words_of-word
