use Rattle.rv_listing_law.proofs.SayLemmas.{line_in-word}
use Rattle.rv_listing_law.proofs.laws.word_back.Goals as goal

pub returns : goal.returns
returns c = line_in-word
