use Rattle.rv_listing_law.proofs.AssembleLemmas.{object_in-listing}
use Rattle.rv_listing_law.proofs.LengthLemmas.{listing-short}
use Rattle.rv_listing_law.proofs.laws.object_back.Goals as goal

pub returns-clause-same : goal.returns-clause-same
returns-clause-same c = object_in-listing

pub returns-clause-short : goal.returns-clause-short
returns-clause-short c = listing-short
