use Rattle.rv_listing_law.proofs.ListingLemmas.{said-listing}
use Rattle.rv_listing_law.proofs.laws.listing_back.Goals as goal

pub returns : goal.returns
returns c = λ words text small is. said-listing words small text is
