use Rattle.rv_text.proofs.ListingLemmas.{ReadAs-one, IsListing-one}
use Rattle.rv_text.proofs.laws.one_listing.Goals as goal

pub returns-clause-pieces : goal.returns-clause-pieces
returns-clause-pieces c = ReadAs-one

pub returns-clause-text : goal.returns-clause-text
returns-clause-text c = IsListing-one
