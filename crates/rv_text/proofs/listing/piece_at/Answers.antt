use Rattle.std.proofs.Common.{Some}
use Rattle.rv_text.proofs.listing.piece_at.Goals as goal

pub returns-in-Some : goal.returns-in-Some
returns-in-Some c =
    (Some c.in-Some.unit, c.in-Some.ensures.some, c.mark_of.ensures, c.in-Some.ensures.size)
