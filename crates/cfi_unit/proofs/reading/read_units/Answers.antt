use Rattle.cfi_unit.proofs.ReadLemmas.{read_more, read_stops}
use Rattle.cfi_unit.proofs.reading.read_units.Goals as goal

-- this turn's unit is read too
pub loop-at-preserved : goal.loop-at-preserved
loop-at-preserved c =
    rw (c.in_ok-push.ensures.items, c.in-Some.ensures.size)
    (read_more c.args.words.now c.loop-at.at c.loop-at.spots.items c.in-Some.unit c.loop-at.invariant
    c.in-Some.ensures.some)
