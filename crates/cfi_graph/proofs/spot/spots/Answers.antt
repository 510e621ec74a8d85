use Rattle.std.proofs.Common.{subst, ap, ◌∙◌}
use Rattle.cfi_unit.specs.Spots.{IsReadFault, spots_of}
use Rattle.cfi_unit.proofs.CodeLemmas.{UnitCode-one}
use Rattle.cfi_unit.proofs.StopLemmas.{no_stop}
use Rattle.cfi_graph.proofs.spot.spots.Goals as goal

-- words are the code of one list of units
pub returns-in-Ok : goal.returns-in-Ok
returns-in-Ok c = λ code units.
    let read = c.in-Ok.ensures.ok in
    read.places ∙ ap (spots_of 0) (UnitCode-one c.args.words.now read.code code read.units units)

-- reading units does not stop
pub unreachable-requires : goal.unreachable-requires
unreachable-requires c =
    let units = c.requires.units in
    let stops = subst (IsReadFault c.args.words.now) c.in-Err-Stops.field-0-is c.in-Err-Stops.ensures.fault in
    no_stop c.args.words.now units.code _ units.units stops.0
