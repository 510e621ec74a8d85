use Rattle.std.proofs.Common.{arith, rules}
use Rattle.cfi_place.specs.Placed.{IsPlaced}
use Rattle.cfi_verify.specs.Fault.{IsFirstFault}
use Rattle.cfi_modules.specs.Order.{names_of}
use Rattle.cfi_modules.proofs.PlacedLemmas.{fits}
use Rattle.cfi_modules.proofs.joining.join.Goals as goal

pub place_behind-requires-clause-text : goal.place_behind-requires-clause-text
place_behind-requires-clause-text c =
    let room = c.requires.room in
    omega (arith, room.code, room.size.most, c.requires.taken.text)

pub place_behind-requires-clause-static_data : goal.place_behind-requires-clause-static_data
place_behind-requires-clause-static_data c =
    let room = c.requires.room in
    omega (arith, room.high, c.requires.taken.static_data)

-- what was placed fits
pub verify-requires-clause-words : goal.verify-requires-clause-words
verify-requires-clause-words c =
    let room = c.requires.room in
    let placed = fits c.args.unplaced.now c.args.room.now (names_of c.args.live.now) c.in-Ok.placed
    c.requires.taken.sound.object_sound.relocs c.in-Ok.ensures.ok in
    omega (arith, placed.code, room.size.most)

-- what does not verify was placed
pub returns : goal.returns
returns c =
    let placed = c.in-Ok.placed in
    let behind : IsPlaced c.args.unplaced.now c.args.room.now (names_of c.args.live.now) placed = search rules in
    let first : IsFirstFault placed c.args.live.now c.in-Err-verify.fault = search rules in
    record { ok = tt; fault = (placed, behind, first) }
