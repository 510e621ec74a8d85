use Rattle.std.proofs.Common.{◌≡◌, List, ap, sym, subst, ◌∙◌}
use Rattle.std.proofs.lemmas.Result.{IfErr-weaker}
use Rattle.cfi_aux.specs.declared.placed.Placed.{Placed}
use Rattle.cfi_place.specs.declared.room.Room.{Room}
use Rattle.cfi_place.specs.Placed.{IsRoom}
use Rattle.cfi_modules.specs.declared.fault.JoinFault.{JoinFault}
use Rattle.cfi_modules.specs.declared.fault.JoinFault.TheVariants.{Memory}
use Rattle.cfi_modules.specs.Order.{IsFaultIn}
use Rattle.cfi_modules.specs.Room.{room_after}
use Rattle.cfi_modules.specs.Series.{Series, live_in}
use Rattle.cfi_modules.proofs.OrderLemmas.{joins_or_refused}
use Rattle.cfi_modules.proofs.SeriesLemmas.{room_is}
use Rattle.cfi_modules.proofs.series.Series.place_next.Goals as goal

-- the next free place is a room
pub room_after-room-requires : goal.room_after-room-requires
room_after-room-requires c =
    subst (λ (ms : List Placed). IsRoom (room_after c.self.inside.code_words ms)) (sym c.deref.ensures.value)
    (room_is c.self.inside.code_words c.self.inside.placed.items c.self.invariant.series)

pub join-joined-requires-clause-room : goal.join-joined-requires-clause-room
join-joined-requires-clause-room c =
    let at : List Placed → Room = room_after c.self.inside.code_words in
    subst IsRoom (sym (c.room_after-room.ensures ∙ ap at c.deref.ensures.value))
    (room_is c.self.inside.code_words c.self.inside.placed.items c.self.invariant.series)

-- a module that joins is not refused
pub returns-clause-only : goal.returns-clause-only
returns-clause-only c placed joins =
    let before = c.args.self.now in
    let unplaced = c.args.unplaced.now in
    let room : c.room_after-room.result ≡ room_after before.code_words before.placed =
    c.room_after-room.ensures ∙ ap (room_after c.self.inside.code_words) c.deref.ensures.value
    ∙ ap (λ (s : Series). room_after s.code_words s.placed) c.self.view_is in
    let live : c.live_ones-2.result.now ≡ live_in before =
    c.live_ones-2.ensures.value ∙ ap live_in c.self.view_is in
    IfErr-weaker c.join-joined.result (IsFaultIn c.room_after-room.result c.live_ones-2.result.now unplaced)
    (λ (fault : JoinFault). fault ≡ Memory)
    (λ fault refused.
    joins_or_refused before.code_words before.placed (live_in before) unplaced placed fault joins
    (subst (λ (r : Room). IsFaultIn r (live_in before) unplaced fault) room
    (subst (λ (ms : List Placed). IsFaultIn c.room_after-room.result ms unplaced fault) live refused)))
    c.join-joined.ensures.fault
