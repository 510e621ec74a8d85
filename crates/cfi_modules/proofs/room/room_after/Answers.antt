use Rattle.std.proofs.Common.{sym, ap, ◌∙◌, subst}
use Rattle.cfi_place.specs.Placed.{IsRoom}
use Rattle.cfi_modules.specs.Room.{first_room, room_behind}
use Rattle.cfi_modules.proofs.RoomLemmas.{after_last}
use Rattle.cfi_modules.proofs.room.room_after.Goals as goal

-- the room behind all is that behind the last one
pub room_behind-requires : goal.room_behind-requires
room_behind-requires c =
    let last = c.last-item.result in
    let is = after_last c.args.code_words c.args.placed.now last c.in-len1-up.len_at_least in
    subst IsRoom (is ∙ ap (room_behind (first_room c.args.code_words)) (sym c.last-item.is)) c.requires

pub returns-in-len1-up : goal.returns-in-len1-up
returns-in-len1-up c =
    let last = c.last-item.result in
    let is = after_last c.args.code_words c.args.placed.now last c.in-len1-up.len_at_least in
    c.room_behind.ensures ∙ ap (room_behind (first_room c.args.code_words)) c.last-item.is ∙ sym is
