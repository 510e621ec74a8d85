use Rattle.std.proofs.Common.{◌≡◌, arith, rules, sym, ap, ◌∙◌, length, Some}
use Rattle.cfi_unit.specs.declared.log.Log.TheVariants.{Pick}
use Rattle.cfi_model.specs.Log.{last_of}
use Rattle.cfi_model.proofs.LogLemmas.{room_set, opens_set, room_more, opens_push, room_bound}
use Rattle.cfi_model.proofs.log_book.LogBook.pick.Goals as goal

-- one pick more in the last entry keeps the room
pub invariant_of-self : goal.invariant_of-self
invariant_of-self c =
    let log = c.self.inside.entries.items in
    let is : last_of log ≡ Some (Pick c.args.policy c.in-Some.count) =
    ap last_of (sym c.as_slice.ensures.value) ∙ c.in-Some.ensures.some in
    let n : c.len-last.result ≡ length log = search rules in
    let opens_same = opens_set log c.args.policy c.in-Some.count _ is in
    let room = room_set log c.args.policy c.in-Some.count _ is c.self.invariant.1 in
    rw n (c.self.invariant.0 ∙ sym opens_same, room, c.self.invariant.2)

-- the room suffices for one entry more
pub push_reserved-requires : goal.push_reserved-requires
push_reserved-requires c =
    let log = c.self.inside.entries.items in
    let other = rw c.as_slice.ensures.value at c.in-None.ensures.none in
    let more = room_more log c.args.policy c.self.invariant.1 other (search rules) c.requires.most in
    let few = room_bound log c.args.policy more in
    omega (arith, few, c.self.invariant.2)

pub invariant_of-self-in-None : goal.invariant_of-self-in-None
invariant_of-self-in-None c =
    let log = c.self.inside.entries.items in
    let other = rw c.as_slice.ensures.value at c.in-None.ensures.none in
    let more = room_more log c.args.policy c.self.invariant.1 other (search rules) c.requires.most in
    let opens_same = opens_push log (Pick c.args.policy 1) in
    rw c.push_reserved.ensures.items (
      omega (arith, c.self.invariant.0, opens_same),
      more,
      omega (arith, c.self.invariant.2, c.push_reserved.ensures.capacity),
    )
