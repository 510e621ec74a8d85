use Rattle.std.proofs.Common.{◌≡◌, ◌∙◌, ap, arith, length, true, slice_set}
use Rattle.cfi_model.specs.Pages.{Memory}
use Rattle.cfi_model.proofs.MakeLemmas.{seen_made, room_left, made_new, is_paged_new, bytes_new}
use Rattle.cfi_model.proofs.pages.PrivateData.make.Goals as goal

pub overflow_cast-self : goal.overflow_cast-self
overflow_cast-self c =
    let unmade = seen_made _ _ _ c.args.place _ c.self.view_is c.requires.unmade in
    let room = room_left _ _ _ c.args.place c.self.invariant c.requires.within unmade in
    omega (arith, room, c.len.ensures)

pub push_reserved-requires : goal.push_reserved-requires
push_reserved-requires c =
    let unmade = seen_made _ _ _ c.args.place _ c.self.view_is c.requires.unmade in
    let room = room_left _ _ _ c.args.place c.self.invariant c.requires.within unmade in
    omega (arith, room, c.self.invariant.room)

pub invariant_of-self : goal.invariant_of-self
invariant_of-self c =
    let unmade = seen_made _ _ _ c.args.place _ c.self.view_is c.requires.unmade in
    let count : c.len.result ≡ length c.self.inside.pool.items = omega (arith, c.len.ensures) in
    rw (c.push_reserved.ensures.items, c.push_reserved.ensures.capacity, count)
    (is_paged_new _ _ _ c.args.place c.self.invariant c.requires.within unmade)

pub returns-clause-bytes : goal.returns-clause-bytes
returns-clause-bytes c =
    let unmade = seen_made _ _ _ c.args.place _ c.self.view_is c.requires.unmade in
    let count : c.len.result ≡ length c.self.inside.pool.items = omega (arith, c.len.ensures) in
    rw (c.push_reserved.ensures.items, count)
    (bytes_new _ _ _ c.args.place c.self.invariant c.requires.within unmade
    ∙ ap (λ (m : Memory). m.bytes) c.self.view_is)

pub returns-clause-made : goal.returns-clause-made
returns-clause-made c =
    let unmade = seen_made _ _ _ c.args.place _ c.self.view_is c.requires.unmade in
    let count : c.len.result ≡ length c.self.inside.pool.items = omega (arith, c.len.ensures) in
    rw count
    (made_new _ _ _ c.args.place c.self.invariant c.requires.within unmade
    ∙ ap (λ (m : Memory). slice_set m.made c.args.place true) c.self.view_is)
