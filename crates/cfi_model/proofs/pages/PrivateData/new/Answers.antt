use Rattle.std.proofs.Common.{arith, refl}
use Rattle.cfi_model.proofs.MakeLemmas.{blank_bytes, blank_paged}
use Rattle.cfi_model.proofs.pages.PrivateData.new.Goals as goal

pub invariant_of-result : goal.invariant_of-result
invariant_of-result c =
    let room = c.push_reserved.ensures.capacity in
    let made = c.in_ok-pool.ensures.capacity in
    rw (c.push_reserved.ensures.items, c.in_ok-pool.ensures.items) (blank_paged _ (omega (arith, room, made)))

pub returns : goal.returns
returns c = rw (c.push_reserved.ensures.items, c.in_ok-pool.ensures.items, blank_bytes) refl
