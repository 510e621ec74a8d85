use Rattle.std.proofs.Common.{◌<◌, length, get_or, arith, sym, subst, All}
use Rattle.std.proofs.lemmas.List.Elements.{All-from_get_or, Contains-get_or}
use Rattle.cfi_flow.proofs.fans.fan_of.Goals as goal

pub joined-requires : goal.joined-requires
joined-requires c =
    let order = c.in_ok-order.order.items in
    let inside : All (λ k. k < length c.args.branches.now) order =
    All-from_get_or (λ k. k < length c.args.branches.now) order 0 (λ i h.
    let within : get_or order i 0 < length c.args.along.now =
    c.in_ok-order.ensures.reached.within (get_or order i 0) (Contains-get_or order i 0 h) in
    omega (arith, within, c.requires.branches)) in
    subst (λ xs. All (λ k. k < length c.args.branches.now) xs) (sym c.as_slice.ensures.value) inside
