use Rattle.std.proofs.Common.{◌≡◌, ◌^◌, ◌<◌, length, sym, ap, ◌∙◌, subst, rules, arith}
use Rattle.cfi_model.specs.World.{opened_world}
use Rattle.cfi_world.specs.Worlds.{IsWorld}
use Rattle.cfi_world.proofs.OpenLemmas.{quiets_for, whole_with}
use Rattle.cfi_world.proofs.OpeningLemmas.{opened_is}
use Rattle.cfi_world.proofs.world.World.open.Goals as goal

-- what is opened is a world
pub invariant_of-result : goal.invariant_of-result
invariant_of-result c =
    let room : c.args.room < 2 ^ 32 = search (rules, arith) in
    let fuel : c.args.fuel < 2 ^ 32 = search (rules, arith) in
    let many : c.len.result ≡ length c.args.guests.items = search (rules, arith) in
    let is = opened_is c.args.layout c.args.versions c.args.first c.args.image c.args.guests.items c.args.room
    c.args.fuel c.open.ensures.size c.requires room fuel in
    subst (λ qs. IsWorld (record (whole_with c.in_ok-tables.tables c.args.guests.items c.args.fuel) { quiets = qs }))
    (sym (c.registered-quiets.ensures ∙ ap (quiets_for c.args.first) many))
    (subst (λ h. IsWorld (record (whole_with h c.args.guests.items c.args.fuel) {
      quiets = (opened_world c.args.layout c.args.versions c.args.first c.args.image c.args.guests.items c.args.room
          c.args.fuel).quiets;
    })) (sym c.in_ok-tables.ensures.ok) is)
