use Rattle.std.proofs.Common.{ℕ, List, Option, refl, sym, subst}
use Rattle.std.specs.Option.{IfSome, IsSome}
use Rattle.cfi_valid.specs.Guests.{EntersIn}
use Rattle.cfi_sim.proofs.OpeningLemmas.{more_guests, there}
use Rattle.cfi_sim.proofs.opening.open_guests.Goals as goal

-- the guest has somewhere to begin
pub unwrap-address-requires : goal.unwrap-address-requires
unwrap-address-requires c =
    let plan = c.args.plan.now in
    let entry = c.entry-item.result in
    let found = c.requires.enter c.loop-number.number entry
    (there plan c.args.starts.now c.args.fills.now c.as_slice-entry-items.result.now c.as_slice-entry-items.ensures
    c.loop-number.number entry c.loop-number-test.true c.entry-item.is c.loop-number.guests.items
    c.loop-number.invariant c.as_str.result.now c.as_str.ensures) in
    let its = subst (λ (e : List ℕ). EntersIn plan c.args.starts.now e found.0) (sym c.as_str.ensures) found.1 in
    subst (λ (o : Option ℕ). IsSome o) (sym (c.entry_at.ensures.only found.0 its)) refl

pub loop-number-preserved : goal.loop-number-preserved
loop-number-preserved c =
    let enters = subst (λ (o : Option ℕ). IfSome o (EntersIn c.args.plan.now c.args.starts.now c.as_str.result.now))
    c.unwrap-address.ensures c.entry_at.ensures.some in
    more_guests c.args.plan.now c.args.starts.now c.args.fills.now c.as_slice-entry-items.result.now
    c.as_slice-entry-items.ensures c.loop-number.number c.entry-item.result c.loop-number-test.true c.entry-item.is
    c.loop-number.guests.items c.loop-number.invariant c.as_str.result.now c.as_str.ensures c.in_ok-open.field-0
    (record { address = c.unwrap-address.result; enters = enters; is = c.in_ok-open.ensures })
    c.push.new.self.items c.in_ok-push.ensures.items
