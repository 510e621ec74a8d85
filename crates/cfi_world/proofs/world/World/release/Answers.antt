use Rattle.std.proofs.Common.{◌≡◌, true, is_some, slice_get, sym, ap, ◌∙◌, rules, arith}
use Rattle.cfi_world.specs.Turns.{release_turn}
use Rattle.cfi_world.specs.inner.Kept.{kept_world}
use Rattle.cfi_world.proofs.CodeLemmas.{item_is, some_by, released_kept, released_is}
use Rattle.cfi_world.proofs.world.World.release.Goals as goal

-- a guest that has stopped is released
pub invariant_of-self : goal.invariant_of-self
invariant_of-self c =
    let w = kept_world c.self.inside in
    let r = c.index.result.now in
    let here = item_is w.guests c.args.guest r (search (rules, arith)) c.index.ensures in
    let stopped : is_some r.base.stop ≡ true =
    some_by r.base.stop c.stop.result c.is_none.result c.stop.ensures c.is_none.ensures c.if-is_none.false in
    released_kept w c.self.invariant c.args.guest r here stopped
    (sym c.is_registered.ensures ∙ c.if-not-is_registered.false) (sym c.is_idle.ensures ∙ c.if-not-is_idle.false)

pub returns : goal.returns
returns c =
    let w = kept_world c.self.inside in
    let r = c.index.result.now in
    let here = item_is w.guests c.args.guest r (search (rules, arith)) c.index.ensures in
    let stopped : is_some r.base.stop ≡ true =
    some_by r.base.stop c.stop.result c.is_none.result c.stop.ensures c.is_none.ensures c.if-is_none.false in
    released_is w c.self.invariant c.args.guest r here stopped
    (sym c.is_registered.ensures ∙ c.if-not-is_registered.false) (sym c.is_idle.ensures ∙ c.if-not-is_idle.false)
    ∙ ap (λ v. release_turn v c.args.guest (slice_get v.guests c.args.guest)) c.self.view_is
