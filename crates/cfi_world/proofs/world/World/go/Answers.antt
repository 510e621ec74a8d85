use Rattle.std.proofs.Common.{◌≡◌, ◌<◌, ◌||◌, false, is_some, length, slice_get, rules, arith, sym, ap, subst, ◌∙◌}
use Rattle.cfi_model.specs.World.{point_of}
use Rattle.cfi_world.specs.Seats.{is_asking}
use Rattle.cfi_world.specs.Turns.{guest_turn}
use Rattle.cfi_world.specs.inner.Kept.{kept_world}
use Rattle.cfi_world.specs.inner.Parts.{seat_by_parts}
use Rattle.cfi_world.proofs.CodeLemmas.{item_is, same_item, steps_fit, logs_fit, going, gone_kept, gone_is}
use Rattle.cfi_world.proofs.world.World.go.Goals as goal

pub act-requires-clause-steps : goal.act-requires-clause-steps
act-requires-clause-steps c =
    let w = kept_world c.self.inside in
    let within : c.args.guest < length w.guests = search (rules, arith) in
    let r = c.index_mut.result.now in
    let here = item_is w.guests c.args.guest r within c.index_mut.ensures.value in
    let same = same_item w.guests c.args.guest c.index.result.now r within c.index.ensures c.index_mut.ensures.value in
    let free : is_some r.base.stop || is_asking (point_of w c.args.guest) ≡ false =
    subst (λ x. is_some x.base.stop || is_asking (point_of w c.args.guest) ≡ false) same
    (sym c.is_held.ensures ∙ c.if-is_held.false) in
    steps_fit w c.self.invariant c.args.guest r here (going w c.self.invariant c.args.guest r here free)

pub act-requires-clause-logged : goal.act-requires-clause-logged
act-requires-clause-logged c =
    let w = kept_world c.self.inside in
    let within : c.args.guest < length w.guests = search (rules, arith) in
    let r = c.index_mut.result.now in
    let here = item_is w.guests c.args.guest r within c.index_mut.ensures.value in
    logs_fit w c.self.invariant c.args.guest r here

pub invariant_of-self : goal.invariant_of-self
invariant_of-self c =
    let w = kept_world c.self.inside in
    let within : c.args.guest < length w.guests = search (rules, arith) in
    let r = c.index_mut.result.now in
    let here = item_is w.guests c.args.guest r within c.index_mut.ensures.value in
    let same = same_item w.guests c.args.guest c.index.result.now r within c.index.ensures c.index_mut.ensures.value in
    let free : is_some r.base.stop || is_asking (point_of w c.args.guest) ≡ false =
    subst (λ x. is_some x.base.stop || is_asking (point_of w c.args.guest) ≡ false) same
    (sym c.is_held.ensures ∙ c.if-is_held.false) in
    gone_kept w c.self.invariant c.args.guest r here free
    (seat_by_parts c.act.new.guest c.act.new.point c.act.new.quiet) c.act.ensures.seat

pub returns : goal.returns
returns c =
    let w = kept_world c.self.inside in
    let within : c.args.guest < length w.guests = search (rules, arith) in
    let r = c.index_mut.result.now in
    let here = item_is w.guests c.args.guest r within c.index_mut.ensures.value in
    let same = same_item w.guests c.args.guest c.index.result.now r within c.index.ensures c.index_mut.ensures.value in
    let free : is_some r.base.stop || is_asking (point_of w c.args.guest) ≡ false =
    subst (λ x. is_some x.base.stop || is_asking (point_of w c.args.guest) ≡ false) same
    (sym c.is_held.ensures ∙ c.if-is_held.false) in
    gone_is w c.self.invariant c.args.guest r here free
    (seat_by_parts c.act.new.guest c.act.new.point c.act.new.quiet) c.act.result c.act.ensures.seat c.act.ensures.turned
    ∙ ap (λ x. guest_turn x c.args.guest (slice_get x.guests c.args.guest)) c.self.view_is
