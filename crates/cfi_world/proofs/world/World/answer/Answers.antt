use Rattle.std.proofs.Common.{slice_get, sym, ap, subst, ◌∙◌, rules, arith}
use Rattle.cfi_world.specs.Premises.{MayAnswer}
use Rattle.cfi_world.specs.Turns.{answer_turn, reply_in}
use Rattle.cfi_world.specs.inner.Kept.{kept_world}
use Rattle.cfi_world.proofs.CodeLemmas.{item_is, ended_kept, ended_is, may_answer}
use Rattle.cfi_world.proofs.world.World.answer.Goals as goal

-- the answer may come
pub answer-requires : goal.answer-requires
answer-requires c =
    let w = kept_world c.self.inside in
    let r = c.index_mut.result.now in
    let here = item_is w.guests c.args.guest r (search (rules, arith)) c.index_mut.ensures.value in
    let may = subst (λ v. MayAnswer v (reply_in c.args.answer.now)) (sym c.self.view_is) c.requires in
    may_answer w c.self.invariant c.args.guest r here (sym c.is_asking.ensures ∙ c.if-not-is_asking.false)
    (reply_in c.args.answer.now) may

pub invariant_of-self : goal.invariant_of-self
invariant_of-self c =
    let w = kept_world c.self.inside in
    let r = c.index_mut.result.now in
    let here = item_is w.guests c.args.guest r (search (rules, arith)) c.index_mut.ensures.value in
    let may = subst (λ v. MayAnswer v (reply_in c.args.answer.now)) (sym c.self.view_is) c.requires in
    ended_kept w c.self.invariant c.args.guest r here (sym c.is_asking.ensures ∙ c.if-not-is_asking.false)
    (reply_in c.args.answer.now) may c.answer.new.self c.answer.ensures

pub returns : goal.returns
returns c =
    let w = kept_world c.self.inside in
    let r = c.index_mut.result.now in
    let here = item_is w.guests c.args.guest r (search (rules, arith)) c.index_mut.ensures.value in
    ended_is w c.self.invariant c.args.guest r here (sym c.is_asking.ensures ∙ c.if-not-is_asking.false)
    (reply_in c.args.answer.now) c.answer.new.self c.answer.ensures
    ∙ ap (λ v. answer_turn v c.args.guest (reply_in c.args.answer.now) (slice_get v.guests c.args.guest))
    c.self.view_is
