use Rattle.std.proofs.Common.{◌≤◌, length, sym, ◌∙◌, arith}
use Rattle.std.proofs.Math.Bool.{true≢false}
use Rattle.cfi_retire.proofs.UserLemmas.{none_more, none_at_all}
use Rattle.cfi_retire.proofs.user.user_of.Goals as goal

pub returns-then-is_user-clause-some : goal.returns-then-is_user-clause-some
returns-then-is_user-clause-some c = record {
  is = c.is_user.ensures.0 c.if-is_user.true;
  first = c.loop-number.invariant;
}

-- this turn's module is none
pub loop-number-preserved : goal.loop-number-preserved
loop-number-preserved c =
    none_more c.args.modules.now c.args.live.now c.args.target c.loop-number.number c.loop-number.invariant
    (λ user. true≢false (sym (c.is_user.ensures.1 user) ∙ c.if-is_user.false))

pub returns-clause-none : goal.returns-clause-none
returns-clause-none c =
    let all : length c.args.modules.now ≤ c.loop-number.number = omega arith in
    none_at_all c.args.modules.now c.args.live.now c.args.target c.loop-number.number all c.loop-number.invariant
