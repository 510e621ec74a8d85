use Rattle.std.proofs.Common.{subst, rules}
use Rattle.cfi_judge.specs.inner.Leaving.{IsLeaving}
use Rattle.cfi_judge.proofs.LeavingLemmas.{never_used, used_told}
use Rattle.cfi_judge.proofs.RefutesLemmas.{refuted}
use Rattle.cfi_judge.proofs.reached.Reached.is_used_by.Goals as goal

pub returns-in-Used : goal.returns-in-Used
returns-in-Used c = λ plan modules is.
    let r = c.args.self.now in
    let it = subst (IsLeaving r c.args.number) c.in-Used.is (c.leaving.ensures plan modules is) in
    used_told plan modules r is c.args.number c.in-Used.by c.args.user it _ (search rules)

pub returns-in-Unused : goal.returns-in-Unused
returns-in-Unused c = λ plan modules is.
    let r = c.args.self.now in
    let it = subst (IsLeaving r c.args.number) c.in-Unused.is (c.leaving.ensures plan modules is) in
    refuted _ (never_used plan modules r is c.args.number c.in-Unused.field-0 c.args.user it)

pub returns-in-NotLive : goal.returns-in-NotLive
returns-in-NotLive c = λ plan modules is.
    let r = c.args.self.now in
    let it = subst (IsLeaving r c.args.number) c.in-NotLive.is (c.leaving.ensures plan modules is) in
    refuted _ (λ has. it has.live)
