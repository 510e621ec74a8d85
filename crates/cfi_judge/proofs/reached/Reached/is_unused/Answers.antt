use Rattle.std.proofs.Common.{subst}
use Rattle.cfi_judge.specs.inner.Leaving.{IsLeaving}
use Rattle.cfi_judge.proofs.LeavingLemmas.{never_unused}
use Rattle.cfi_judge.proofs.RefutesLemmas.{refuted, yes}
use Rattle.cfi_judge.proofs.reached.Reached.is_unused.Goals as goal

pub returns-in-Used : goal.returns-in-Used
returns-in-Used c = λ plan modules is.
    let r = c.args.self.now in
    let it = subst (IsLeaving r c.args.number) c.in-Used.is (c.leaving.ensures plan modules is) in
    refuted _ (never_unused plan modules r is c.args.number c.in-Used.field-0 it)

pub returns-in-Unused : goal.returns-in-Unused
returns-in-Unused c = λ plan modules is.
    let r = c.args.self.now in
    let it = subst (IsLeaving r c.args.number) c.in-Unused.is (c.leaving.ensures plan modules is) in
    yes _ it.0

pub returns-in-NotLive : goal.returns-in-NotLive
returns-in-NotLive c = λ plan modules is.
    let r = c.args.self.now in
    let it = subst (IsLeaving r c.args.number) c.in-NotLive.is (c.leaving.ensures plan modules is) in
    refuted _ (λ has. it has.live)
