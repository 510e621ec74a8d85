use Rattle.std.proofs.Common.{subst}
use Rattle.cfi_judge.specs.inner.Leaving.{IsLeaving}
use Rattle.cfi_judge.proofs.LeavingLemmas.{never_unused}
use Rattle.cfi_judge.proofs.LineLemmas.{retire_kept, retires}
use Rattle.cfi_judge.proofs.reached.Reached.retire.Goals as goal

pub returns-in-Used-clause-fault : goal.returns-in-Used-clause-fault
returns-in-Used-clause-fault c = λ leads.
    let r = c.args.self in
    let plan = c.args.plan.now in
    let ms = c.args.modules.now in
    let it = subst (IsLeaving r c.args.retirement.number) c.in-Used.is (c.leaving.ensures plan ms c.requires) in
    never_unused plan ms r c.requires c.args.retirement.number c.in-Used.field-0 it leads.1.0.unused

pub returns-in-NotLive-clause-fault : goal.returns-in-NotLive-clause-fault
returns-in-NotLive-clause-fault c = λ leads.
    let it = subst (IsLeaving c.args.self c.args.retirement.number) c.in-NotLive.is
    (c.leaving.ensures c.args.plan.now c.args.modules.now c.requires) in
    it leads.1.0.unused.live

pub retire-requires : goal.retire-requires
retire-requires c =
    let it = subst (IsLeaving c.args.self c.args.retirement.number) c.in-Unused.is
    (c.leaving.ensures c.args.plan.now c.args.modules.now c.requires) in
    it.1.within

pub returns-clause-ok : goal.returns-clause-ok
returns-clause-ok c =
    let r = c.args.self in
    let one = c.args.retirement in
    let it = subst (IsLeaving r one.number) c.in-Unused.is (c.leaving.ensures c.args.plan.now c.args.modules.now
    c.requires)
    in
    retires c.args.plan.now c.args.modules.now r c.requires one.number c.in-Unused.place it one.epoch one.policy
    (c.is_next_policy.ensures.0 c.in_ok-must-2.ensures.ok) c.in_ok-roster.roster c.in_ok-roster.ensures
    (c.is_next_epoch.ensures.0 c.in_ok-must.ensures.ok)

pub returns-clause-kept : goal.returns-clause-kept
returns-clause-kept c =
    let r = c.args.self in
    let one = c.args.retirement in
    let it = subst (IsLeaving r one.number) c.in-Unused.is (c.leaving.ensures c.args.plan.now c.args.modules.now
    c.requires)
    in
    retire_kept c.args.plan.now c.args.modules.now r c.requires one.number c.in-Unused.place it one.epoch one.policy
    (c.is_next_policy.ensures.0 c.in_ok-must-2.ensures.ok) c.in_ok-roster.roster c.in_ok-roster.ensures
