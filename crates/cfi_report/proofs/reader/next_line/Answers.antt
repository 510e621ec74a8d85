use Rattle.std.proofs.Common.{sym, ◌∙◌}
use Rattle.cfi_report.proofs.NextLemmas.{next-IsNext, astray-HasNoNext, unread-HasNoNext}
use Rattle.cfi_report.proofs.reader.next_line.Goals as goal

pub returns-then-not-may_follow-clause-none : goal.returns-then-not-may_follow-clause-none
returns-then-not-may_follow-clause-none c =
    let found = rw c.in-Some-2.is at c.in_ok-line.ensures in
    astray-HasNoNext c.args.stage c.args.text.now c.in-Some.bare.now c.in-Some.rest.now c.in-Some-2.line
    c.in-Some.ensures.some c.in-Some.ensures.first found (sym c.may_follow.ensures ∙ c.if-not-may_follow.true)

pub returns-else-not-may_follow-clause-found : goal.returns-else-not-may_follow-clause-found
returns-else-not-may_follow-clause-found c =
    let found = rw c.in-Some-2.is at c.in_ok-line.ensures in
    next-IsNext c.args.stage c.args.text.now c.in-Some.bare.now c.in-Some.rest.now c.in-Some-2.line
    c.in-Some.ensures.some found (sym c.may_follow.ensures ∙ c.if-not-may_follow.false)

pub returns-in-None-clause-none : goal.returns-in-None-clause-none
returns-in-None-clause-none c =
    let found = rw c.in-None.is at c.in_ok-line.ensures in
    unread-HasNoNext c.args.stage c.args.text.now c.in-Some.bare.now c.in-Some.rest.now c.in-Some.ensures.some
    c.in-Some.ensures.first found
