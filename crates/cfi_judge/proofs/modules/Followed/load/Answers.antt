use Rattle.std.proofs.Common.{◌+◌, refl, subst}
use Rattle.cfi_judge.specs.inner.Next.{Takes}
use Rattle.cfi_judge.specs.inner.Told.{origin_by}
use Rattle.cfi_judge.proofs.FollowLemmas.{no_line, no_place, one_more}
use Rattle.cfi_judge.proofs.modules.Followed.load.Goals as goal

pub returns-then-self-lines : goal.returns-then-self-lines
returns-then-self-lines c = λ before gone is.
    no_line c.args.plan.now c.args.modules.now before gone c.args.load c.args.lines.now c.args.self c.if-self-lines.true

pub returns-in-Some : goal.returns-in-Some
returns-in-Some c = λ before gone is.
    let line = c.index-lines-self.result in
    one_more c.args.plan.now c.args.modules.now before gone c.args.load c.args.lines.now c.args.self line
    c.if-self-lines.false c.index-lines-self.is c.in-Some.next
    (subst (Takes c.args.plan.now c.args.modules.now before gone line (origin_by c.args.load)) c.in-Some.is
    (c.in_ok-taken.ensures before gone is)) (record { next = c.in-Some.next; at = c.args.self.at + 1 }) refl refl

pub returns-in-None : goal.returns-in-None
returns-in-None c = λ before gone is.
    let line = c.index-lines-self.result in
    no_place c.args.plan.now c.args.modules.now before gone c.args.load c.args.lines.now c.args.self line
    c.if-self-lines.false c.index-lines-self.is
    (subst (Takes c.args.plan.now c.args.modules.now before gone line (origin_by c.args.load)) c.in-None.is
    (c.in_ok-taken.ensures before gone is))
