use Rattle.std.proofs.Common.{◌≡◌, ◌+◌, ◌<◌, true, false, length, refl, sym, ◌∙◌, subst, rules}
use Rattle.cfi_report.specs.inner.Draft.{ReportSoFar, is_whole}
use Rattle.cfi_report.proofs.ReadLemmas.{IsRead, read-next, fault-wanted, fault-left, read-whole}
use Rattle.cfi_report.proofs.reader.read_report.Goals as goal

pub returns-in_default-clause-fault : goal.returns-in_default-clause-fault
returns-in_default-clause-fault c =
    let never = rw c.in_default.is at c.in_ok-line.ensures.none in
    let going : is_whole c.stage.result ≡ false = cc
    (c.stage.ensures, c.is_whole.ensures, c.loop-alloc-test.true) in
    fault-wanted c.args.text.now c.loop-alloc.rest.now c.loop-alloc.number c.loop-alloc.draft c.stage.result
    c.loop-alloc.invariant c.stage.ensures never going

pub returns-in_default-clause-only : goal.returns-in_default-clause-only
returns-in_default-clause-only c =
    λ report is same. absurd ((returns-in_default-clause-fault c).no_report report is same)

pub returns-then-not-is_empty-clause-fault : goal.returns-then-not-is_empty-clause-fault
returns-then-not-is_empty-clause-fault c =
    let draft = c.loop-alloc.draft in
    let whole : is_whole draft.stage ≡ true = sym c.is_whole.ensures ∙ c.loop-alloc-test.false in
    let some : 0 < length c.loop-alloc.rest.now = search rules in
    fault-left c.args.text.now c.loop-alloc.rest.now c.loop-alloc.number draft draft.stage c.loop-alloc.invariant refl
    whole some

pub returns-then-not-is_empty-clause-only : goal.returns-then-not-is_empty-clause-only
returns-then-not-is_empty-clause-only c =
    λ report is same. absurd ((returns-then-not-is_empty-clause-fault c).no_report report is same)

pub loop-alloc-preserved : goal.loop-alloc-preserved
loop-alloc-preserved c =
    let next = rw c.stage.ensures at (rw c.in-Some.is at c.in_ok-line.ensures.found) in
    let read = read-next c.args.text.now c.loop-alloc.rest.now c.in-Some.after.now c.loop-alloc.number
    c.loop-alloc.draft c.in-Some.line c.loop-alloc.invariant next in
    subst (λ (draft : ReportSoFar). IsRead c.args.text.now c.in-Some.after.now (c.loop-alloc.number + 1) draft)
    (sym c.in_ok-add.ensures) read

pub returns : goal.returns
returns c =
    let draft = c.loop-alloc.draft in
    let whole : is_whole draft.stage ≡ true = sym c.is_whole.ensures ∙ c.loop-alloc-test.false in
    let none : length c.loop-alloc.rest.now ≡ 0 = search rules in
    let all = read-whole c.args.text.now c.loop-alloc.rest.now c.loop-alloc.number draft draft.stage
    c.into_report.result c.loop-alloc.invariant refl whole none c.into_report.ensures in
    record { ok = all.is; text = all.text; only = all.only; fault = tt }
