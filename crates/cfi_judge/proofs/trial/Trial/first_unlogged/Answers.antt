use Rattle.std.proofs.Common.{◌≤◌, List, length, ap, subst, arith}
use Rattle.cfi_report.specs.declared.report.GuestPart.{GuestPart}
use Rattle.cfi_judge.specs.Judge.{HasItsLog}
use Rattle.cfi_judge.specs.inner.Trial.{course_in}
use Rattle.cfi_judge.proofs.PartLemmas.{all_hold, first_part, none_first, one_more, part_there}
use Rattle.cfi_judge.proofs.RefutesLemmas.{not_answered}
use Rattle.cfi_judge.proofs.trial.Trial.first_unlogged.Goals as goal

pub loop-number-init : goal.loop-number-init
loop-number-init c = none_first c.args.self.now.report.now (HasItsLog (course_in c.args.self.now))

pub is_part_logged-requires-clause-few : goal.is_part_logged-requires-clause-few
is_part_logged-requires-clause-few c =
    omega (
      arith,
      c.loop-number-test.true,
      ap (λ (parts : List GuestPart). length parts) c.as_slice-parts.ensures,
      c.requires.few,
    )

pub returns-then-not-is_part_logged-clause-some : goal.returns-then-not-is_part_logged-clause-some
returns-then-not-is_part_logged-clause-some c =
    let report = c.args.self.now.report.now in
    let holds = HasItsLog (course_in c.args.self.now) in
    let n = c.loop-number.number in
    let part = c.index-parts-number.result in
    let there = part_there report c.as_slice-parts.result.now c.as_slice-parts.ensures n part c.loop-number-test.true
    c.index-parts-number.is in
    first_part report holds n c.loop-number.invariant part there
    (not_answered c.is_part_logged.result (holds n part) c.if-not-is_part_logged.true c.is_part_logged.ensures)

pub loop-number-preserved : goal.loop-number-preserved
loop-number-preserved c =
    let report = c.args.self.now.report.now in
    let holds = HasItsLog (course_in c.args.self.now) in
    let n = c.loop-number.number in
    let part = c.index-parts-number.result in
    let there = part_there report c.as_slice-parts.result.now c.as_slice-parts.ensures n part c.loop-number-test.true
    c.index-parts-number.is in
    one_more report holds n c.loop-number.invariant part there
    (c.is_part_logged.ensures.0 c.if-not-is_part_logged.false)

pub returns-clause-none : goal.returns-clause-none
returns-clause-none c =
    all_hold c.args.self.now.report.now (HasItsLog (course_in c.args.self.now)) c.loop-number.number
    c.loop-number.invariant
    (subst (λ (parts : List GuestPart). length parts ≤ c.loop-number.number) c.as_slice-parts.ensures
    c.loop-number-test.false)
