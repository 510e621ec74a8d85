use Rattle.cfi_valid.specs.Valid.{HasGuests, course_of}
use Rattle.cfi_judge.specs.Reached.{state_of}
use Rattle.cfi_judge.proofs.JudgeLemmas.{to_guests}
use Rattle.cfi_judge.proofs.RefutesLemmas.{no_of, not_answered, yes_of}
use Rattle.cfi_judge.proofs.judged.end_of.Goals as goal

-- the script is another
pub returns-then-not-called-clause-fault : goal.returns-then-not-called-clause-fault
returns-then-not-called-clause-fault c = (
  state_of c.in_ok-ending.ending.reached,
  c.in_ok-ending.ensures.ok.holds,
  not_answered _ _ c.if-not-called.true c.in_ok-called.ensures,
)

-- the guests are others
pub returns-then-not-ending-clause-fault : goal.returns-then-not-ending-clause-fault
returns-then-not-ending-clause-fault c =
    let end = state_of c.in_ok-ending.ending.reached in
    let course = course_of c.args.plan.now c.args.modules.now c.args.report.now end in (
      end,
      record { before = c.in_ok-ending.ensures.ok.holds; script = c.in_ok-called.ensures.0 c.if-not-called.false },
      not_answered c.in_ok-ending.ending.has_guests (HasGuests course c.args.report.now)
          (no_of c.in_ok-ending.ending.has_guests c.if-not-ending.true) c.in_ok-ending.ensures.ok.guests,
    )

-- the script and the guests hold
pub returns-clause-ok : goal.returns-clause-ok
returns-clause-ok c =
    to_guests c.args.plan.now c.args.modules.now c.args.report.now (state_of c.in_ok-ending.ending.reached)
    c.in_ok-ending.ensures.ok.holds (c.in_ok-called.ensures.0 c.if-not-called.false)
    (c.in_ok-ending.ensures.ok.guests.0 (yes_of c.in_ok-ending.ending.has_guests c.if-not-ending.false))
