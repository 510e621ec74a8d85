use Rattle.std.proofs.Common.{refl, sym, ap, ◌∙◌}
use Rattle.cfi_valid.specs.Log.{EpochsSpent, ModulesFull, NoFunction, NotPlaced, NotVerified, Retired}
use Rattle.cfi_judge.specs.inner.Trial.{course_in, meant}
use Rattle.cfi_judge.proofs.CauseLemmas.{cause_meant}
use Rattle.cfi_judge.proofs.KnownLemmas.{gone_told}
use Rattle.cfi_judge.proofs.trial.Trial.is_caused.Goals as goal

pub returns-in-ModulesFull : goal.returns-in-ModulesFull
returns-in-ModulesFull c = λ at span.
    let course = course_in c.args.self.now in
    let guest = c.args.of.now.guest in
    let log = c.args.of.now.log.now in
    cause_meant course guest log at c.args.number c.args.cause ModulesFull (sym (ap meant c.in-ModulesFull.is)
    ∙ c.why_of.ensures)
    c.meets_in.result (c.meets_in.ensures log at c.requires.risen span)

pub returns-in-NotPlaced : goal.returns-in-NotPlaced
returns-in-NotPlaced c = λ at span.
    let course = course_in c.args.self.now in
    let guest = c.args.of.now.guest in
    let log = c.args.of.now.log.now in
    cause_meant course guest log at c.args.number c.args.cause NotPlaced (sym (ap meant c.in-NotPlaced.is)
    ∙ c.why_of.ensures)
    c.meets_in-in-NotPlaced.result (c.meets_in-in-NotPlaced.ensures log at c.requires.risen span)

pub returns-in-NotVerified : goal.returns-in-NotVerified
returns-in-NotVerified c = λ at span.
    let course = course_in c.args.self.now in
    let guest = c.args.of.now.guest in
    let log = c.args.of.now.log.now in
    cause_meant course guest log at c.args.number c.args.cause NotVerified (sym (ap meant c.in-NotVerified.is)
    ∙ c.why_of.ensures)
    c.meets_in-in-NotVerified.result (c.meets_in-in-NotVerified.ensures log at c.requires.risen span)

pub returns-in-EpochsSpent : goal.returns-in-EpochsSpent
returns-in-EpochsSpent c = λ at span.
    let course = course_in c.args.self.now in
    let guest = c.args.of.now.guest in
    let log = c.args.of.now.log.now in
    cause_meant course guest log at c.args.number c.args.cause EpochsSpent (sym (ap meant c.in-EpochsSpent.is)
    ∙ c.why_of.ensures)
    c.is_spent.result (c.is_spent.ensures guest log at c.requires.risen span)

pub returns-in-NoFunction : goal.returns-in-NoFunction
returns-in-NoFunction c = λ at span.
    let course = course_in c.args.self.now in
    let guest = c.args.of.now.guest in
    let log = c.args.of.now.log.now in
    cause_meant course guest log at c.args.number c.args.cause NoFunction (sym (ap meant c.in-NoFunction.is)
    ∙ c.why_of.ensures)
    c.lacks_function.result (c.lacks_function.ensures course log at refl span)

pub returns-in-Retired : goal.returns-in-Retired
returns-in-Retired c = λ at span.
    let j = c.args.self.now in
    let course = course_in j in
    let guest = c.args.of.now.guest in
    let log = c.args.of.now.log.now in
    cause_meant course guest log at c.args.number c.args.cause Retired (sym (ap meant c.in-Retired.is)
    ∙ c.why_of.ensures)
    c.meets_in-in-Retired.result
    (gone_told course c.requires.trial.journal.course log at c.args.number c.meets_in-in-Retired.result
    (c.meets_in-in-Retired.ensures log at c.requires.risen span))
