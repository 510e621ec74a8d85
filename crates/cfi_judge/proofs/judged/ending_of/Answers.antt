use Rattle.std.proofs.Common.{List, sym, subst}
use Rattle.std.proofs.lemmas.Result.{err_from_is_err_and}
use Rattle.cfi_aux.specs.declared.placed.Placed.{Placed}
use Rattle.cfi_valid.specs.Valid.{course_of}
use Rattle.cfi_judge.specs.Guests.{HasStarts}
use Rattle.cfi_judge.specs.Reached.{state_of}
use Rattle.cfi_judge.proofs.CourseLemmas.{starts_stay}
use Rattle.cfi_judge.proofs.JudgeLemmas.{to_journal}
use Rattle.cfi_judge.proofs.judged.ending_of.Goals as goal

pub returns-in_err-starts-clause-fault : goal.returns-in_err-starts-clause-fault
returns-in_err-starts-clause-fault c =
    let p = err_from_is_err_and c.from_residual.result c.from_residual.ensures.1 in
    rw (p.1, p.2) (c.in_err-starts.ensures.fault c.args.report.now)

-- the modules and the journal hold, and the guests are known by the start modules
pub returns-clause-ok : goal.returns-clause-ok
returns-clause-ok c =
    let plan = c.args.plan.now in
    let modules = c.args.modules.now in
    let report = c.args.report.now in
    let end = state_of c.in_ok-reached.reached in
    let journal = c.in_ok-reached.ensures.ok in
    let course = course_of plan modules report end in
    let starts = subst (λ (ps : List Placed). HasStarts plan ps course) (sym c.modules.ensures.value)
    (starts_stay plan modules c.in_ok-starts.starts report end c.requires c.in_ok-starts.ensures.ok journal) in
    record {
      holds = to_journal plan modules report (c.in_ok-listed.ensures.0 c.if-not-listed.false) end journal;
      reached = c.in_ok-reached.ensures.reached;
      guests = c.has_guests-entered.ensures course starts;
    }
