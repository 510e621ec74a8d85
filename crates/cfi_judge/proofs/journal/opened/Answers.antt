use Rattle.std.proofs.Common.{List, sym, subst}
use Rattle.cfi_ledger.specs.Starts.{opened_state}
use Rattle.cfi_judge.specs.declared.meeting.Meeting.{Meeting}
use Rattle.cfi_judge.specs.inner.Rows.{LackLast}
use Rattle.cfi_judge.proofs.ReachedLemmas.{opening_lacks, opening_live, opening_reached, opening_state}
use Rattle.cfi_judge.proofs.journal.opened.Goals as goal

pub with_row-requires-clause-live : goal.with_row-requires-clause-live
with_row-requires-clause-live c =
    opening_live c.args.plan.now c.args.modules.now c.requires.can c.args.roster c.requires.started c.new.result

pub with_row-requires-clause-near : goal.with_row-requires-clause-near
with_row-requires-clause-near c =
    let plan = c.args.plan.now in
    let r = c.args.roster in
    subst (λ (rows : List (List Meeting)). LackLast r.code_words c.args.modules.now (opened_state plan r) rows)
    (sym c.new.ensures.items) (opening_lacks plan c.args.modules.now c.requires.can r c.requires.started)

pub returns-clause-state : goal.returns-clause-state
returns-clause-state c =
    opening_state c.args.plan.now c.args.modules.now c.requires.can c.args.roster c.requires.started c.new.result
    c.with_row.result c.with_row.ensures.same

pub returns-clause-reached : goal.returns-clause-reached
returns-clause-reached c =
    opening_reached c.args.plan.now c.args.modules.now c.requires.can c.args.roster c.requires.started c.new.result
    c.with_row.result c.with_row.ensures.same c.with_row.ensures.ok
