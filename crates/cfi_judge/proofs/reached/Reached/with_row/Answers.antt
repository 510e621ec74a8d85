use Rattle.std.proofs.Common.{List, sym, subst, arith}
use Rattle.cfi_judge.specs.Reached.{state_of}
use Rattle.cfi_judge.specs.inner.Rows.{AreRows}
use Rattle.cfi_judge.specs.declared.meeting.Meeting.{Meeting}
use Rattle.cfi_judge.proofs.RowLemmas.{rows_last}
use Rattle.cfi_judge.proofs.reached.Reached.with_row.Goals as goal

pub returns-clause-ok : goal.returns-clause-ok
returns-clause-ok c =
    let old = c.args.self in
    let words = old.roster.code_words in
    let ms = c.args.modules.now in
    subst (λ (rows : List (List Meeting)). AreRows words ms (state_of old) rows) (sym c.in_ok-push.ensures.items)
    (rows_last words ms (state_of old) old.rows.items c.requires.near
    (omega (arith, c.len.ensures, c.if-len-self.false)) c.in_ok-row.row (c.in_ok-row.ensures.ok _ c.requires.live))
