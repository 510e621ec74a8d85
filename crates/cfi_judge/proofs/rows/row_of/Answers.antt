use Rattle.std.proofs.Common.{◌+◌, List, sym, subst, ◌∙◌}
use Rattle.cfi_ledger.specs.Roster.{Roster, loaded_in_roster}
use Rattle.cfi_judge.specs.inner.Meets.{HasLive}
use Rattle.cfi_judge.specs.inner.Rows.{IsMeeting}
use Rattle.cfi_judge.specs.declared.meeting.Meeting.{Meeting}
use Rattle.cfi_judge.proofs.RowLemmas.{IsRowTo, row_more}
use Rattle.cfi_judge.proofs.rows.row_of.Goals as goal

pub loop-number-preserved : goal.loop-number-preserved
loop-number-preserved c =
    let r = c.args.roster.now in
    let ms = c.args.modules.now in
    let number = c.loop-number.number in
    let same = c.loop-number.invariant.same in
    record {
      same = c.in_ok-met.ensures.same ∙ same;
      row = λ live has.
          let meets = c.in_ok-met.ensures.ok live (subst (λ (x : Roster). HasLive x live) (sym same) has) in
          subst (λ (row : List Meeting). IsRowTo r.code_words ms (loaded_in_roster r) live (number + 1) row)
          (sym c.in_ok-push.ensures.items)
          (row_more r.code_words ms (loaded_in_roster r) live number c.loop-number.row.items
          (c.loop-number.invariant.row live has) c.in_ok-met.field-0
          (subst (λ (x : Roster). IsMeeting x.code_words ms (loaded_in_roster x) live number c.in_ok-met.field-0) same
          meets));
    }
