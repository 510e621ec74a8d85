use Rattle.std.proofs.Common.{◌≡◌, Some, arith}
use Rattle.std.specs.List.{slice_get}
use Rattle.cfi_judge.specs.inner.Rows.{HasMeeting}
use Rattle.cfi_judge.proofs.HasMeetingLemmas.{past_all, past_most, shows_next}
use Rattle.cfi_judge.proofs.ItemLemmas.{item_there}
use Rattle.cfi_judge.proofs.RefutesLemmas.{not_answered, refuted, yes}
use Rattle.cfi_judge.proofs.reached.Reached.has_met.Goals as goal

pub returns-then-policy-most : goal.returns-then-policy-most
returns-then-policy-most c =
    refuted _ (λ has. past_most c.args.least c.args.self.now.rows.items c.args.number c.args.kind c.args.most
    c.loop-policy.policy c.loop-policy.invariant has c.if-policy-most.true)

-- this row does
pub returns-then-shows : goal.returns-then-shows
returns-then-shows c =
    let rows = c.args.self.now.rows.items in
    let at = c.loop-policy.policy in
    let row = c.index.result.now in
    let has : slice_get rows at ≡ Some row =
    item_there rows at row (omega (arith, c.len-policy-end.ensures, c.loop-policy-test.true)) c.index.ensures in
    yes (HasMeeting c.args.least c.args.most rows c.args.number c.args.kind) (record {
      policy = at;
      above = c.loop-policy.auto.policy;
      below = c.if-policy-most.false;
      row = row;
      has = has;
      shows = c.shows.ensures.0 c.if-shows.true;
    })

-- or not
pub loop-policy-preserved : goal.loop-policy-preserved
loop-policy-preserved c =
    let rows = c.args.self.now.rows.items in
    let at = c.loop-policy.policy in
    let row = c.index.result.now in
    let has : slice_get rows at ≡ Some row =
    item_there rows at row (omega (arith, c.len-policy-end.ensures, c.loop-policy-test.true)) c.index.ensures in
    shows_next c.args.least rows c.args.number c.args.kind at row has
    (not_answered c.shows.result _ c.if-shows.false c.shows.ensures) c.loop-policy.invariant

pub returns : goal.returns
returns c =
    refuted _ (λ has. past_all c.args.least c.args.self.now.rows.items c.args.number c.args.kind c.args.most
    c.loop-policy.policy c.loop-policy.invariant has
    (omega (arith, c.len-policy-end.ensures, c.loop-policy-test.false)))
