use Rattle.cfi_ledger.specs.Roster.{members_in_roster}
use Rattle.cfi_judge.specs.inner.Log.{LacksBy}
use Rattle.cfi_judge.proofs.ItemLemmas.{item_there}
use Rattle.cfi_judge.proofs.LogLemmas.{none_next, within_other}
use Rattle.cfi_judge.proofs.SpanLemmas.{bare_here, none_bare}
use Rattle.cfi_judge.proofs.RefutesLemmas.{not_answered, refuted, yes}
use Rattle.cfi_judge.proofs.span.lacks_by.Goals as goal

pub returns-then-is_bare_at : goal.returns-then-is_bare_at
returns-then-is_bare_at c =
    let r = c.args.roster.now in
    let lines = c.lines-lines.result.now in
    let placed = c.modules-modules.result.now in
    let line = item_there lines c.loop-at.at c.index-lines-at.result c.loop-at-test.true c.index-lines-at.is in
    let inside = within_other lines placed c.loop-at.at c.loop-at-test.true r c.lines-lines.ensures.many
    c.lines-lines.ensures.value
    c.modules-modules.ensures.value in
    let p = item_there placed c.loop-at.at c.index-modules-at.result inside c.index-modules-at.is in
    yes (LacksBy c.args.span.least c.args.span.most (members_in_roster r) c.args.number)
    (bare_here r c.lines-lines.ensures.many lines c.lines-lines.ensures.value placed c.modules-modules.ensures.value
    c.retired-retired.result.now c.retired-retired.ensures c.args.number c.args.span.least c.args.span.most c.loop-at.at
    c.index-lines-at.result c.index-modules-at.result line p (c.is_bare_at.ensures.0 c.if-is_bare_at.true))

pub loop-at-preserved : goal.loop-at-preserved
loop-at-preserved c =
    let r = c.args.roster.now in
    let lines = c.lines-lines.result.now in
    let placed = c.modules-modules.result.now in
    let line = item_there lines c.loop-at.at c.index-lines-at.result c.loop-at-test.true c.index-lines-at.is in
    let inside = within_other lines placed c.loop-at.at c.loop-at-test.true r c.lines-lines.ensures.many
    c.lines-lines.ensures.value
    c.modules-modules.ensures.value in
    let p = item_there placed c.loop-at.at c.index-modules-at.result inside c.index-modules-at.is in
    none_next _ lines placed c.loop-at.at c.index-lines-at.result c.index-modules-at.result line p
    (not_answered c.is_bare_at.result _ c.if-is_bare_at.false c.is_bare_at.ensures) c.loop-at.invariant

pub returns : goal.returns
returns c =
    let r = c.args.roster.now in
    refuted (LacksBy c.args.span.least c.args.span.most (members_in_roster r) c.args.number)
    (none_bare r c.lines-lines.ensures.many c.lines-lines.result.now c.lines-lines.ensures.value
    c.modules-modules.result.now c.modules-modules.ensures.value c.retired-retired.result.now c.retired-retired.ensures
    c.args.number c.args.span.least c.args.span.most c.loop-at.at c.loop-at-test.false c.loop-at.invariant)
