use Rattle.cfi_aux.specs.declared.placed.Placed.{Placed}
use Rattle.cfi_ledger.specs.Roster.{members_in_roster}
use Rattle.cfi_modules.specs.Entry.{IsFirstOf, IsGlobal}
use Rattle.cfi_valid.specs.Loaded.{live_at}
use Rattle.cfi_valid.specs.Log.{HasFunctionAt}
use Rattle.cfi_judge.proofs.ItemLemmas.{item_there}
use Rattle.cfi_judge.proofs.LogLemmas.{none_here, none_next, one_here, within_other}
use Rattle.cfi_judge.proofs.RefutesLemmas.{not_answered, refuted, yes}
use Rattle.cfi_judge.proofs.log.has_function_at.Goals as goal

pub returns-then-is_open_at : goal.returns-then-is_open_at
returns-then-is_open_at c =
    let r = c.args.roster.now in
    let lines = c.lines-lines.result.now in
    let placed = c.modules-modules.result.now in
    let line = item_there lines c.loop-at.at c.index-lines-at.result c.loop-at-test.true c.index-lines-at.is in
    let inside = within_other lines placed c.loop-at.at c.loop-at-test.true r c.lines-lines.ensures.many
    c.lines-lines.ensures.value
    c.modules-modules.ensures.value in
    let p = item_there placed c.loop-at.at c.index-modules-at.result inside c.index-modules-at.is in
    let one = one_here (λ (q : Placed). IsFirstOf IsGlobal q c.args.opened.address) c.args.opened.number
    c.args.opened.policy r
    c.lines-lines.ensures.many lines c.lines-lines.ensures.value placed c.modules-modules.ensures.value
    c.retired-retired.result.now c.retired-retired.ensures c.loop-at.at c.index-lines-at.result
    c.index-modules-at.result line p (c.is_open_at.ensures.0 c.if-is_open_at.true) in
    yes (HasFunctionAt (live_at c.args.opened.policy (members_in_roster r)) c.args.opened.number c.args.opened.address)
    (record { one = one.one; has = one.has; is = one.is; first = one.holds })

pub loop-at-preserved : goal.loop-at-preserved
loop-at-preserved c =
    let r = c.args.roster.now in
    let lines = c.lines-lines.result.now in
    let placed = c.modules-modules.result.now in
    let line = item_there lines c.loop-at.at c.index-lines-at.result c.loop-at-test.true c.index-lines-at.is in
    let inside = within_other lines placed c.loop-at.at c.loop-at-test.true r c.lines-lines.ensures.many
    c.lines-lines.ensures.value
    c.modules-modules.ensures.value in
    let p = item_there placed c.loop-at.at c.index-modules-at.result inside c.index-modules-at.is in
    none_next _ lines placed c.loop-at.at c.index-lines-at.result c.index-modules-at.result line p
    (not_answered c.is_open_at.result _ c.if-is_open_at.false c.is_open_at.ensures) c.loop-at.invariant

pub returns : goal.returns
returns c =
    let r = c.args.roster.now in
    refuted (HasFunctionAt (live_at c.args.opened.policy (members_in_roster r)) c.args.opened.number
    c.args.opened.address)
    (λ has. none_here (λ (q : Placed). IsFirstOf IsGlobal q c.args.opened.address) c.args.opened.number
    c.args.opened.policy r
    c.lines-lines.ensures.many c.lines-lines.result.now c.lines-lines.ensures.value c.modules-modules.result.now
    c.modules-modules.ensures.value c.retired-retired.result.now c.retired-retired.ensures c.loop-at.at
    c.loop-at-test.false c.loop-at.invariant
    (record { one = has.one; has = has.has; is = has.is; holds = has.first }))
