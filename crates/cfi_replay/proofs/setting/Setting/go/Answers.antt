use Rattle.std.proofs.Common.{sym, ◌∙◌, rules}
use Rattle.std.specs.Prelude.{IsTrue}
use Rattle.cfi_replay.proofs.GoLemmas.{stuck, went}
use Rattle.cfi_replay.proofs.OpenLemmas.{answer_gone, answer_stuck, asks_now}
use Rattle.cfi_replay.proofs.setting.Setting.go.Goals as goal

pub answer-requires-clause-asks : goal.answer-requires-clause-asks
answer-requires-clause-asks c =
    let done : IsTrue c.turn.result = search rules in
    asks_now (c.turn.ensures.yes done) (sym c.waits.ensures ∙ c.if-waits.true)

pub returns-then-waits-clause-went : goal.returns-then-waits-clause-went
returns-then-waits-clause-went c = λ answered.
    let done : IsTrue c.turn.result = search rules in
    answer_gone (c.turn.ensures.yes done) (sym c.waits.ensures ∙ c.if-waits.true) c.requires.can c.answer.new.cursor
    c.answer.new.machine (c.answer.ensures.yes answered)

pub returns-then-waits-clause-stuck : goal.returns-then-waits-clause-stuck
returns-then-waits-clause-stuck c = λ none.
    let done : IsTrue c.turn.result = search rules in
    answer_stuck (c.turn.ensures.yes done) (sym c.waits.ensures ∙ c.if-waits.true) (c.answer.ensures.no none)

pub returns-clause-went : goal.returns-clause-went
returns-clause-went c =
    let done : IsTrue c.turn.result = search rules in
    went (c.turn.ensures.yes done) (sym c.waits.ensures ∙ c.if-waits.false) c.keep_up.result c.keep_up.new.self
    c.log.result.now c.log.ensures.entries c.keep_up.ensures.same c.keep_up.ensures.took c.keep_up.ensures.none

pub returns-clause-stuck : goal.returns-clause-stuck
returns-clause-stuck c =
    let done : IsTrue c.turn.result = search rules in
    stuck (c.turn.ensures.yes done) (sym c.waits.ensures ∙ c.if-waits.false) c.keep_up.result c.keep_up.new.self
    c.log.result.now c.log.ensures.entries c.keep_up.ensures.same c.keep_up.ensures.took c.keep_up.ensures.none
