use Rattle.std.proofs.Common.{◌-◌, Bool, List, [], length, take, drop, ap, subst, sym, ◌∙◌, arith}
use Rattle.std.specs.Prelude.{◌↔◌, IsTrue}
use Rattle.std.proofs.lemmas.Result.{IfOk-weaker}
use Rattle.cfi_ledger.specs.Roster.{loaded_in_roster}
use Rattle.cfi_plan.specs.declared.journal.Entry.{Entry}
use Rattle.cfi_plan.specs.declared.journal.ModuleLine.{ModuleLine}
use Rattle.cfi_judge.specs.inner.Told.{Follow, changes_in}
use Rattle.cfi_judge.proofs.ModulesLemmas.{rest_told, start_known, starts_are}
use Rattle.cfi_judge.proofs.RefutesLemmas.{not_answered, refuted}
use Rattle.cfi_judge.proofs.modules.has_modules.Goals as goal

-- the lines of the start modules differ
pub returns-then-not-are_lines : goal.returns-then-not-are_lines
returns-then-not-are_lines c =
    refuted _ (λ has.
    not_answered c.are_lines.result _ c.if-not-are_lines.true c.are_lines.ensures
    (starts_are c.args.plan.now c.args.modules.now c.args.report.now c.args.starts.now c.requires.started
    c.as_slice-lines.result.now c.as_slice-lines.ensures (length c.lines-count.result.now)
    (ap (λ (ls : List ModuleLine). length ls) c.lines-count.ensures.value) (omega (arith, c.if-lines-count.false)) has
    ∙ sym c.lines.ensures.value))

-- the start modules are of the plan
pub behind-requires-clause-known : goal.behind-requires-clause-known
behind-requires-clause-known c =
    start_known c.args.plan.now c.args.modules.now c.args.report.now c.args.starts.now c.requires.started

-- those behind them follow, or do not
pub returns : goal.returns
returns c =
    let plan = c.args.plan.now in
    let ms = c.args.modules.now in
    let starts = c.args.starts.now in
    let lines = c.as_slice-lines.result.now in
    let count = length c.lines-count.result.now in
    let rest : List ModuleLine = take (length lines - count) (drop count lines) in
    let told : List Entry → Bool → Type 0 =
    λ journal is. IsTrue is ↔ Follow plan ms (loaded_in_roster starts) [] (changes_in journal) rest in
    IfOk-weaker c.follow.result (told c.as_slice.result.now) _
    (λ is follows.
    rest_told plan ms c.args.report.now starts c.requires.started lines c.as_slice-lines.ensures count
    (ap (λ (ls : List ModuleLine). length ls) c.lines-count.ensures.value) (omega (arith, c.if-lines-count.false))
    (c.are_lines.ensures.0 c.if-not-are_lines.false ∙ c.lines.ensures.value) is
    (subst (λ (journal : List Entry). told journal is) c.as_slice.ensures follows))
    (c.follow.ensures (loaded_in_roster starts) c.in_ok-next.ensures)
