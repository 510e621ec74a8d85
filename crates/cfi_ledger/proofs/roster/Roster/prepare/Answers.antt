use Rattle.std.proofs.Common.{◌≡◌, ℕ, List, [], ◌∷◌, ◌++◌, length, drop, get_or, ap, sym, subst, ◌∙◌, arith}
use Rattle.std.proofs.lemmas.List.{get_or_push}
use Rattle.cfi_aux.specs.declared.placed.Placed.{Placed}
use Rattle.cfi_plan.specs.declared.journal.ModuleLine.{ModuleLine}
use Rattle.cfi_modules.specs.Series.{Series}
use Rattle.cfi_unit.specs.declared.fill.Fill.{Fill}
use Rattle.cfi_ledger.specs.Roster.{Roster, IsBookOfSeries, HasJoined, line_by, series_of}
use Rattle.cfi_ledger.proofs.JoinedLemmas.{roster_back, roster_joined, roster_with}
use Rattle.cfi_ledger.proofs.roster.Roster.prepare.Goals as goal

-- the book before is that of the series
pub booked-requires-clause-book : goal.booked-requires-clause-book
booked-requires-clause-book c =
    subst (λ (r : Roster). IsBookOfSeries (series_of r) c.args.before.now) (sym c.self.view_is) c.requires.book

-- the candidate has the module as it joined the series
pub returns-in-Ok-brought-clause-ok : goal.returns-in-Ok-brought-clause-ok
returns-in-Ok-brought-clause-ok c =
    let s = c.self.inside.series in
    let new = c.in-Ok.prepared in
    let entrant = c.args.entrant.now in
    let joined = c.in-Ok.ensures.ok in
    let one = joined.0 in
    let m = c.index-modules-len.result in
    let line = c.in-Ok-brought.line in
    let placed_are : c.modules.result.now ≡ s.placed ++ one ∷ [] =
    c.modules.ensures.value ∙ ap (λ (n : Series). n.placed) (c.series.ensures ∙ joined.2) in
    let count : c.len.result ≡ length s.placed =
    omega (arith, c.len.ensures, c.self.inside.lines.ok, c.self.invariant.0) in
    let at : m ≡ one = c.index-modules-len.is ∙ ap (λ (ms : List Placed). get_or ms c.len.result m) placed_are
    ∙ get_or_push s.placed one m c.len.result (sym count) in
    let line_is = c.in-Ok-brought.ensures.line ∙ ap (line_by entrant.number entrant.name.now entrant.policy) at in
    let cells = c.in-Ok-brought.cells.items in
    let retired = c.self.inside.retired.items in
    subst (λ (ls : List ModuleLine). HasJoined entrant.number entrant.name.now entrant.policy c.args.unplaced.now
    c.args.self (roster_with (ls ++ line ∷ []) retired cells new)) (sym c.brought.ensures.lines)
    (roster_joined entrant.number entrant.policy entrant.name.now c.args.unplaced.now s new c.self.inside.lines.items
    retired (drop (length s.placed) c.self.inside.fills.items) c.args.self c.self.view_is joined line line_is cells)

-- and the others are as they were
pub returns-in-Ok-brought-clause-before : goal.returns-in-Ok-brought-clause-before
returns-in-Ok-brought-clause-before c =
    let entrant = c.args.entrant.now in
    let s = c.self.inside.series in
    let fills = c.self.inside.fills.items in
    let lines = c.brought.new.lines.items in
    let kept : drop (length lines) c.brought.new.fills.items ≡ drop (length s.placed) fills =
    ap (λ (fs : List Fill). drop (length lines) fs) c.brought.ensures.fills
    ∙ ap (λ (n : ℕ). drop n fills)
    (ap (λ (ls : List ModuleLine). length ls) c.brought.ensures.lines ∙ c.self.invariant.0) in
    roster_back entrant.number entrant.policy entrant.name.now c.args.unplaced.now s c.in-Ok.prepared
    c.self.inside.lines.items c.self.inside.retired.items (drop (length s.placed) fills) c.args.self
    c.self.view_is c.in-Ok.ensures.ok lines c.brought.ensures.lines (drop (length lines) c.brought.new.fills.items) kept
