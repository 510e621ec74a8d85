use Rattle.std.proofs.Common.{◌≡◌, List, [], ◌∷◌, ◌++◌, length, drop, get_or, ap, sym, subst, ◌∙◌, arith}
use Rattle.std.proofs.lemmas.List.{get_or_push}
use Rattle.cfi_aux.specs.declared.placed.Placed.{Placed}
use Rattle.cfi_plan.specs.declared.journal.ModuleLine.{ModuleLine}
use Rattle.cfi_modules.specs.Series.{Series}
use Rattle.cfi_ledger.specs.Roster.{HasJoined, line_by}
use Rattle.cfi_ledger.proofs.JoinedLemmas.{roster_joined, roster_with}
use Rattle.cfi_ledger.proofs.roster.Roster.add.Goals as goal

-- the roster has the module as it joined the series
pub returns-clause-ok : goal.returns-clause-ok
returns-clause-ok c =
    let s = c.self.inside.series in
    let new = c.add.new.self in
    let entrant = c.args.entrant.now in
    let joined = c.in_ok-add.ensures.ok in
    let one = joined.0 in
    let m = c.index-modules-len.result in
    let line = c.in_ok-line.line in
    let placed_are : c.modules.result.now ≡ s.placed ++ one ∷ [] =
    c.modules.ensures.value ∙ ap (λ (n : Series). n.placed) joined.2 in
    let count : c.len.result ≡ length s.placed =
    omega (arith, c.len.ensures, c.self.inside.lines.ok, c.self.invariant.0) in
    let at : m ≡ one = c.index-modules-len.is ∙ ap (λ (ms : List Placed). get_or ms c.len.result m) placed_are
    ∙ get_or_push s.placed one m c.len.result (sym count) in
    let line_is = c.in_ok-line.ensures.line ∙ ap (line_by entrant.number entrant.name.now entrant.policy) at in
    let lines_are : c.push_reserved.new.self.items ≡ c.self.inside.lines.items ++ line ∷ [] =
    c.push_reserved.ensures.items ∙ ap (λ (ls : List ModuleLine). ls ++ line ∷ []) c.taken.ensures.lines in
    let cells = drop (length new.placed) c.push_reserved-2.new.self.items in
    let retired = c.self.inside.retired.items in
    subst (λ (ls : List ModuleLine). HasJoined entrant.number entrant.name.now entrant.policy c.args.unplaced.now
    c.args.self (roster_with ls retired cells new)) (sym lines_are)
    (roster_joined entrant.number entrant.policy entrant.name.now c.args.unplaced.now s new c.self.inside.lines.items
    retired (drop (length s.placed) c.self.inside.fills.items) c.args.self c.self.view_is joined line line_is cells)
