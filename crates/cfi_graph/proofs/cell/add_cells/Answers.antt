use Rattle.std.proofs.Common.{◌≡◌, ◌∙◌, ◌+◌, ◌<◌, ◌++◌, ◌∷◌, [], length, take, get_or, sym, ap, subst}
use Rattle.std.proofs.lemmas.List.{append_assoc, append-nil}
use Rattle.std.specs.List.{filter_map, cons_option}
use Rattle.cfi_graph.specs.Cell.{cell_by}
use Rattle.cfi_graph.specs.inner.Imports.{imports_in}
use Rattle.cfi_graph.proofs.CellLemmas.{picked_more}
use Rattle.cfi_graph.proofs.cell.add_cells.Goals as goal
use Rattle.cfi_graph.proofs.cell.add_cells.Goals.{in-Some+in_ok-push, in_default}

-- this turn's branch has its cell behind those before, or none
pub loop-kind-preserved : goal.loop-kind-preserved
loop-kind-preserved c =
    let xs = c.args.placed.now.branches in
    let k = c.loop-kind.kind-index in
    let within : k < length xs = subst (λ ys. k < length ys) c.as_slice-kind-items.ensures c.loop-kind-test.true in
    let cell = cell_by (imports_in c.args.imports.now) c.args.placed.now in
    let kind = c.kind-item.result in
    let found = c.in_ok-cell.field-0 in
    let before = filter_map cell (take k xs) in
    let item : kind ≡ get_or xs k kind =
    c.kind-item.is ∙ ap (λ ys. get_or ys k kind) c.as_slice-kind-items.ensures in
    let given : cell (get_or xs k kind) ≡ found = ap cell (sym item) ∙ sym c.in_ok-cell.ensures in
    let more : filter_map cell (take (k + 1) xs) ≡ before ++ cons_option found [] =
    picked_more cell xs k kind within ∙ ap (λ o. before ++ cons_option o []) given in
    elim c.match-branch-2.branch [
      | in-Some+in_ok-push w ↦
          let one : filter_map cell (take (k + 1) xs) ≡ before ++ w.in-Some.cell ∷ [] =
          more ∙ ap (λ o. before ++ cons_option o []) w.in-Some.is in
          ap (λ v. v.items) w.cells-is ∙ w.in_ok-push.ensures.items
          ∙ ap (λ l. l ++ w.in-Some.cell ∷ []) c.loop-kind.invariant
          ∙ append_assoc c.args.cells.now.items before (w.in-Some.cell ∷ [])
          ∙ ap (λ l. c.args.cells.now.items ++ l) (sym one)
      | in_default w ↦
          let none : filter_map cell (take (k + 1) xs) ≡ before =
          more ∙ ap (λ o. before ++ cons_option o []) w.in_default.is ∙ append-nil before in
          ap (λ v. v.items) w.cells-is ∙ c.loop-kind.invariant
          ∙ ap (λ l. c.args.cells.now.items ++ l) (sym none)
    ]
