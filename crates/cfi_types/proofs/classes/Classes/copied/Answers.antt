use Rattle.std.proofs.Common.{◌≡◌, ◌∙◌, ◌+◌, [], ◌∷◌, ◌++◌, map, take, get_or, sym, ap}
use Rattle.std.proofs.lemmas.List.{take_more, take_all, map_push}
use Rattle.cfi_types.proofs.classes.Classes.copied.Goals as goal

pub loop-row-init : goal.loop-row-init
loop-row-init c = ap (λ rows. map (λ row. row.items) rows) c.in_ok-rows.ensures.items

-- this turn's row stands behind the others
pub loop-row-preserved : goal.loop-row-preserved
loop-row-preserved c =
    let i = c.loop-row.row-index in
    let rows = c.deref-row-items.result.now in
    let row = c.row-item.result in
    let same : c.in_ok-from_slice.field-0.items ≡ row.items =
    c.in_ok-from_slice.ensures.items ∙ c.as_slice.ensures.value in
    let more = take_more rows i row c.loop-row-test.true in
    let all : map (λ r. r.items) (take (i + 1) rows) ≡ map (λ r. r.items) (take i rows) ++ row.items ∷ [] =
    ap (λ rs. map (λ r. r.items) rs) more ∙ map_push (λ r. r.items) (take i rows) (get_or rows i row)
    ∙ ap (λ r. map (λ r. r.items) (take i rows) ++ r.items ∷ []) (sym c.row-item.is) in
    ap (λ rs. map (λ r. r.items) rs) c.in_ok-push.ensures.items
    ∙ map_push (λ r. r.items) c.loop-row.rows.items c.in_ok-from_slice.field-0
    ∙ ap (λ rs. rs ++ c.in_ok-from_slice.field-0.items ∷ []) c.loop-row.invariant
    ∙ ap (λ r. map (λ r. r.items) (take i rows) ++ r ∷ []) same ∙ sym all

pub returns : goal.returns
returns c =
    let rows = c.deref-row-items.result.now in
    c.loop-row.invariant ∙ ap (λ rs. map (λ r. r.items) rs) (take_all c.loop-row.row-index rows c.loop-row-test.false
    ∙ c.deref-row-items.ensures.value) ∙ c.self.view_is
