use Rattle.std.proofs.Common.{◌≡◌, ◌∙◌, ◌∷◌, ◌++◌, [], suc, ℕ, List, Vec, Global, length, get_or, ap, arith}
use Rattle.cfi_flow.proofs.ListLemmas.{row_longer, row_begun, place_of_row}
use Rattle.cfi_flow.proofs.rows.Rows.add.Goals as goal

abbrev items : Vec ℕ Global → List ℕ
items list = list.items

pub returns-then-place-gt0 : goal.returns-then-place-gt0
returns-then-place-gt0 c =
    let at : c.index-place.result.now ≡ get_or c.self.inside.places.items (c.args.row) 0 =
    place_of_row _ c.self.inside.places.items c.args.self.now c.args.row c.index-place.result.now c.self.view_is c.requires
    c.index-place.ensures in
    row_longer items c.self.inside.places.items c.self.inside.lists.items c.args.self.now c.args.row c.args.number
    c.index-place.result.now c.index_mut-list.result.now c.push.new.self c.self.view_is c.self.invariant c.requires
    at (omega (arith, c.if-place-gt0.true)) c.index_mut-list.ensures.value c.in_ok-push.ensures.items

pub returns : goal.returns
returns c =
    let at : c.index-place.result.now ≡ get_or c.self.inside.places.items (c.args.row) 0 =
    place_of_row _ c.self.inside.places.items c.args.self.now c.args.row c.index-place.result.now c.self.view_is c.requires
    c.index-place.ensures in
    let none : get_or c.self.inside.places.items (c.args.row) 0 ≡ 0 =
    omega (arith, at, c.if-place-gt0.false) in
    let one : c.push-2.new.self.items ≡ c.args.number ∷ [] =
    c.in_ok-push-2.ensures.items ∙ ap (λ ys. ys ++ c.args.number ∷ []) c.new-list.ensures.items in
    let place : c.len.result ≡ suc (length c.self.inside.lists.items) =
    omega (arith, c.len.ensures, c.in_ok-push-3.ensures.len) in
    row_begun items c.self.inside.places.items c.self.inside.lists.items c.push-3.new.self.items c.args.self.now
    c.args.row c.args.number c.len.result c.push-2.new.self c.self.view_is c.self.invariant c.requires none one
    c.in_ok-push-3.ensures.items place
