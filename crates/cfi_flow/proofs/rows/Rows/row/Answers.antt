use Rattle.std.proofs.Common.{◌≡◌, ◌∙◌, ◌≤◌, ℕ, List, Vec, Global, get_or, length, sym, subst, arith}
use Rattle.cfi_flow.proofs.ListLemmas.{kept_row, place_of_row}
use Rattle.cfi_flow.proofs.rows.Rows.row.Goals as goal

abbrev items : Vec ℕ Global → List ℕ
items list = list.items

pub returns-in_default : goal.returns-in_default
returns-in_default c =
    let at : c.index.result.now ≡ get_or c.self.inside.places.items (c.args.row) 0 =
    place_of_row _ c.self.inside.places.items c.args.self.now c.args.row c.index.result.now c.self.view_is c.requires
    c.index.ensures in
    let within : c.index.result.now ≤ length c.self.inside.lists.items =
    subst (λ p. p ≤ length c.self.inside.lists.items) (sym at) (c.self.invariant.within c.args.row) in
    c.as_slice.ensures.value
    ∙ kept_row items c.self.inside.places.items c.self.inside.lists.items c.args.self.now c.args.row c.index.result.now
    c.index-in_default.result.now c.self.view_is c.requires at (omega (arith, c.in_default)) within c.index-in_default.ensures
