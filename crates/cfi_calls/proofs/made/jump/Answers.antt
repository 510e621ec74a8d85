use Rattle.std.proofs.Common.{◌≡◌, ◌∙◌, IsTrue, FitsSigned, false, [], ◌∷◌, refl, sym, ap, subst}
use Rattle.std.specs.Int.{w32}
use Rattle.std.proofs.lemmas.Int.{to_z-of_z}
use Rattle.std.proofs.lemmas.Result.{IfOk-weaker}
use Rattle.cfi_unit.specs.declared.unit.Unit.TheVariants.{Jump}
use Rattle.cfi_aux.specs.Cells.{have_cells}
use Rattle.cfi_graph.specs.HandMade.{placed_of}
use Rattle.cfi_graph.specs.Shaped.{IsShaped}
use Rattle.cfi_calls.proofs.HandMadeLemmas.{jump_shaped}
use Rattle.cfi_calls.proofs.made.jump.Goals as goal

pub returns : goal.returns
returns c =
    let base = c.args.base in
    let off = c.args.off in
    let code = Jump false off ∷ [] in
    let types = c.from_vec-types.result in
    let none : types ≡ [] = c.from_vec-types.ensures ∙ c.new.ensures.items in
    let shaped = jump_shaped base off c.requires.begins c.requires.ends c.requires.unit in
    let fits : FitsSigned w32 off = c.ranges.off in
    let made = simp to_z-of_z at c.module_of.ensures in
    IfOk-weaker c.module_of.result
    (λ m. (cells : IsTrue (have_cells 0 c.new-2.result.items)) →
    m ≡ placed_of base 0 code [] c.new-2.result.items cells types)
    IsShaped
    (λ m all.
    let as_kinds = subst
    (λ kinds. (cells : IsTrue (have_cells 0 kinds)) → m ≡ placed_of base 0 code [] kinds cells types)
    c.new-2.ensures.items all in
    let is : m ≡ placed_of base 0 code [] [] refl [] = as_kinds refl ∙ ap (placed_of base 0 code [] [] refl) none in
    subst IsShaped (sym is) shaped)
    made
