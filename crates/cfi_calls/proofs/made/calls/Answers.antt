use Rattle.std.proofs.Common.{◌≡◌, ◌∙◌, IsTrue, [], ◌∷◌, refl, sym, ap, subst}
use Rattle.std.proofs.lemmas.Result.{IfOk-weaker}
use Rattle.cfi_aux.specs.Cells.{have_cells}
use Rattle.cfi_graph.specs.HandMade.{placed_of, void_and_function}
use Rattle.cfi_graph.proofs.CallRows.{call_code, call_rows, call_kinds, call_modules, call_graph}
use Rattle.cfi_policy.specs.Image.{HaveImage}
use Rattle.cfi_calls.proofs.HandMadeLemmas.{calls_end, calls_slots}
use Rattle.cfi_calls.proofs.made.calls.Goals as goal

pub returns : goal.returns
returns c =
    let node = c.args.node in
    let types = c.in_ok-types.types in
    let modules = call_modules node in
    let image : HaveImage modules 1024 = c.low_modules_have_image.ensures modules 1024 (call_graph node c.requires)
    (calls_end node) (calls_slots node) in
    IfOk-weaker c.module_of.result
    (λ m. (cells : IsTrue (have_cells 0 c.in_ok-kinds.kinds.items)) →
    m ≡ placed_of 16 0 call_code call_rows c.in_ok-kinds.kinds.items cells types)
    (λ m. HaveImage (m ∷ []) 1024)
    (λ m all.
    let as_kinds = subst
    (λ kinds. (cells : IsTrue (have_cells 0 kinds)) → m ≡ placed_of 16 0 call_code call_rows kinds cells types)
    c.in_ok-kinds.ensures.items all in
    let is : m ≡ placed_of 16 0 call_code call_rows (call_kinds node) refl void_and_function =
    as_kinds refl ∙ ap (placed_of 16 0 call_code call_rows (call_kinds node) refl) c.in_ok-types.ensures in
    subst (λ one. HaveImage (one ∷ []) 1024) (sym is) image)
    c.module_of.ensures
