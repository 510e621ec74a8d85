use Rattle.std.proofs.Common.{◌≡◌, ◌∙◌, IsTrue, length, get_or, ap, subst, arith}
use Rattle.std.proofs.lemmas.List.{get_or_default}
use Rattle.cfi_graph.specs.Named.{entry_by}
use Rattle.cfi_graph.specs.inner.Marks.{has_mark}
use Rattle.cfi_graph.proofs.BoundLemmas.{contains_at}
use Rattle.cfi_graph.proofs.FirstLemmas.{first_found}
use Rattle.cfi_graph.proofs.ImportLemmas.{given_named}
use Rattle.cfi_graph.proofs.NameLemmas.{first_next, first_all}
use Rattle.cfi_graph.proofs.names.marks_of.Goals as goal

-- this turn's function is marked too
pub loop-function-preserved : goal.loop-function-preserved
loop-function-preserved c =
    let fs = c.args.placed.now.functions in
    let k = c.loop-function.function-index in
    let same = c.as_slice-function-items.ensures in
    let old = c.loop-function.marks in
    let new = c.add.new.self in
    first_next (λ f. IsTrue (has_mark old f.name)) (λ f. IsTrue (has_mark new f.name)) fs k c.function-item.result
    (λ f has. c.add.ensures.kept f.name has)
    (λ d. c.function-item.is ∙ get_or_default c.as_slice-function-items.result.now k _ d c.loop-function-test.true
    ∙ ap (λ xs. get_or xs k d) same)
    c.loop-function.invariant (subst (λ name. IsTrue (has_mark new name)) c.as_str.ensures c.add.ensures.has)

pub returns : goal.returns
returns c = λ name address is.
    let m = c.args.placed.now in
    let same = ap (λ xs. length xs) c.as_slice-function-items.ensures in
    let all : c.loop-function.function-index ≡ length m.functions = omega (arith, same) in
    let f = first_found (entry_by m name) m.functions address is in
    let named = (given_named m name f.item address f.given).0.named in
    subst (λ n. IsTrue (has_mark c.loop-function.marks n)) named
    (first_all (λ g. IsTrue (has_mark c.loop-function.marks g.name)) m.functions c.loop-function.function-index all
    c.loop-function.invariant f.item (contains_at m.functions f.place f.item f.is))
