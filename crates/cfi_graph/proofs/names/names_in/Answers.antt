use Rattle.std.proofs.Common.{◌≡◌, ◌∙◌, length, subst, arith}
use Rattle.std.proofs.lemmas.List.{get_or_default}
use Rattle.cfi_graph.specs.inner.Names.{HasImports}
use Rattle.cfi_graph.proofs.NameLemmas.{first_next, first_all}
use Rattle.cfi_graph.proofs.names.names_in.Goals as goal

-- this turn's module is looked at too
pub loop-placed-preserved : goal.loop-placed-preserved
loop-placed-preserved c =
    let ms = c.args.modules.now in
    let k = c.loop-placed.placed-index in
    let more = c.add_imports.new.self in
    first_next (λ n. HasImports c.loop-placed.names n.branches) (λ n. HasImports more n.branches) ms k
    c.placed-item.result (λ n has name cell there. c.in_ok-add_imports.ensures.kept name (has name cell there))
    (λ d. c.placed-item.is ∙ get_or_default ms k _ d c.loop-placed-test.true) c.loop-placed.invariant
    (subst (HasImports more) c.as_slice.ensures c.in_ok-add_imports.ensures.has)

pub returns : goal.returns
returns c = λ m has.
    let ms = c.args.modules.now in
    let all : c.loop-placed.placed-index ≡ length ms = omega arith in
    first_all (λ n. HasImports c.loop-placed.names n.branches) ms c.loop-placed.placed-index all c.loop-placed.invariant
    m has
