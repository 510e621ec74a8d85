use Rattle.std.proofs.Common.{◌≡◌, ◌↔◌, ◌∙◌, length, take, Some, sym, ap, subst, arith}
use Rattle.std.proofs.Math.Seq.{take-length}
use Rattle.std.specs.Option.{option_or}
use Rattle.cfi_graph.specs.Shaped.{IsShaped}
use Rattle.cfi_graph.specs.Direct.{IsImportTarget}
use Rattle.cfi_graph.specs.Named.{entry_in, entry_among}
use Rattle.cfi_graph.specs.inner.Imports.{imports_in}
use Rattle.cfi_graph.proofs.FirstLemmas.{first_more}
use Rattle.cfi_graph.proofs.ImportLemmas.{are_imports}
use Rattle.cfi_graph.proofs.imports.imports_of.Goals as goal

pub add_module-requires : goal.add_module-requires
add_module-requires c =
    let m = c.placed-item.result in
    subst IsShaped (sym c.placed-item.is) (c.requires c.loop-placed.placed-index m c.loop-placed-test.true)

-- this turn's module is looked at too
pub loop-placed-preserved : goal.loop-placed-preserved
loop-placed-preserved c = λ name.
    let ms = c.args.modules.now in
    let k = c.loop-placed.placed-index in
    let m = c.placed-item.result in
    let more = first_more (λ o. entry_in o name) ms k m c.loop-placed-test.true in
    c.in_ok-add_module.ensures name
    ∙ ap (λ o. option_or o (entry_in m name)) (c.loop-placed.invariant name)
    ∙ ap (λ o. option_or (entry_among (take k ms) name) (entry_in o name)) c.placed-item.is
    ∙ sym more

pub returns-clause-named : goal.returns-clause-named
returns-clause-named c = λ name address.
    let ms = c.args.modules.now in
    let imports = imports_in c.loop-placed.imports name in
    let all : c.loop-placed.placed-index ≡ length ms = omega arith in
    let same : imports ≡ entry_among ms name =
    c.loop-placed.invariant name ∙ ap (λ xs. entry_among xs name) (ap (λ k. take k ms) all ∙ take-length ms) in
    subst (λ o. (o ≡ Some address) ↔ IsImportTarget ms name address) (sym same) (are_imports ms name address)

pub returns-clause-among : goal.returns-clause-among
returns-clause-among c = λ name.
    let ms = c.args.modules.now in
    let all : c.loop-placed.placed-index ≡ length ms = omega arith in
    c.loop-placed.invariant name ∙ ap (λ xs. entry_among xs name) (ap (λ k. take k ms) all ∙ take-length ms)
