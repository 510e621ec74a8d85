use Rattle.std.proofs.Common.{◌≡◌, ◌∙◌, ◌<◌, length, take, get_or, sym, ap, arith}
use Rattle.std.specs.Option.{option_or}
use Rattle.cfi_graph.specs.Named.{first_given, entry_by}
use Rattle.cfi_graph.specs.inner.Imports.{imports_in}
use Rattle.cfi_graph.proofs.FirstLemmas.{or_or, first_more}
use Rattle.cfi_graph.proofs.imports.Imports.add_module.Goals as goal

-- this turn's function is looked at too
pub loop-function-preserved : goal.loop-function-preserved
loop-function-preserved c = λ name.
    let m = c.args.placed.now in
    let k = c.loop-function.function-index in
    let f = c.function-item.result in
    let fs = m.functions in
    let same = c.as_slice-function-items.ensures in
    let old = imports_in c.args.self.now name in
    let before = first_given (entry_by m name) (take k fs) in
    let within : k < length fs = omega (arith, c.loop-function-test.true, ap (λ xs. length xs) same) in
    let item : f ≡ get_or fs k f = c.function-item.is ∙ ap (λ xs. get_or xs k f) same in
    let more = first_more (entry_by m name) fs k f within in
    c.in_ok-add_function.ensures name
    ∙ ap (λ o. option_or o (entry_by m name f)) (c.loop-function.invariant name)
    ∙ or_or old before (entry_by m name f)
    ∙ ap (option_or old) (ap (λ g. option_or before (entry_by m name g)) item ∙ sym more)
