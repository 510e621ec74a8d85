use Rattle.std.proofs.Common.{◌≡◌, ◌∙◌, ◌+◌, ◌<◌, false, length, take, get_or, sym, ap, arith}
use Rattle.std.specs.Option.{option_or}
use Rattle.cfi_graph.specs.Named.{first_given, entry_by}
use Rattle.cfi_graph.specs.inner.Imports.{imports_in}
use Rattle.cfi_graph.specs.inner.Names.{has_name}
use Rattle.cfi_graph.proofs.FirstLemmas.{or_none, or_or, first_more}
use Rattle.cfi_graph.proofs.NameLemmas.{not_named}
use Rattle.cfi_graph.proofs.imports.Imports.add_named.Goals as goal
use Rattle.cfi_graph.proofs.imports.Imports.add_named.Goals.{then-has+in_ok-add_function, else-has}

-- this turn's function is looked at too
pub loop-function-preserved : goal.loop-function-preserved
loop-function-preserved c = λ name has.
    let m = c.args.placed.now in
    let names = c.args.names.now in
    let k = c.loop-function.function-index in
    let f = c.function-item.result in
    let fs = m.functions in
    let same = c.as_slice-function-items.ensures in
    let old = imports_in c.args.self.now name in
    let first = first_given (entry_by m name) (take k fs) in
    let within : k < length fs = omega (arith, c.loop-function-test.true, ap (λ xs. length xs) same) in
    let item : f ≡ get_or fs k f = c.function-item.is ∙ ap (λ xs. get_or xs k f) same in
    let next : first_given (entry_by m name) (take (k + 1) fs) ≡ option_or first (entry_by m name f) =
    first_more (entry_by m name) fs k f within ∙ ap (λ g. option_or first (entry_by m name g)) (sym item) in
    elim c.if-has.branch [
      | then-has+in_ok-add_function w ↦
          ap (λ i. imports_in i name) w.self-is ∙ w.in_ok-add_function.ensures name
          ∙ ap (λ o. option_or o (entry_by m name f)) (c.loop-function.invariant name has)
          ∙ or_or old first (entry_by m name f) ∙ ap (option_or old) (sym next)
      | else-has w ↦
          let none : has_name names f.name ≡ false =
          sym (ap (has_name names) c.as_str.ensures) ∙ sym c.has.ensures ∙ w.if-has.false in
          ap (λ i. imports_in i name) w.self-is ∙ c.loop-function.invariant name has
          ∙ ap (option_or old) (sym (next ∙ ap (option_or first) (not_named names m name f has none) ∙ or_none first))
    ]
