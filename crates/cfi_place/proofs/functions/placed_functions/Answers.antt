use Rattle.std.proofs.Common.{◌∙◌, ap, map, get_or}
use Rattle.std.proofs.lemmas.List.{take_all}
use Rattle.cfi_aux.specs.declared.records.Function.{Function}
use Rattle.cfi_place.specs.Names.{find_in}
use Rattle.cfi_place.specs.Functions.{make_function, has_global}
use Rattle.cfi_place.proofs.WantedLemmas.{functions_alike}
use Rattle.cfi_place.proofs.functions.placed_functions.Goals as goal

pub returns : goal.returns
returns c =
    let globals = find_in c.in_ok-globals.globals in
    let functions = c.args.functions.now in
    c.loop-function.invariant
    ∙ ap (map (λ (f : Function). make_function (has_global globals f) f))
    (take_all c.loop-function.function-index functions c.loop-function-test.false)
    ∙ functions_alike globals c.args.symbols.now functions c.requires (λ k d h.
    c.in_ok-globals.ensures (get_or functions k d).name (c.in_ok-names_of.ensures k d h))
