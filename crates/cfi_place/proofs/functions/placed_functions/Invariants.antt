use Rattle.std.proofs.Common.{◌≡◌, map, take}
use Rattle.cfi_place.specs.Names.{find_in}
use Rattle.cfi_place.specs.Functions.{make_function, has_global}
use Rattle.cfi_place.proofs.functions.placed_functions.Given as goal

abbrev pub invariant-loop-function : goal.invariant-loop-function
invariant-loop-function l =
    l.placed.items ≡ map (λ f. make_function (has_global (find_in l.globals) f) f) (take l.function-index l.functions)
