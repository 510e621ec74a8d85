use Rattle.std.proofs.Common.{◌≡◌, ◌<◌, ℕ, get_or, is_some, true}
use Rattle.cfi_aux.specs.declared.records.Function.{Function}
use Rattle.cfi_place.specs.Names.{find_in}
use Rattle.cfi_place.proofs.functions.names_of.Given as goal

abbrev pub invariant-loop-function : goal.invariant-loop-function
invariant-loop-function l = (k : ℕ) (d : Function) → k < l.function-index
    → is_some (find_in l.names (get_or l.functions k d).name) ≡ true
