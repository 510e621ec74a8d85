use Rattle.std.proofs.Common.{◌≡◌, take}
use Rattle.cfi_aux.proofs.copies.copied_functions.Given as goal

abbrev pub invariant-loop-function : goal.invariant-loop-function
invariant-loop-function l = l.made.items ≡ take l.function-index l.functions
