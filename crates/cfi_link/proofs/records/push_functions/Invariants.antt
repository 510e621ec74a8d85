use Rattle.std.proofs.Common.{◌≡◌, ◌++◌, map, take}
use Rattle.cfi_link.specs.Joined.{function_at}
use Rattle.cfi_link.proofs.records.push_functions.Given as goal

abbrev pub invariant-loop-function : goal.invariant-loop-function
invariant-loop-function l =
    l.out.items ≡ l.fn.out.items ++ map (function_at l.start) (take l.function-index l.functions)
