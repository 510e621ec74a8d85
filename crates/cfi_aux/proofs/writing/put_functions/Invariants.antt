use Rattle.std.proofs.Common.{◌≡◌, ◌++◌, take}
use Rattle.std.specs.List.{flat_map}
use Rattle.cfi_aux.specs.Records.{function_bytes}
use Rattle.cfi_aux.proofs.writing.put_functions.Given as goal

abbrev pub invariant-loop-function : goal.invariant-loop-function
invariant-loop-function l =
    l.out.items ≡ l.fn.out.items ++ flat_map function_bytes (take l.function-index l.functions)
