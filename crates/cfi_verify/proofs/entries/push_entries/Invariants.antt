use Rattle.std.proofs.Common.{◌≡◌, ◌+◌, ◌++◌, take, map}
use Rattle.cfi_verify.proofs.entries.push_entries.Given as goal

abbrev pub invariant-loop-function : goal.invariant-loop-function
invariant-loop-function l =
    l.entries.items ≡ l.initial.entries.items ++ map (λ f. l.placed.base + f.first) (take l.function-index l.functions)
