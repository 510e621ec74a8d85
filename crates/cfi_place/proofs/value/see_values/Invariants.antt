use Rattle.std.proofs.Common.{ℕ, ◌<◌, ◌^◌, get_or}
use Rattle.elf_read.specs.declared.object.Symbol.{Symbol}
use Rattle.cfi_place.proofs.value.see_values.Given as goal

abbrev pub invariant-loop-symbol : goal.invariant-loop-symbol
invariant-loop-symbol l = (k : ℕ) (d : Symbol) → k < l.symbol-index → (get_or l.symbols k d).value < 2 ^ 32
