use Rattle.std.proofs.Common.{◌≡◌, ◌++◌}
use Rattle.elf_read.specs.Places.{joined}
use Rattle.cfi_import.specs.Stubs.{stub_symbols}
use Rattle.cfi_import.proofs.symbols.push_all_stubs.Given as goal

abbrev pub invariant-loop-place : goal.invariant-loop-place
invariant-loop-place l = l.out.items ≡ l.fn.out.items ++ joined (stub_symbols l.start) l.place
