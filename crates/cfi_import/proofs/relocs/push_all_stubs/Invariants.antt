use Rattle.std.proofs.Common.{◌≡◌, ◌++◌}
use Rattle.elf_read.specs.Places.{joined}
use Rattle.cfi_import.specs.Stubs.{stub_relocs}
use Rattle.cfi_import.proofs.relocs.push_all_stubs.Given as goal

abbrev pub invariant-loop-place : goal.invariant-loop-place
invariant-loop-place l = l.out.items ≡ l.fn.out.items ++ joined (stub_relocs l.start) l.place
