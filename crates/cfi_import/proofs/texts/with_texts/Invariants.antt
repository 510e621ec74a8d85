use Rattle.std.proofs.Common.{◌≡◌, ◌++◌}
use Rattle.elf_read.specs.Places.{joined}
use Rattle.cfi_import.specs.Stubs.{stub_bytes}
use Rattle.cfi_import.proofs.texts.with_texts.Given as goal

abbrev pub invariant-loop-place : goal.invariant-loop-place
invariant-loop-place l = l.made.items ≡ l.text ++ joined (λ place. stub_bytes) l._place
