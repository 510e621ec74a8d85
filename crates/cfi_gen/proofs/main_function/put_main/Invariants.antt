use Rattle.std.proofs.Common.{◌≡◌, ◌++◌, ◌+◌}
use Rattle.std.specs.Prelude.{string_bytes}
use Rattle.elf_read.specs.Places.{joined}
use Rattle.cfi_gen.specs.Source.{main_head, guest_lines}
use Rattle.cfi_gen.proofs.main_function.put_main.Given as goal

-- the modules so far
abbrev pub invariant-loop-before : goal.invariant-loop-before
invariant-loop-before l =
    string_bytes l.text ≡ string_bytes l.fn.text ++ main_head ++ joined (λ before. guest_lines (before + 1)) l.before
