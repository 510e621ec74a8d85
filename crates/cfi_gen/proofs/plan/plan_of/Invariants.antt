use Rattle.std.proofs.Common.{◌≡◌, ◌++◌}
use Rattle.std.specs.Prelude.{string_bytes}
use Rattle.elf_read.specs.Places.{joined}
use Rattle.cfi_gen.specs.Plan.{setting_lines, module_line}
use Rattle.cfi_gen.proofs.plan.plan_of.Given as goal

-- the modules so far
abbrev pub invariant-loop-number : goal.invariant-loop-number
invariant-loop-number l = string_bytes l.text ≡ setting_lines ++ joined module_line l.number
