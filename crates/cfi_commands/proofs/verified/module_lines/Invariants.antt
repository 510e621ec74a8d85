use Rattle.std.proofs.Common.{◌≡◌, take}
use Rattle.cfi_commands.specs.Verified.{module_lines}
use Rattle.cfi_commands.proofs.verified.module_lines.Given as goal

-- the lines of the modules so far
abbrev pub invariant-loop-number : goal.invariant-loop-number
invariant-loop-number l = l.text.items ≡ module_lines (take l.number l.modules) (take l.number l.placed)
