use Rattle.std.proofs.Common.{◌≡◌}
use Rattle.cfi_plan.specs.Draft.{empty}
use Rattle.cfi_plan.specs.Reading.{with_lines}
use Rattle.cfi_plan.proofs.reading.read_lines.Given as goal

-- what is left leads to what all lead to
abbrev pub invariant-loop-number : goal.invariant-loop-number
invariant-loop-number l = with_lines l.draft l.number-iterator ≡ with_lines empty l.fn.lines
