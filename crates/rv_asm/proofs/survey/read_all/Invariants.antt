use Rattle.std.proofs.Common.{◌≡◌, ◌≤◌, ◌+◌, length}
use Rattle.cfi_text.specs.Lines.{numbered_lines}
use Rattle.rv_asm.specs.inner.Survey.{nothing, with_lines}
use Rattle.rv_asm.proofs.CountLemmas.{bytes_left}
use Rattle.rv_asm.proofs.survey.read_all.Given as goal

-- what is left leads to what all lead to, and there are at most as many names as bytes before it
abbrev pub invariant-loop-number : goal.invariant-loop-number
invariant-loop-number l =
    (with_lines l.survey l.number-iterator ≡ with_lines nothing (numbered_lines l.fn.text))
    × (length l.survey.names + bytes_left l.number-iterator ≤ length l.fn.text + 1)
