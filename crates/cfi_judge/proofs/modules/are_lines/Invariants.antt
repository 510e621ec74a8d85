use Rattle.std.specs.Prelude.{◌≡◌, take}
use Rattle.cfi_judge.proofs.modules.are_lines.Given as goal

-- the lines so far are the same
abbrev pub invariant-loop-number : goal.invariant-loop-number
invariant-loop-number l = take l.number l.lines ≡ take l.number l.others
