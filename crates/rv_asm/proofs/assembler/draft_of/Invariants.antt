use Rattle.std.proofs.Common.{◌≡◌, length}
use Rattle.rv_asm.specs.inner.Draft.{empty}
use Rattle.rv_asm.specs.inner.Passes.{with_rows}
use Rattle.rv_asm.proofs.assembler.draft_of.Given as goal

-- the lines that are left lead to what all lead to
abbrev pub invariant-loop-rows : goal.invariant-loop-rows
invariant-loop-rows l = with_rows l.file l.draft l.rows ≡ with_rows l.file empty l.fn.rows

abbrev pub decreases-loop-rows : goal.decreases-loop-rows
decreases-loop-rows l = length l.rows
