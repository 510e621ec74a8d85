use Rattle.std.proofs.Common.{◌≡◌, length}
use Rattle.std.specs.Prelude.{find}
use Rattle.std.specs.Str.{bytes_eq}
use Rattle.rv_line.proofs.table.found_in.Given as goal

-- the rows that are left have the first of this name
abbrev pub invariant-loop-rows : goal.invariant-loop-rows
invariant-loop-rows g l =
    find (λ row. bytes_eq row.0.now l.word) l.rows ≡ find (λ row. bytes_eq row.0.now l.word) l.fn.rows

abbrev pub decreases-loop-rows : goal.decreases-loop-rows
decreases-loop-rows g l = length l.rows
