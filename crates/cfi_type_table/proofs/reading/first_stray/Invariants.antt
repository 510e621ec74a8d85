use Rattle.std.proofs.Common.{◌≡◌, drop}
use Rattle.cfi_type_table.specs.Reading.{stray_from}
use Rattle.cfi_type_table.proofs.reading.first_stray.Given as goal

-- no node so far strays
abbrev pub invariant-loop-number : goal.invariant-loop-number
invariant-loop-number l = stray_from l.count l.number (drop l.number l.nodes) ≡ stray_from l.count 0 l.nodes
