use Rattle.std.proofs.Common.{◌≡◌, ◌-◌}
use Rattle.cfi_aux.specs.Reading.{each}
use Rattle.cfi_aux.specs.Fault.{branch_at}
use Rattle.cfi_type_table.proofs.Parts.{with_front}
use Rattle.cfi_aux.proofs.reading.RecordReader.branches_from.Given as goal

-- the branches so far and what is still read are what all reading gives
abbrev pub invariant-loop-number : goal.invariant-loop-number
invariant-loop-number l =
    with_front l.branches.items (each (branch_at l.self.version l.self.types.now l.self.size) l.number (l.number-end - l.number) l.rest)
    ≡ each (branch_at l.self.version l.self.types.now l.self.size) l.first l.count l.bytes
