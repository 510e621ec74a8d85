use Rattle.std.proofs.Common.{◌≡◌, ◌-◌}
use Rattle.cfi_aux.specs.Reading.{each}
use Rattle.cfi_aux.specs.Fault.{function_at}
use Rattle.cfi_type_table.proofs.Parts.{with_front}
use Rattle.cfi_aux.proofs.reading.RecordReader.functions_from.Given as goal

-- the functions so far and what is still read are what all reading gives
abbrev pub invariant-loop-number : goal.invariant-loop-number
invariant-loop-number l =
    with_front l.functions.items (each (function_at l.self.version l.self.types.now) l.number (l.count - l.number) l.rest)
    ≡ each (function_at l.self.version l.self.types.now) 0 l.count l.bytes
