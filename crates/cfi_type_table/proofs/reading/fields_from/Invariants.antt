use Rattle.std.proofs.Common.{◌≡◌, ◌-◌}
use Rattle.cfi_type_table.specs.Reading.{fields_at}
use Rattle.cfi_type_table.proofs.Parts.{with_front}
use Rattle.cfi_type_table.proofs.reading.fields_from.Given as goal

-- the fields so far and what is still read are what all reading gives
abbrev pub invariant-loop-place : goal.invariant-loop-place
invariant-loop-place l =
    with_front l.fields.items (fields_at l.number l.kind l.place (l.count - l.place) l.rest) ≡ fields_at l.number
    l.kind 0 l.count l.bytes
