use Rattle.std.proofs.Common.{◌≡◌, ◌-◌}
use Rattle.cfi_aux.specs.Reading.{each}
use Rattle.cfi_aux.specs.Fault.{place_at}
use Rattle.cfi_type_table.proofs.Parts.{with_front}
use Rattle.cfi_aux.proofs.branch.places_from.Given as goal

-- the places so far and what is still read are what all reading gives
abbrev pub invariant-loop-i : goal.invariant-loop-i
invariant-loop-i l =
    with_front l.places.items (each (place_at l.number) l._i (l.count - l._i) l.rest) ≡
    each (place_at l.number) 0 l.count l.bytes
