-- A seat by its parts, and what one event of its guest needs.
use Rattle.cfi_model.specs.declared.quiet.Point.{Point}
use Rattle.cfi_model.specs.declared.quiet.Quiet.{Quiet}
use Rattle.cfi_model.specs.Raw.{Raw}
use Rattle.cfi_world.specs.Seats.{Seat}

-- a seat, of its parts
abbrev pub seat_by_parts : Raw → Point → Quiet → Seat
seat_by_parts guest point quiet = record { guest = guest; point = point; quiet = quiet }
