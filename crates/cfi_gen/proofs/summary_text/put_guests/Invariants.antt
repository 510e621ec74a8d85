use Rattle.std.proofs.Common.{◌≡◌, ◌++◌, take}
use Rattle.std.specs.List.{flat_map}
use Rattle.cfi_gen.specs.Summary.{guest_lines}
use Rattle.cfi_gen.proofs.summary_text.put_guests.Given as goal

-- the lines so far
abbrev pub invariant-loop-guest : goal.invariant-loop-guest
invariant-loop-guest l = l.text.items ≡ l.fn.text.items ++ flat_map guest_lines (take l.guest-index l.guests)
