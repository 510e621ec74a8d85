use Rattle.std.specs.List.{flat_map}
use Rattle.cfi_report.specs.Report.{lines_text, guest_lines}
use Rattle.cfi_report.proofs.WriterLemmas.{IsWritten}
use Rattle.cfi_report.proofs.writer.put_guests.Given as goal

-- the guests before this one are written
abbrev pub invariant-loop-guest : goal.invariant-loop-guest
invariant-loop-guest l =
    IsWritten (λ guests. lines_text (flat_map guest_lines guests)) l.fn.out.items l.out.items l.guests l.guest-index
