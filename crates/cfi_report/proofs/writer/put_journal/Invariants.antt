use Rattle.std.proofs.Common.{map}
use Rattle.cfi_report.specs.declared.line.Line.TheVariants as line
use Rattle.cfi_report.specs.Report.{lines_text}
use Rattle.cfi_report.proofs.WriterLemmas.{IsWritten}
use Rattle.cfi_report.proofs.writer.put_journal.Given as goal

-- the entries before this one are written
abbrev pub invariant-loop-entry : goal.invariant-loop-entry
invariant-loop-entry l =
    IsWritten (λ entries. lines_text (map line.Journal entries)) l.fn.out.items l.out.items l.journal l.entry-index
