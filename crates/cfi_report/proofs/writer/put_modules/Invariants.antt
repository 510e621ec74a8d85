use Rattle.std.proofs.Common.{map}
use Rattle.cfi_report.specs.declared.line.Line.TheVariants as line
use Rattle.cfi_report.specs.Report.{lines_text}
use Rattle.cfi_report.proofs.WriterLemmas.{IsWritten}
use Rattle.cfi_report.proofs.writer.put_modules.Given as goal

-- the modules before this one are written
abbrev pub invariant-loop-module : goal.invariant-loop-module
invariant-loop-module l =
    IsWritten (λ modules. lines_text (map line.Module modules)) l.fn.out.items l.out.items l.modules l.module-index
