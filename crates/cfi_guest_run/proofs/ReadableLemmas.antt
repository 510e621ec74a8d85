-- A report whose numbers have 32 bits, and whose names are names, can be read.
use Rattle.std.proofs.Common.{◌≡◌, true, List, [], ◌∷◌, ◌++◌, map, flat_map}
use Rattle.std.specs.List.{AllByRecursion}
use Rattle.cfi_guest_part.specs.Part.{HasFields}
use Rattle.cfi_guest_part.proofs.ReadLemmas.{CanBeRead, parts_apart, parts_lines}
use Rattle.cfi_plan.specs.declared.journal.Entry.{Entry}
use Rattle.cfi_plan.specs.declared.journal.ModuleLine.{ModuleLine}
use Rattle.cfi_report.specs.declared.line.Line.{Line}
use Rattle.cfi_report.specs.declared.line.Line.TheVariants as line
use Rattle.cfi_report.specs.declared.report.Report.{Report}
use Rattle.cfi_report.specs.Report.{IsLine, IsReport, guest_lines}
use Rattle.cfi_report.proofs.ClosingLemmas.{end-IsLine, title-IsLine}
use Rattle.cfi_report.proofs.ReachedLemmas.{AllByRecursion-append}
use Rattle.cfi_text.specs.Names.{is_name}
use Rattle.cfi_guest_run.specs.inner.Ending.{HasNumbers}
use Rattle.cfi_guest_run.specs.inner.Lines.{HasEntryFields, HasModuleFields}

modules_lines : (ms : List ModuleLine) → AllByRecursion HasModuleFields ms
    → AllByRecursion (λ (l : ModuleLine). is_name l.name ≡ true) ms → AllByRecursion IsLine (map line.Module ms)
modules_lines [] has named = tt
modules_lines (m ∷ ms) has named =
    let one = has.0 in (
      ((tt, (one.number, (named.0, (one.base, (one.slot, (one.data_base, (one.policy, tt))))))), tt),
      modules_lines ms has.1 named.1,
    )

journal_lines : (entries : List Entry) → AllByRecursion HasEntryFields entries
    → AllByRecursion IsLine (map line.Journal entries)
journal_lines [] has = tt
journal_lines (entry ∷ entries) has = (((tt, (has.0.who, has.0.what)), tt), journal_lines entries has.1)

pub report_read : (report : Report) → HasNumbers report
    → AllByRecursion (λ (l : ModuleLine). is_name l.name ≡ true) report.modules
    → AllByRecursion HasFields report.guests → AllByRecursion CanBeRead report.guests → IsReport report
report_read report numbers named fields can =
    let head : List Line = line.Title ∷ line.Force report.epoch report.policy ∷ map line.Module report.modules in
    let journal : List Line = map line.Journal report.journal in
    let guests : List Line = flat_map guest_lines report.guests in
    let first : AllByRecursion IsLine head = (
      title-IsLine,
      (((tt, (numbers.epoch, (numbers.policy, tt))), tt), modules_lines report.modules numbers.modules named),
    ) in
    let then = AllByRecursion-append IsLine head journal first (journal_lines report.journal numbers.journal) in
    let most = AllByRecursion-append IsLine (head ++ journal) guests then (parts_lines report.guests fields can) in
    record {
      lines = AllByRecursion-append IsLine ((head ++ journal) ++ guests) (line.End ∷ []) most (end-IsLine, tt);
      apart = parts_apart report.guests can;
    }
