-- The lines of a report say this report.
use Rattle.std.proofs.Common.{◌≡◌, ℕ, List, [], ◌∷◌, ◌++◌, map, refl, sym, ap, ◌∙◌, append_assoc}
use Rattle.std.specs.List.{flat_map}
use Rattle.std.proofs.lemmas.List.{append-nil}
use Rattle.cfi_plan.specs.declared.journal.ModuleLine.{ModuleLine}
use Rattle.cfi_plan.specs.declared.journal.Entry.{Entry}
use Rattle.cfi_unit.specs.declared.log.Log.{Log}
use Rattle.cfi_report.specs.declared.line.Line.{Line}
use Rattle.cfi_report.specs.declared.line.Line.TheVariants as line
use Rattle.cfi_report.specs.declared.report.Report.{Report}
use Rattle.cfi_report.specs.declared.report.GuestPart.{GuestPart}
use Rattle.cfi_report.specs.Report.{ending_lines, guest_lines, report_lines}
use Rattle.cfi_report.specs.inner.Draft.{ReportSoFar, no_lines, report_of, with_report_line}

-- the draft after the lines
abbrev pub with_lines : ReportSoFar → List Line → ReportSoFar
with_lines draft [] = draft
with_lines draft (one ∷ lines) = with_lines (with_report_line draft one) lines

pub with_lines-append : (draft : ReportSoFar) (xs ys : List Line)
    → with_lines draft (xs ++ ys) ≡ with_lines (with_lines draft xs) ys
with_lines-append draft [] ys = refl
with_lines-append draft (one ∷ xs) ys = with_lines-append (with_report_line draft one) xs ys

with_modules : (modules : List ModuleLine) (draft : ReportSoFar)
    → report_of (with_lines draft (map line.Module modules)) ≡ record (report_of draft)
    { modules = draft.modules ++ modules }
with_modules [] draft = rw (append-nil draft.modules) refl
with_modules (one ∷ modules) draft =
    with_modules modules (with_report_line draft (line.Module one)) ∙ rw (append_assoc draft.modules (one ∷ []) modules) refl

with_journal : (journal : List Entry) (draft : ReportSoFar)
    → report_of (with_lines draft (map line.Journal journal)) ≡ record (report_of draft)
    { journal = draft.journal ++ journal }
with_journal [] draft = rw (append-nil draft.journal) refl
with_journal (entry ∷ journal) draft =
    with_journal journal (with_report_line draft (line.Journal entry))
    ∙ rw (append_assoc draft.journal (entry ∷ []) journal) refl

-- log entries change the log alone
record IsLogged (draft new : ReportSoFar) (more : List Log) : Type 0 where
  report : report_of new ≡ report_of draft
  number : new.number ≡ draft.number
  entry : new.entry ≡ draft.entry
  log : new.log ≡ draft.log ++ more

with_log : (log : List Log) (draft : ReportSoFar) → IsLogged draft (with_lines draft (map line.Log log)) log
with_log [] draft = record { report = refl; number = refl; entry = refl; log = sym (append-nil draft.log) }
with_log (entry ∷ log) draft =
    let h = with_log log (with_report_line draft (line.Log entry)) in
    record {
      report = h.report;
      number = h.number;
      entry = h.entry;
      log = h.log
          ∙ append_assoc draft.log (entry ∷ []) log;
    }

-- the report with a further guest
abbrev one_more : Report → (number : ℕ) → (entry : List ℕ) → List Log → GuestPart → Report
one_more report number entry log guest =
    record report { guests = report.guests ++ record guest { number = number; entry = entry; log = log } ∷ [] }

with_ending : (guest : GuestPart) (draft new : ReportSoFar)
    → IsLogged (with_report_line draft (line.Guest guest.number guest.entry)) new guest.log
    → report_of (with_lines new (ending_lines guest)) ≡ record (report_of draft)
    { guests = draft.guests ++ guest ∷ [] }
with_ending guest draft new h =
    ap (λ (r : Report). one_more r new.number new.entry new.log guest) h.report
    ∙ ap (λ (n : ℕ). one_more (report_of draft) n new.entry new.log guest) h.number
    ∙ ap (λ (e : List ℕ). one_more (report_of draft) guest.number e new.log guest) h.entry
    ∙ ap (λ (l : List Log). one_more (report_of draft) guest.number guest.entry l guest) h.log

with_guest : (guest : GuestPart) (draft : ReportSoFar)
    → report_of (with_lines draft (guest_lines guest)) ≡ record (report_of draft)
    { guests = draft.guests ++ guest ∷ [] }
with_guest guest draft =
    let opened = with_report_line draft (line.Guest guest.number guest.entry) in
    ap report_of (with_lines-append opened (map line.Log guest.log) (ending_lines guest))
    ∙ with_ending guest draft (with_lines opened (map line.Log guest.log)) (with_log guest.log opened)

-- the report with further guests
abbrev more_guests : Report → List GuestPart → Report
more_guests report guests = record report { guests = report.guests ++ guests }

with_guests : (guests : List GuestPart) (draft : ReportSoFar)
    → report_of (with_lines draft (flat_map guest_lines guests)) ≡ more_guests (report_of draft) guests
with_guests [] draft = rw (append-nil draft.guests) refl
with_guests (guest ∷ guests) draft =
    let next = with_lines draft (guest_lines guest) in
    ap report_of (with_lines-append draft (guest_lines guest) (flat_map guest_lines guests))
    ∙ with_guests guests next
    ∙ ap (λ (report : Report). more_guests report guests) (with_guest guest draft)
    ∙ rw (append_assoc draft.guests (guest ∷ []) guests) refl

-- the lines of a report say this report
pub lines_of-built : (report : Report) → report_of (with_lines no_lines (report_lines report)) ≡ report
lines_of-built report =
    let front = line.Title ∷ line.Force report.epoch report.policy ∷ map line.Module report.modules in
    let journal = map line.Journal report.journal in
    let guests = flat_map guest_lines report.guests in
    let forced = with_report_line (with_report_line no_lines line.Title) (line.Force report.epoch report.policy) in
    let loaded = with_lines no_lines front in
    let called = with_lines loaded journal in
    let run = with_lines called guests in
    let first : report_of loaded ≡ record (report_of forced) { modules = report.modules } = with_modules
    report.modules forced in
    let second = with_journal report.journal loaded in
    let third = with_guests report.guests called in
    let all : with_lines no_lines (report_lines report) ≡ with_report_line run line.End =
    with_lines-append no_lines ((front ++ journal) ++ guests) (line.End ∷ [])
    ∙ ap (λ (draft : ReportSoFar). with_report_line draft line.End)
    (with_lines-append no_lines (front ++ journal) guests
    ∙ ap (λ (draft : ReportSoFar). with_lines draft guests) (with_lines-append no_lines front journal)) in
    ap report_of all
    ∙ third
    ∙ ap (λ (r : Report). more_guests r report.guests)
    (second ∙ ap (λ (r : Report). record r { journal = r.journal ++ report.journal }) first)
