-- A report has one text, and a text has one report or one first fault.
use Rattle.std.proofs.Common.{◌≡◌, ℕ, ◌-◌, ◌<◌, ◌≤◌, List, [], ◌∷◌, ◌++◌, length, take, drop, refl, sym, ap, ◌∙◌, arith, inl, inr, append_assoc, length-append}
use Rattle.std.proofs.lemmas.Bool.{cases_order}
use Rattle.std.proofs.lemmas.List.{append-nil, take-append-drop, take-take}
use Rattle.std.proofs.lemmas.List.Concat.{flat_map-append}
use Rattle.cfi_report.specs.declared.line.Line.{Line}
use Rattle.cfi_report.specs.declared.report.Report.{Report}
use Rattle.cfi_report.specs.Line.{line_text}
use Rattle.cfi_report.specs.Report.{report_lines, lines_text, report_text, IsReport, BeginsAs, IsFirstFaultyLine}
use Rattle.cfi_report.specs.inner.Draft.{no_lines, report_of}
use Rattle.cfi_report.proofs.BuiltLemmas.{with_lines, lines_of-built}
use Rattle.cfi_report.proofs.NextLemmas.{whole_follows}
use Rattle.cfi_report.proofs.ClosingLemmas.{title-IsLine, force-IsLine, end-IsLine}
use Rattle.cfi_report.proofs.SolidLemmas.{line_text-long}

-- the report of no module, no call and no guest
abbrev pub empty_report : Report
empty_report = record { epoch = 0; policy = 0; modules = []; journal = []; guests = [] }

pub empty-IsReport : IsReport empty_report
empty-IsReport = record { lines = (title-IsLine, (force-IsLine, (end-IsLine, tt))); apart = tt }

-- lines without a text are none
pub without_text : (lines : List Line) → [] ≡ lines_text lines → lines ≡ []
without_text [] same = refl
without_text (one ∷ lines) same =
    let none : length (line_text one ++ lines_text lines) ≡ 0 = ap length (sym same) in
    absurd (omega (arith, none, length-append (line_text one) (lines_text lines), line_text-long one))

pub same_text : (one other : Report) → IsReport one → IsReport other → report_text one ≡ report_text other → one ≡ other
same_text one other h g same =
    let next = whole_follows (report_lines one) (report_lines other) [] h.lines g.lines (append-nil (report_text one) ∙ same) in
    let end = without_text next.0 next.1.1 in
    let lines : report_lines other ≡ report_lines one = next.1.0 ∙ ap (λ (l : List Line). report_lines one ++ l) end
    ∙ append-nil (report_lines one) in
    sym (lines_of-built one) ∙ ap (λ (l : List Line). report_of (with_lines no_lines l)) (sym lines) ∙ lines_of-built other

-- the first lines of the first lines
fewer : (text : List ℕ) (n m : ℕ) (report : Report) → m ≤ n → BeginsAs text n report → BeginsAs text m report
fewer text n m report few h =
    let lines = report_lines report in
    let firsts = take n lines in
    let parts : take m firsts ++ drop m firsts ≡ firsts = take-append-drop m firsts in
    let front : take m firsts ≡ take m lines = take-take m n lines few in
    record {
      within = omega (arith, h.within);
      rest = lines_text (drop m firsts) ++ h.rest;
      begins = h.begins
          ∙ ap (λ (l : List ℕ). l ++ h.rest) (ap lines_text (sym parts)
          ∙ flat_map-append line_text (take m firsts) (drop m firsts)
          ∙ ap (λ (l : List Line). lines_text l ++ lines_text (drop m firsts)) front)
          ∙ append_assoc (lines_text (take m lines)) (lines_text (drop m firsts)) h.rest;
    }

not_before : (text : List ℕ) (n m : ℕ) → IsFirstFaultyLine text n → IsFirstFaultyLine text m → n < m → ⊥
not_before text n m h g less =
    let b = g.before in
    h.here (b.0, b.1, fewer text (m - 1) n b.0 (omega (arith, less)) b.2)

pub same_fault : (text : List ℕ) (n m : ℕ) → IsFirstFaultyLine text n → IsFirstFaultyLine text m → n ≡ m
same_fault text n m h g =
    let later : n < m → n ≡ m = λ less. absurd (not_before text n m h g less) in
    let earlier : m < n → n ≡ m = λ less. absurd (not_before text m n g h less) in
    elim (cases_order n m) [
      | inl same ↦ same
      | inr other ↦ elim other [ inl less ↦ later less | inr less ↦ earlier less ]
    ]
