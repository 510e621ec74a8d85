-- The summary of a generated run: what was asked for, how much it is, what each guest has come to, and the end. The
-- lines of what a guest put and why it stopped are those of a report.
use Rattle.std.specs.Prelude.{ℕ, List, [], ◌++◌, codes}
use Rattle.std.specs.List.{flat_map}
use Rattle.cfi_text.specs.Decimal.{dec_text}
use Rattle.cfi_report.specs.declared.line.Line.TheVariants as line
use Rattle.cfi_report.specs.declared.report.GuestPart.{GuestPart}
use Rattle.cfi_report.specs.declared.report.Report.{Report}
use Rattle.cfi_report.specs.Line.{line_text}
use Rattle.cfi_gen.specs.declared.summary_text.Measure.{Measure}

-- a word and a number
abbrev pub count_line : (word : List ℕ) → (number : ℕ) → List ℕ
count_line word number = word ++ codes " " ++ dec_text number ++ codes "\n"

-- what was asked for
abbrev pub asked_line : (seed count : ℕ) → List ℕ
asked_line seed count = codes "gen " ++ dec_text seed ++ codes " " ++ dec_text count ++ codes "\n"

-- how much it is
abbrev pub measure_lines : Measure → List ℕ
measure_lines measure =
    count_line (codes "words") measure.words ++ count_line (codes "slots") measure.slots
    ++ count_line (codes "classes") measure.classes

-- what a guest has put, and why it has stopped
abbrev pub guest_lines : GuestPart → List ℕ
guest_lines guest =
    count_line (codes "guest") guest.number ++ line_text (line.Out guest.out) ++ line_text (line.Stop guest.stop)

-- the text
abbrev pub summary_text : (seed count : ℕ) → Measure → Report → List ℕ
summary_text seed count measure report =
    asked_line seed count ++ measure_lines measure ++ flat_map guest_lines report.guests ++ codes "end\n"
