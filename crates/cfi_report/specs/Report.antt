-- A report's text: its lines in order. Which reports there are, and the first line of a text from which on it is none.
use Rattle.std.specs.Prelude.{◌≡◌, ℕ, ◌-◌, ◌^◌, ◌<◌, ◌≤◌, Bool, true, not, ◌==◌, ⊤, List, [], ◌∷◌, ◌++◌, length, take, map, None, Result, Ok, Err}
use Rattle.std.specs.List.{flat_map, AllByRecursion}
use Rattle.cfi_text.specs.Names.{is_name}
use Rattle.cfi_unit.specs.declared.log.Log.{Log}
use Rattle.cfi_unit.specs.declared.log.Log.TheVariants.{Pick}
use Rattle.cfi_report.specs.declared.line.Line.{Line}
use Rattle.cfi_report.specs.declared.line.Line.TheVariants as line
use Rattle.cfi_report.specs.declared.report.Report.{Report}
use Rattle.cfi_report.specs.declared.report.GuestPart.{GuestPart}
use Rattle.cfi_report.specs.declared.fault.ReportFault.{ReportFault}
use Rattle.cfi_report.specs.declared.fault.ReportFault.TheVariants.{Syntax, Memory}
use Rattle.cfi_report.specs.Line.{Field, Word, Decimal, Address, Name, Bytes, line_fields, line_text}

-- what a guest has come to
abbrev pub ending_lines : GuestPart → List Line
ending_lines guest = line.Out guest.out ∷ line.Stop guest.stop ∷ line.Units guest.units ∷ line.Steps guest.steps ∷ []

-- a guest's lines
abbrev pub guest_lines : GuestPart → List Line
guest_lines guest = line.Guest guest.number guest.entry ∷ map line.Log guest.log ++ ending_lines guest

-- a report's lines
abbrev pub report_lines : Report → List Line
report_lines report =
    line.Title ∷ line.Force report.epoch report.policy ∷ map line.Module report.modules
    ++ map line.Journal report.journal
    ++ flat_map guest_lines report.guests
    ++ line.End ∷ []

-- the text of lines
abbrev pub lines_text : List Line → List ℕ
lines_text lines = flat_map line_text lines

-- a report's text
abbrev pub report_text : Report → List ℕ
report_text report = lines_text (report_lines report)

-- a number has 32 bits, a byte has 8, and a name is one
abbrev pub IsField : Field → Type 0
IsField (Word word) = ⊤
IsField (Decimal number) = number < 2 ^ 32
IsField (Address address) = address < 2 ^ 32
IsField (Name name) = is_name name ≡ true
IsField (Bytes bytes) = AllByRecursion (λ byte. byte < 256) bytes

-- a pick counts one check or more, and a guest has stopped
abbrev pub MayStand : Line → Type 0
MayStand (line.Log (Pick policy count)) = 0 < count
MayStand (line.Stop None) = ⊥
MayStand _ = ⊤

-- what may stand on a line
abbrev pub IsLine : Line → Type 0
IsLine one = AllByRecursion IsField (line_fields one) × MayStand one

-- two picks of one policy are one
abbrev pub differ : Log → Log → Bool
differ (Pick policy count) (Pick other more) = not (policy == other)
differ _ _ = true

-- adjacent picks differ in policy
abbrev pub PicksDiffer : List Log → Type 0
PicksDiffer [] = ⊤
PicksDiffer (entry ∷ []) = ⊤
PicksDiffer (entry ∷ next ∷ log) = (differ entry next ≡ true) × PicksDiffer (next ∷ log)

-- a report that is written so, and read: what its lines say may stand there, and adjacent picks of a guest differ
pub record IsReport (report : Report) : Type 0 where
  pub lines : AllByRecursion IsLine (report_lines report)
  pub apart : AllByRecursion (λ (guest : GuestPart). PicksDiffer guest.log) report.guests

-- the text begins with the report's first n lines, of which there are so many
pub record BeginsAs (text : List ℕ) (n : ℕ) (report : Report) : Type 0 where
  pub within : n ≤ length (report_lines report)
  pub rest : List ℕ
  pub begins : text ≡ lines_text (take n (report_lines report)) ++ rest

-- the first n lines of the text are those of some report
abbrev pub CanBegin : (text : List ℕ) → (n : ℕ) → Type 0
CanBegin text n = (report : Report) × IsReport report × BeginsAs text n report

-- The text is no report's, and n is the number of the first line, from 1, up to which no report has its lines.
pub record IsFirstFaultyLine (text : List ℕ) (n : ℕ) : Type 0 where
  pub no_report : (report : Report) → IsReport report → text ≡ report_text report → ⊥
  pub before : CanBegin text (n - 1)
  pub here : CanBegin text n → ⊥

-- when each fault comes
abbrev pub IsCause : (text : List ℕ) → ReportFault → Type 0
IsCause text (Syntax number) = IsFirstFaultyLine text number
IsCause text Memory = ⊤

-- the answer is this report, unless memory ran out
abbrev pub AnswersReport : Result Report ReportFault → Report → Type 0
AnswersReport (Ok given) report = given ≡ report
AnswersReport (Err Memory) report = ⊤
AnswersReport (Err (Syntax number)) report = ⊥
