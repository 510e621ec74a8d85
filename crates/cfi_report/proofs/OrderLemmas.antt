-- In which order the lines of a report stand.
use Rattle.std.proofs.Common.{◌≡◌, true, List, [], ◌∷◌, ◌++◌, map, Option, Some, None, refl, sym, subst, append_assoc}
use Rattle.std.specs.Prelude.{⊤}
use Rattle.std.specs.List.{flat_map, AllByRecursion}
use Rattle.cfi_plan.specs.declared.journal.ModuleLine.{ModuleLine}
use Rattle.cfi_plan.specs.declared.journal.Entry.{Entry}
use Rattle.cfi_unit.specs.declared.log.Log.{Log}
use Rattle.cfi_report.specs.declared.line.Line.{Line}
use Rattle.cfi_report.specs.declared.line.Line.TheVariants as line
use Rattle.cfi_report.specs.declared.stage.Stage.{Stage}
use Rattle.cfi_report.specs.declared.stage.Stage.TheVariants as stages
use Rattle.cfi_report.specs.declared.report.Report.{Report}
use Rattle.cfi_report.specs.declared.report.GuestPart.{GuestPart}
use Rattle.cfi_report.specs.Report.{PicksDiffer, ending_lines, guest_lines, report_lines}
use Rattle.cfi_report.specs.inner.Draft.{ReportSoFar, may_follow, takes_journal, takes_guests, with_report_line}

-- what the last line is then
abbrev pub stage_after : Line → Stage
stage_after line.Title = stages.Titled
stage_after (line.Force epoch policy) = stages.Modules
stage_after (line.Module one) = stages.Modules
stage_after (line.Journal entry) = stages.Journal
stage_after (line.Guest number entry) = stages.Log None
stage_after (line.Log entry) = stages.Log (Some entry)
stage_after (line.Out bytes) = stages.Out
stage_after (line.Stop stop) = stages.Stop
stage_after (line.Units units) = stages.Units
stage_after (line.Steps steps) = stages.Guests
stage_after line.End = stages.Ended

pub with_line-stage : (draft : ReportSoFar) (one : Line) → (with_report_line draft one).stage ≡ stage_after one
with_line-stage draft line.Title = refl
with_line-stage draft (line.Force epoch policy) = refl
with_line-stage draft (line.Module one) = refl
with_line-stage draft (line.Journal entry) = refl
with_line-stage draft (line.Guest number entry) = refl
with_line-stage draft (line.Log entry) = refl
with_line-stage draft (line.Out bytes) = refl
with_line-stage draft (line.Stop stop) = refl
with_line-stage draft (line.Units units) = refl
with_line-stage draft (line.Steps steps) = refl
with_line-stage draft line.End = refl

-- each line may follow the one before it
abbrev pub Follows : Stage → List Line → Type 0
Follows at [] = ⊤
Follows at (one ∷ lines) = (may_follow at one ≡ true) × Follows (stage_after one) lines

-- what the last of the lines is
abbrev pub last_stage : Stage → List Line → Stage
last_stage at [] = at
last_stage at (one ∷ lines) = last_stage (stage_after one) lines

pub last_stage-append : (at : Stage) (xs ys : List Line) → last_stage at (xs ++ ys) ≡ last_stage (last_stage at xs) ys
last_stage-append at [] ys = refl
last_stage-append at (one ∷ xs) ys = last_stage-append (stage_after one) xs ys

pub Follows-rest : (at : Stage) (xs ys : List Line) → Follows at (xs ++ ys) → Follows (last_stage at xs) ys
Follows-rest at [] ys h = h
Follows-rest at (one ∷ xs) ys h = Follows-rest (stage_after one) xs ys h.1

-- the parts of a report

modules-follow : (modules : List ModuleLine) (rest : List Line) → Follows stages.Modules rest
    → Follows stages.Modules (map line.Module modules ++ rest)
modules-follow [] rest h = h
modules-follow (one ∷ modules) rest h = (refl, modules-follow modules rest h)

journal-follow : (journal : List Entry) (rest : List Line) (at : Stage) → takes_journal at ≡ true
    → ((to : Stage) → takes_journal to ≡ true → Follows to rest) → Follows at (map line.Journal journal ++ rest)
journal-follow [] rest at takes h = h at takes
journal-follow (entry ∷ journal) rest at takes h = (takes, journal-follow journal rest stages.Journal refl h)

-- adjacent picks differ, also from the last one before
abbrev AreApartFrom : Option Log → List Log → Type 0
AreApartFrom None log = PicksDiffer log
AreApartFrom (Some last) log = PicksDiffer (last ∷ log)

first_apart : (last : Option Log) (entry : Log) (log : List Log) → AreApartFrom last (entry ∷ log)
    → (may_follow (stages.Log last) (line.Log entry) ≡ true) × PicksDiffer (entry ∷ log)
first_apart None entry log h = (refl, h)
first_apart (Some last) entry log h = (h.0, h.1)

log-follow : (log : List Log) (rest : List Line) (last : Option Log) → AreApartFrom last log
    → ((to : Option Log) → Follows (stages.Log to) rest) → Follows (stages.Log last) (map line.Log log ++ rest)
log-follow [] rest last apart h = h last
log-follow (entry ∷ log) rest last apart h =
    let first = first_apart last entry log apart in
    (first.0, log-follow log rest (Some entry) first.1 h)

ending-follow : (guest : GuestPart) (rest : List Line) (last : Option Log) → Follows stages.Guests rest
    → Follows (stages.Log last) (ending_lines guest ++ rest)
ending-follow guest rest last h = (refl, (refl, (refl, (refl, h))))

guests-follow : (guests : List GuestPart) (rest : List Line) (at : Stage) → takes_guests at ≡ true
    → AllByRecursion (λ (guest : GuestPart). PicksDiffer guest.log) guests
    → ((to : Stage) → takes_guests to ≡ true → Follows to rest) → Follows at (flat_map guest_lines guests ++ rest)
guests-follow [] rest at takes apart h = h at takes
guests-follow (guest ∷ guests) rest at takes apart h =
    let more = flat_map guest_lines guests ++ rest in
    let others = guests-follow guests rest stages.Guests refl apart.1 h in
    let log = log-follow guest.log (ending_lines guest ++ more) None apart.0
    (λ to. ending-follow guest more to others) in
    let same : flat_map guest_lines (guest ∷ guests) ++ rest ≡ line.Guest guest.number guest.entry ∷
    (map line.Log guest.log ++ (ending_lines guest ++ more)) = simp append_assoc in
    subst (Follows at) (sym same) (takes, log)

journal_then_guests : (at : Stage) → takes_journal at ≡ true → takes_guests at ≡ true
journal_then_guests stages.Modules h = refl
journal_then_guests stages.Journal h = refl
journal_then_guests _ h = cc

-- the lines of a report stand in order
pub lines_of-Follows : (report : Report) → AllByRecursion (λ (guest : GuestPart). PicksDiffer guest.log) report.guests
    → Follows stages.Start (report_lines report)
lines_of-Follows report apart =
    let last : List Line = line.End ∷ [] in
    let guests = flat_map guest_lines report.guests ++ last in
    let journal = map line.Journal report.journal ++ guests in
    let all_guests = λ (at : Stage) (takes : takes_journal at ≡ true).
    guests-follow report.guests last at (journal_then_guests at takes) apart (λ to takes. (takes, tt)) in
    let all = modules-follow report.modules journal
    (journal-follow report.journal guests stages.Modules refl all_guests) in
    let same : report_lines report ≡ line.Title ∷ line.Force report.epoch report.policy ∷
    (map line.Module report.modules ++ journal) = simp append_assoc in
    subst (Follows stages.Start) (sym same) (refl, (refl, all))

pub last_stage-lines_of : (report : Report) → last_stage stages.Start (report_lines report) ≡ stages.Ended
last_stage-lines_of report =
    last_stage-append stages.Start
    (line.Title ∷ line.Force report.epoch report.policy ∷ map line.Module report.modules
    ++ map line.Journal report.journal ++ flat_map guest_lines report.guests) (line.End ∷ [])
