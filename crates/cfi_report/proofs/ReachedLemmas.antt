-- What is known of a draft, by the lines that were read: they are the first lines of a report.
use Rattle.std.proofs.Common.{◌≡◌, true, List, [], ◌∷◌, ◌++◌, map, Option, Some, None, refl, sym, ap, ◌∙◌, subst, append_assoc}
use Rattle.std.specs.List.{flat_map, AllByRecursion}
use Rattle.std.proofs.lemmas.List.{append-nil}
use Rattle.std.proofs.lemmas.List.Concat.{flat_map-append}
use Rattle.cfi_unit.specs.declared.log.Log.{Log}
use Rattle.cfi_report.specs.declared.line.Line.{Line}
use Rattle.cfi_report.specs.declared.line.Line.TheVariants as line
use Rattle.cfi_report.specs.declared.stage.Stage.{Stage}
use Rattle.cfi_report.specs.declared.stage.Stage.TheVariants as stages
use Rattle.cfi_report.specs.declared.report.GuestPart.{GuestPart}
use Rattle.cfi_report.specs.Report.{IsLine, differ, PicksDiffer, guest_lines, report_lines, IsReport}
use Rattle.cfi_report.specs.inner.Draft.{ReportSoFar, no_lines, report_of, may_follow, is_start, is_titled, takes_modules, takes_journal, takes_guests, takes_log, takes_out, takes_stop, takes_units, takes_steps, part_of, with_report_line}
use Rattle.cfi_report.proofs.OrderLemmas.{stage_after, with_line-stage, last_stage, last_stage-append}
use Rattle.cfi_report.proofs.BuiltLemmas.{with_lines, with_lines-append}

-- the guests' adjacent picks differ
abbrev AreAllApart : List GuestPart → Type 0
AreAllApart guests = AllByRecursion (λ (guest : GuestPart). PicksDiffer guest.log) guests

-- the lines before the present guest's
abbrev front : ReportSoFar → List Line
front draft =
    line.Title ∷ line.Force draft.epoch draft.policy ∷ map line.Module draft.modules
    ++ map line.Journal draft.journal
    ++ flat_map guest_lines draft.guests

-- and those up to its log
abbrev open_lines : ReportSoFar → List Line
open_lines draft = front draft ++ line.Guest draft.number draft.entry ∷ map line.Log draft.log

-- the lines that were read
abbrev so_far : Stage → ReportSoFar → List Line
so_far stages.Start draft = []
so_far stages.Titled draft = line.Title ∷ []
so_far stages.Modules draft = front draft
so_far stages.Journal draft = front draft
so_far stages.Guests draft = front draft
so_far (stages.Log last) draft = open_lines draft
so_far stages.Out draft = open_lines draft ++ line.Out draft.out ∷ []
so_far stages.Stop draft = open_lines draft ++ line.Out draft.out ∷ line.Stop draft.stop ∷ []
so_far stages.Units draft = open_lines draft ++ line.Out draft.out ∷ line.Stop draft.stop ∷ line.Units draft.units ∷ []
so_far stages.Ended draft = front draft ++ line.End ∷ []

-- the entry is the log's last one, if it has one
abbrev IsLast : Option Log → List Log → Type 0
IsLast None log = log ≡ []
IsLast (Some last) log = (first : List Log) × (log ≡ first ++ last ∷ [])

-- what is kept of the guests, by the last line
abbrev AreKept : Stage → ReportSoFar → Type 0
AreKept stages.Start draft = (draft.modules ≡ []) × (draft.journal ≡ []) × (draft.guests ≡ [])
AreKept stages.Titled draft = (draft.modules ≡ []) × (draft.journal ≡ []) × (draft.guests ≡ [])
AreKept stages.Modules draft = (draft.journal ≡ []) × (draft.guests ≡ [])
AreKept stages.Journal draft = draft.guests ≡ []
AreKept stages.Guests draft = AreAllApart draft.guests
AreKept (stages.Log last) draft = AreAllApart draft.guests × PicksDiffer draft.log × IsLast last draft.log
AreKept stages.Out draft = AreAllApart draft.guests × PicksDiffer draft.log
AreKept stages.Stop draft = AreAllApart draft.guests × PicksDiffer draft.log
AreKept stages.Units draft = AreAllApart draft.guests × PicksDiffer draft.log
AreKept stages.Ended draft = AreAllApart draft.guests

-- the lines led to the draft
pub record IsReached (draft : ReportSoFar) (read : List Line) : Type 0 where
  pub stage : last_stage stages.Start read ≡ draft.stage
  pub built : draft ≡ with_lines no_lines read
  pub lines : AllByRecursion IsLine read
  pub so_far : read ≡ so_far draft.stage draft
  pub kept : AreKept draft.stage draft

pub empty-IsReached : IsReached no_lines []
empty-IsReached = record { stage = refl; built = refl; lines = tt; so_far = refl; kept = (refl, refl, refl) }

pub AllByRecursion-append : {A : Type 0} (P : A → Type 0) (xs ys : List A) → AllByRecursion P xs
    → AllByRecursion P ys → AllByRecursion P (xs ++ ys)
AllByRecursion-append P [] ys h g = g
AllByRecursion-append P (x ∷ xs) ys h g = (h.0, AllByRecursion-append P xs ys h.1 g)

pub AllByRecursion-first : {A : Type 0} (P : A → Type 0) (xs ys : List A) → AllByRecursion P (xs ++ ys)
    → AllByRecursion P xs
AllByRecursion-first P [] ys h = tt
AllByRecursion-first P (x ∷ xs) ys h = (h.0, AllByRecursion-first P xs ys h.1)

-- a further entry that differs from the last one
pub apart-push : (first : List Log) (last entry : Log) → PicksDiffer (first ++ last ∷ []) → differ last entry ≡ true
    → PicksDiffer ((first ++ last ∷ []) ++ entry ∷ [])
apart-push [] last entry h d = (d, tt)
apart-push (one ∷ []) last entry h d = (h.0, (d, tt))
apart-push (one ∷ two ∷ first) last entry h d = (h.0, apart-push (two ∷ first) last entry h.1 d)

log-push : (last : Option Log) (log : List Log) (entry : Log) → PicksDiffer log → IsLast last log
    → takes_log (stages.Log last) entry ≡ true → PicksDiffer (log ++ entry ∷ [])
log-push None log entry h is takes = rw is tt
log-push (Some last) log entry h is takes = rw is.1 (apart-push is.0 last entry (rw is.1 at h) takes)

-- what is known where a line may follow

module _ (draft : ReportSoFar) (lines : List Line) where
  start : (at : Stage) → is_start at ≡ true → lines ≡ so_far at draft → AreKept at draft
      → (lines ≡ []) × (draft.modules ≡ []) × (draft.journal ≡ []) × (draft.guests ≡ [])
  start stages.Start may so kept = (so, kept.0, kept.1, kept.2)
  start _ may so kept = cc

  titled : (at : Stage) → is_titled at ≡ true → lines ≡ so_far at draft → AreKept at draft
      → (lines ≡ line.Title ∷ []) × (draft.modules ≡ []) × (draft.journal ≡ []) × (draft.guests ≡ [])
  titled stages.Titled may so kept = (so, kept.0, kept.1, kept.2)
  titled _ may so kept = cc

  modules : (at : Stage) → takes_modules at ≡ true → lines ≡ so_far at draft → AreKept at draft
      → (lines ≡ front draft) × (draft.journal ≡ []) × (draft.guests ≡ [])
  modules stages.Modules may so kept = (so, kept.0, kept.1)
  modules _ may so kept = cc

  journal : (at : Stage) → takes_journal at ≡ true → lines ≡ so_far at draft → AreKept at draft
      → (lines ≡ front draft) × (draft.guests ≡ [])
  journal stages.Modules may so kept = (so, kept.1)
  journal stages.Journal may so kept = (so, kept)
  journal _ may so kept = cc

  guests : (at : Stage) → takes_guests at ≡ true → lines ≡ so_far at draft → AreKept at draft
      → (lines ≡ front draft) × AreAllApart draft.guests
  guests stages.Modules may so kept = (so, rw kept.1 tt)
  guests stages.Journal may so kept = (so, rw kept tt)
  guests stages.Guests may so kept = (so, kept)
  guests _ may so kept = cc

  log : (at : Stage) (entry : Log) → takes_log at entry ≡ true → lines ≡ so_far at draft → AreKept at draft
      → (lines ≡ open_lines draft) × AreAllApart draft.guests × PicksDiffer (draft.log ++ entry ∷ [])
  log (stages.Log last) entry may so kept = (so, kept.0, log-push last draft.log entry kept.1 kept.2 may)
  log _ entry may so kept = cc

  out : (at : Stage) → takes_out at ≡ true → lines ≡ so_far at draft → AreKept at draft
      → (lines ≡ open_lines draft) × AreAllApart draft.guests × PicksDiffer draft.log
  out (stages.Log last) may so kept = (so, kept.0, kept.1)
  out _ may so kept = cc

  stopped : (at : Stage) → takes_stop at ≡ true → lines ≡ so_far at draft → AreKept at draft
      → (lines ≡ open_lines draft ++ line.Out draft.out ∷ []) × AreAllApart draft.guests × PicksDiffer draft.log
  stopped stages.Out may so kept = (so, kept.0, kept.1)
  stopped _ may so kept = cc

  units : (at : Stage) → takes_units at ≡ true → lines ≡ so_far at draft → AreKept at draft
      → (lines ≡ open_lines draft ++ line.Out draft.out ∷ line.Stop draft.stop ∷ []) × AreAllApart draft.guests ×
      PicksDiffer draft.log
  units stages.Stop may so kept = (so, kept.0, kept.1)
  units _ may so kept = cc

  steps : (at : Stage) → takes_steps at ≡ true → lines ≡ so_far at draft → AreKept at draft
      → (lines ≡ open_lines draft ++ line.Out draft.out ∷ line.Stop draft.stop ∷ line.Units draft.units ∷ []) ×
      AreAllApart draft.guests × PicksDiffer draft.log
  steps stages.Units may so kept = (so, kept.0, kept.1)
  steps _ may so kept = cc

-- one line more

map-push : {A B : Type 0} (f : A → B) (xs : List A) (x : A) → map f (xs ++ x ∷ []) ≡ map f xs ++ f x ∷ []
map-push f [] x = refl
map-push f (y ∷ xs) x = ap (λ (l : List _). f y ∷ l) (map-push f xs x)

-- joining lists of lines

module_more : (ms all : List Line) (m : Line) → all ≡ ms ++ m ∷ [] → ((ms ++ []) ++ []) ++ m ∷ [] ≡ (all ++ []) ++ []
module_more ms all m same = rw same (simp append-nil)

journal_more : (ms js all : List Line) (j : Line) → all ≡ js ++ j ∷ []
    → ((ms ++ js) ++ []) ++ j ∷ [] ≡ (ms ++ all) ++ []
journal_more ms js all j same = rw same (simp (append-nil, append_assoc))

guest_more : (front guests part ending all : List Line) (last : Line)
    → all ≡ guests ++ ((part ++ (ending ++ last ∷ [])) ++ [])
    → (((front ++ guests) ++ part) ++ ending) ++ last ∷ [] ≡ front ++ all
guest_more front guests part ending all last same = rw same (simp (append-nil, append_assoc))

abbrev Next : ReportSoFar → List Line → Line → Type 0
Next draft lines one =
    (lines ++ one ∷ [] ≡ so_far (stage_after one) (with_report_line draft one)) × AreKept (stage_after one)
    (with_report_line draft one)

next : (draft : ReportSoFar) (lines : List Line) (one : Line) → may_follow draft.stage one ≡ true
    → lines ≡ so_far draft.stage draft → AreKept draft.stage draft → Next draft lines one
next draft lines line.Title may so kept =
    let h = start draft lines draft.stage may so kept in
    (rw h.0 refl, (h.1, h.2, h.3))
next draft lines (line.Force epoch policy) may so kept =
    let h = titled draft lines draft.stage may so kept in
    (rw (h.0, h.1, h.2, h.3) refl, (h.2, h.3))
next draft lines (line.Module one) may so kept =
    let h = modules draft lines draft.stage may so kept in (
      rw (h.0, h.1, h.2) (ap (λ (l : List Line). line.Title ∷ line.Force draft.epoch draft.policy ∷ l)
          (module_more (map line.Module draft.modules) (map line.Module (draft.modules ++ one ∷ [])) (line.Module one)
          (map-push line.Module draft.modules one))),
      (h.1, h.2),
    )
next draft lines (line.Journal entry) may so kept =
    let h = journal draft lines draft.stage may so kept in (
      rw (h.0, h.1) (ap (λ (l : List Line). line.Title ∷ line.Force draft.epoch draft.policy ∷ l)
          (journal_more (map line.Module draft.modules) (map line.Journal draft.journal)
          (map line.Journal (draft.journal ++ entry ∷ [])) (line.Journal entry)
          (map-push line.Journal draft.journal entry))),
      h.1,
    )
next draft lines (line.Guest number entry) may so kept =
    let h = guests draft lines draft.stage may so kept in
    (rw h.0 refl, (h.1, tt, refl))
next draft lines (line.Log entry) may so kept =
    let h = log draft lines draft.stage entry may so kept in (
      rw h.0 (append_assoc (front draft) (line.Guest draft.number draft.entry ∷ map line.Log draft.log)
          (line.Log entry ∷ []) ∙ ap (λ (l : List Line). front draft ++ line.Guest draft.number draft.entry ∷ l)
          (sym (map-push line.Log draft.log entry))),
      (h.1, h.2, (draft.log, refl)),
    )
next draft lines (line.Out bytes) may so kept =
    let h = out draft lines draft.stage may so kept in
    (rw h.0 refl, (h.1, h.2))
next draft lines (line.Stop stop) may so kept =
    let h = stopped draft lines draft.stage may so kept in
    (rw h.0 (append_assoc (open_lines draft) (line.Out draft.out ∷ []) (line.Stop stop ∷ [])), (h.1, h.2))
next draft lines (line.Units count) may so kept =
    let h = units draft lines draft.stage may so kept in (
      rw h.0 (append_assoc (open_lines draft) (line.Out draft.out ∷ line.Stop draft.stop ∷ [])
          (line.Units count ∷ [])),
      (h.1, h.2),
    )
next draft lines (line.Steps count) may so kept =
    let h = steps draft lines draft.stage may so kept in (
      rw h.0 (guest_more
          (line.Title ∷ line.Force draft.epoch draft.policy ∷ map line.Module draft.modules ++ map line.Journal
          draft.journal)
          (flat_map guest_lines draft.guests)
          (line.Guest draft.number draft.entry ∷ map line.Log draft.log)
          (line.Out draft.out ∷ line.Stop draft.stop ∷ line.Units draft.units ∷ [])
          (flat_map guest_lines (draft.guests ++ part_of draft count ∷ []))
          (line.Steps count)
          (flat_map-append guest_lines draft.guests (part_of draft count ∷ []))),
      AllByRecursion-append (λ (guest : GuestPart). PicksDiffer guest.log) draft.guests (part_of draft count ∷ []) h.1
          (h.2, tt),
    )
next draft lines line.End may so kept =
    let h = guests draft lines draft.stage may so kept in
    (rw h.0 refl, h.1)

-- the draft with the line is reached by the lines and this one
pub next-IsReached : (draft : ReportSoFar) (lines : List Line) (one : Line) → IsReached draft lines → IsLine one
    → may_follow draft.stage one ≡ true → IsReached (with_report_line draft one) (lines ++ one ∷ [])
next-IsReached draft lines one h is may =
    let new = with_report_line draft one in
    let after = next draft lines one may h.so_far h.kept in
    let at : stage_after one ≡ new.stage = sym (with_line-stage draft one) in
    record {
      stage = last_stage-append stages.Start lines (one ∷ []) ∙ at;
      built = ap (λ (d : ReportSoFar). with_report_line d one) h.built ∙ sym (with_lines-append no_lines lines (one ∷ []));
      lines = AllByRecursion-append IsLine lines (one ∷ []) h.lines (is, tt);
      so_far = after.0 ∙ ap (λ (s : Stage). so_far s new) at;
      kept = subst (λ (s : Stage). AreKept s new) at after.1;
    }

-- the lines of a report that is whole
pub ended-IsReport : (draft : ReportSoFar) (lines : List Line) → IsReached draft lines → draft.stage ≡ stages.Ended
    → IsReport (report_of draft) × (report_lines (report_of draft) ≡ lines)
ended-IsReport draft lines h ends =
    let same : lines ≡ report_lines (report_of draft) = h.so_far ∙ ap (λ (s : Stage). so_far s draft) ends in (
      record {
        lines = subst (AllByRecursion IsLine) same h.lines;
        apart = subst (λ (s : Stage). AreKept s draft) ends h.kept;
      },
      sym same,
    )
