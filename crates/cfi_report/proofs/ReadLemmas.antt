-- What is known while a text is read, and when it is a report.
use Rattle.std.proofs.Common.{◌≡◌, ℕ, ◌+◌, ◌-◌, ◌^◌, ◌<◌, ◌≤◌, true, false, List, [], ◌∷◌, ◌++◌, length, take, drop, refl, sym, ap, ◌∙◌, subst, append_assoc, arith, length-append, length-take, take_all}
use Rattle.std.specs.List.{AllByRecursion}
use Rattle.std.proofs.lemmas.List.{append-nil, take-append-le, take-append-drop, nil_from_length}
use Rattle.std.proofs.lemmas.Bool.{false≢true}
use Rattle.std.proofs.lemmas.List.Concat.{flat_map-append}
use Rattle.cfi_report.specs.declared.line.Line.{Line}
use Rattle.cfi_report.specs.declared.line.Line.TheVariants as line
use Rattle.cfi_report.specs.declared.stage.Stage.{Stage}
use Rattle.cfi_report.specs.declared.stage.Stage.TheVariants as stages
use Rattle.cfi_report.specs.declared.report.Report.{Report}
use Rattle.cfi_report.specs.Line.{line_text}
use Rattle.cfi_report.specs.Report.{IsLine, report_lines, lines_text, report_text, IsReport, CanBegin, IsFirstFaultyLine}
use Rattle.cfi_report.specs.inner.Draft.{ReportSoFar, no_lines, report_of, may_follow, is_whole, with_report_line}
use Rattle.cfi_report.specs.inner.Next.{IsNext, HasNoNext}
use Rattle.cfi_report.proofs.BuiltLemmas.{with_lines, lines_of-built}
use Rattle.cfi_report.proofs.NextLemmas.{follow_on, whole_follows}
use Rattle.cfi_report.proofs.OrderLemmas.{Follows, Follows-rest, last_stage, lines_of-Follows, last_stage-lines_of}
use Rattle.cfi_report.proofs.ReachedLemmas.{IsReached, empty-IsReached, next-IsReached, ended-IsReport, AllByRecursion-first}
use Rattle.cfi_report.proofs.ClosingLemmas.{some_report}
use Rattle.cfi_report.proofs.SolidLemmas.{line_text-long}

-- the lines before the rest led to the draft, and the next one has this number
pub record IsRead (source rest : List ℕ) (next : ℕ) (draft : ReportSoFar) : Type 0 where
  pub lines : List Line
  pub reached : IsReached draft lines
  pub text : source ≡ lines_text lines ++ rest
  pub number : next ≡ length lines + 1
  pub room : next + length rest ≤ 2 ^ 32
  pub fits : next < 2 ^ 32

pub read-start : (text : List ℕ) → length text < 2 ^ 32 → IsRead text text 1 no_lines
read-start text small =
    record {
      lines = [];
      reached = empty-IsReached;
      text = refl;
      number = refl;
      room = omega arith;
      fits = omega arith;
    }

-- the rest is shorter by a line, and its number fits
pub read-room : (at : Stage) (rest after : List ℕ) (one : Line) (number : ℕ) → IsNext at rest one after
    → number + length rest ≤ 2 ^ 32 → (number + 1 < 2 ^ 32) × (number + 1 + length after ≤ 2 ^ 32) ×
    (length after < length rest)
read-room at rest after one number h room =
    let size : length rest ≡ length (line_text one) + length after = ap length h.stands
    ∙ length-append (line_text one) after in
    let two = line_text-long one in
    (omega (arith, size, two), omega (arith, size, two), omega (arith, size, two))

pub read-next : (text rest after : List ℕ) (number : ℕ) (draft : ReportSoFar) (one : Line) → IsRead text rest number draft
    → IsNext draft.stage rest one after → IsRead text after (number + 1) (with_report_line draft one)
read-next text rest after number draft one h next =
    let room = read-room draft.stage rest after one number next h.room in
    let alone : lines_text (one ∷ []) ≡ line_text one = append-nil (line_text one) in
    record {
      lines = h.lines ++ one ∷ [];
      reached = next-IsReached draft h.lines one h.reached next.line next.follows;
      text = h.text ∙ ap (λ (l : List ℕ). lines_text h.lines ++ l) next.stands
          ∙ sym (append_assoc (lines_text h.lines) (line_text one) after)
          ∙ ap (λ (l : List ℕ). l ++ after) (ap (λ (l : List ℕ). lines_text h.lines ++ l) (sym alone)
          ∙ sym (flat_map-append line_text h.lines (one ∷ [])));
      number = omega (arith, h.number, length-append h.lines (one ∷ []));
      room = room.1;
      fits = room.0;
    }

whole-Ended : (at : Stage) → is_whole at ≡ true → at ≡ stages.Ended
whole-Ended stages.Ended h = refl
whole-Ended _ h = cc

-- a report that goes on after the lines has a line there that may follow
goes_on : (draft : ReportSoFar) (lines : List Line) (one : Line) (more : List Line) (report : Report)
    → IsReached draft lines → IsReport report → report_lines report ≡ lines ++ one ∷ more
    → may_follow draft.stage one ≡ true
goes_on draft lines one more report h is same =
    let follow = subst (Follows stages.Start) same (lines_of-Follows report is.apart) in
    subst (λ (s : Stage). may_follow s one ≡ true) h.stage (Follows-rest stages.Start lines (one ∷ more) follow).0

-- one that does not go on leads to the end
ends : (draft : ReportSoFar) (lines : List Line) (report : Report) → IsReached draft lines → report_lines report ≡ lines
    → is_whole draft.stage ≡ true
ends draft lines report h same =
    let last : stages.Ended ≡ draft.stage = sym (last_stage-lines_of report) ∙ ap (last_stage stages.Start) same
    ∙ h.stage in
    subst (λ (s : Stage). is_whole s ≡ true) last refl

AllByRecursion-last : {A : Type 0} (P : A → Type 0) (xs ys : List A) → AllByRecursion P (xs ++ ys) → AllByRecursion P ys
AllByRecursion-last P [] ys h = h
AllByRecursion-last P (x ∷ xs) ys h = AllByRecursion-last P xs ys h.1

module _ (text rest : List ℕ) (number : ℕ) (draft : ReportSoFar) (h : IsRead text rest number draft) where
  -- no report goes on here
  stuck : HasNoNext draft.stage rest → (report : Report) (one : Line) (more : List Line) (after : List ℕ)
      → IsReport report → report_lines report ≡ h.lines ++ one ∷ more → rest ≡ line_text one ++ after → ⊥
  stuck never report one more after is same stands =
      let lines = subst (AllByRecursion IsLine) same is.lines in
      never one after (record {
        line = (AllByRecursion-last IsLine h.lines (one ∷ more) lines).0;
        follows = goes_on draft h.lines one more report h.reached is same;
        stands = stands;
      })

  not_whole : HasNoNext draft.stage rest → (is_whole draft.stage ≡ true → rest ≡ [] → ⊥) → (report : Report)
      → IsReport report → text ≡ report_text report → ⊥
  not_whole never some report is same =
      let next = whole_follows h.lines (report_lines report) rest h.reached.lines is.lines (sym h.text ∙ same) in
      by_rest next.0 next.1.0 next.1.1
    where
      by_rest : (more : List Line) → report_lines report ≡ h.lines ++ more → rest ≡ lines_text more → ⊥
      by_rest [] lines none = some (ends draft h.lines report h.reached (lines ∙ append-nil h.lines)) none
      by_rest (one ∷ more) lines stands = stuck never report one more (lines_text more) is lines stands

  -- a report has the lines that were read
  before : CanBegin text (number - 1)
  before =
      let some = some_report draft h.lines h.reached in
      let lines = some.1.1.1 in
      let count : number - 1 ≡ length h.lines = omega (arith, h.number) in
      let first : take (number - 1) (report_lines some.0) ≡ h.lines =
      rw (count, lines) (take-append-le (length h.lines) h.lines some.1.1.0 (omega arith)
      ∙ take_all (length h.lines) h.lines (omega arith)) in (
        some.0,
        some.1.0,
        record {
          within = omega (arith, count, ap length lines, length-append h.lines some.1.1.0);
          rest = rest;
          begins = h.text ∙ ap (λ (l : List Line). lines_text l ++ rest) (sym first);
        },
      )

  -- and none has one line more
  here : HasNoNext draft.stage rest → CanBegin text number → ⊥
  here never begins =
      let report = begins.0 in
      let is = begins.1 in
      let b = begins.2 in
      let firsts = take number (report_lines report) in
      let lasts = drop number (report_lines report) in
      let all : firsts ++ lasts ≡ report_lines report = take-append-drop number (report_lines report) in
      let size : length firsts ≡ length h.lines + 1 = omega
      (arith, length-take number (report_lines report), b.within, h.number) in
      let good = AllByRecursion-first IsLine firsts lasts (subst (AllByRecursion IsLine) (sym all) is.lines) in
      let next = follow_on h.lines firsts rest b.rest h.reached.lines good (omega (arith, size))
      (sym h.text ∙ b.begins) in
      by_rest report is lasts b.rest firsts all size next.0 next.1.0 next.1.1
    where
      by_rest : (report : Report) → IsReport report → (lasts : List Line) (after : List ℕ) (firsts : List Line)
          → firsts ++ lasts ≡ report_lines report → length firsts ≡ length h.lines + 1 → (more : List Line)
          → firsts ≡ h.lines ++ more → rest ≡ lines_text more ++ after → ⊥
      by_rest report is lasts after firsts all size [] lines stands =
          omega (arith, size, ap length (lines ∙ append-nil h.lines))
      by_rest report is lasts after firsts all size (one ∷ more) lines stands =
          let whole : report_lines report ≡ h.lines ++ one ∷ (more ++ lasts) = sym all
          ∙ ap (λ (l : List Line). l ++ lasts) lines ∙ append_assoc h.lines (one ∷ more) lasts in
          stuck never report one (more ++ lasts) (lines_text more ++ after) is whole
          (stands ∙ append_assoc (line_text one) (lines_text more) after)

  -- the line of this number is the first faulty one
  pub read-fault : HasNoNext draft.stage rest → (is_whole draft.stage ≡ true → rest ≡ [] → ⊥) → IsFirstFaultyLine text number
  read-fault never some = record { no_report = not_whole never some; before = before; here = here never }

  -- nothing stands after the last line, so this is the report
  nothing : (more : List Line) → [] ≡ lines_text more → more ≡ []
  nothing [] same = refl
  nothing (one ∷ more) same =
      let none : length (line_text one ++ lines_text more) ≡ 0 = ap length (sym same) in
      absurd (omega (arith, none, length-append (line_text one) (lines_text more), line_text-long one))

  pub read-report : is_whole draft.stage ≡ true → IsReport (report_of draft)
  read-report whole = (ended-IsReport draft h.lines h.reached (whole-Ended draft.stage whole)).0

  pub read-text : is_whole draft.stage ≡ true → rest ≡ [] → text ≡ report_text (report_of draft)
  read-text whole none =
      let lines = (ended-IsReport draft h.lines h.reached (whole-Ended draft.stage whole)).1 in
      h.text ∙ ap (λ (l : List ℕ). lines_text h.lines ++ l) none ∙ append-nil (lines_text h.lines)
      ∙ ap lines_text (sym lines)

  pub read-only : rest ≡ [] → (report : Report) → IsReport report → text ≡ report_text report → report_of draft ≡ report
  read-only none report is same =
      let next = whole_follows h.lines (report_lines report) rest h.reached.lines is.lines (sym h.text ∙ same) in
      let end : next.0 ≡ [] = nothing next.0 (sym none ∙ next.1.1) in
      let lines : report_lines report ≡ h.lines = next.1.0 ∙ ap (λ (l : List Line). h.lines ++ l) end
      ∙ append-nil h.lines in
      ap report_of (h.reached.built ∙ ap (with_lines no_lines) (sym lines)) ∙ lines_of-built report

-- a line is wanted, and none stands there that may follow
pub fault-wanted : (text rest : List ℕ) (number : ℕ) (draft : ReportSoFar) (at : Stage) → IsRead text rest number draft
    → at ≡ draft.stage → HasNoNext at rest → is_whole at ≡ false → IsFirstFaultyLine text number
fault-wanted text rest number draft at h same never going =
    let here = subst (λ (s : Stage). HasNoNext s rest) same never in
    read-fault text rest number draft h here (λ whole none. false≢true (sym going ∙ ap is_whole same ∙ whole))

-- after the last line none may follow

ended : (one : Line) → may_follow stages.Ended one ≡ true → ⊥
ended line.Title h = cc
ended (line.Force epoch policy) h = cc
ended (line.Module one) h = cc
ended (line.Journal entry) h = cc
ended (line.Guest number entry) h = cc
ended (line.Log entry) h = cc
ended (line.Out bytes) h = cc
ended (line.Stop stop) h = cc
ended (line.Units units) h = cc
ended (line.Steps steps) h = cc
ended line.End h = cc

pub whole-HasNoNext : (at : Stage) (rest : List ℕ) → is_whole at ≡ true → HasNoNext at rest
whole-HasNoNext at rest whole = λ one after next.
    ended one (subst (λ (s : Stage). may_follow s one ≡ true) (whole-Ended at whole) next.follows)

-- something stands after the last line
pub fault-left : (text rest : List ℕ) (number : ℕ) (draft : ReportSoFar) (at : Stage) → IsRead text rest number draft
    → at ≡ draft.stage → is_whole at ≡ true → 0 < length rest → IsFirstFaultyLine text number
fault-left text rest number draft at h same whole some =
    let here = whole-HasNoNext draft.stage rest (sym (ap is_whole same) ∙ whole) in
    read-fault text rest number draft h here (λ done none.
    let size : length rest ≡ 0 = ap length none in omega (arith, some, size))

-- a text that was read whole
pub record IsReadWhole (source : List ℕ) (report : Report) : Type 0 where
  pub is : IsReport report
  pub text : source ≡ report_text report
  pub only : (other : Report) → IsReport other → source ≡ report_text other → report ≡ other

pub read-whole : (text rest : List ℕ) (number : ℕ) (draft : ReportSoFar) (at : Stage) (report : Report)
    → IsRead text rest number draft → at ≡ draft.stage → is_whole at ≡ true → length rest ≡ 0
    → report ≡ report_of draft → IsReadWhole text report
read-whole text rest number draft at report h same whole none made =
    let whole : is_whole draft.stage ≡ true = sym (ap is_whole same) ∙ whole in
    let none = nil_from_length rest none in
    record {
      is = subst IsReport (sym made) (read-report text rest number draft h whole);
      text = read-text text rest number draft h whole none ∙ ap report_text (sym made);
      only = λ other is same. made ∙ read-only text rest number draft h none other is same;
    }
