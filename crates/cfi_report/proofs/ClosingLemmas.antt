-- Lines that were read are the first lines of some report.
use Rattle.std.proofs.Common.{◌≡◌, ◌^◌, ◌<◌, List, [], ◌∷◌, ◌++◌, Some, refl, sym, ap, ◌∙◌, subst, append_assoc, arith}
use Rattle.std.specs.List.{AllByRecursion}
use Rattle.std.proofs.lemmas.List.{append-nil}
use Rattle.cfi_unit.specs.declared.log.Stop.TheVariants.{Fuel}
use Rattle.cfi_report.specs.declared.line.Line.{Line}
use Rattle.cfi_report.specs.declared.line.Line.TheVariants as line
use Rattle.cfi_report.specs.declared.stage.Stage.{Stage}
use Rattle.cfi_report.specs.declared.stage.Stage.TheVariants as stages
use Rattle.cfi_report.specs.declared.report.Report.{Report}
use Rattle.cfi_report.specs.Report.{IsLine, report_lines, IsReport}
use Rattle.cfi_report.specs.inner.Draft.{ReportSoFar, report_of, with_report_line}
use Rattle.cfi_report.proofs.OrderLemmas.{with_line-stage, Follows, last_stage, last_stage-append}
use Rattle.cfi_report.proofs.BuiltLemmas.{with_lines}
use Rattle.cfi_report.proofs.ReachedLemmas.{IsReached, next-IsReached, ended-IsReport}

-- lines that end a report
abbrev closing : Stage → List Line
closing stages.Start = line.Title ∷ line.Force 0 0 ∷ line.End ∷ []
closing stages.Titled = line.Force 0 0 ∷ line.End ∷ []
closing stages.Modules = line.End ∷ []
closing stages.Journal = line.End ∷ []
closing stages.Guests = line.End ∷ []
closing (stages.Log last) = line.Out [] ∷ line.Stop (Some Fuel) ∷ line.Units 0 ∷ line.Steps 0 ∷ line.End ∷ []
closing stages.Out = line.Stop (Some Fuel) ∷ line.Units 0 ∷ line.Steps 0 ∷ line.End ∷ []
closing stages.Stop = line.Units 0 ∷ line.Steps 0 ∷ line.End ∷ []
closing stages.Units = line.Steps 0 ∷ line.End ∷ []
closing stages.Ended = []

-- they may follow, and lead to the end
record Closes (at : Stage) (last_lines : List Line) : Type 0 where
  follow : Follows at last_lines
  lines : AllByRecursion IsLine last_lines
  last : last_stage at last_lines ≡ stages.Ended

zero_fits : 0 < 2 ^ 32
zero_fits = omega arith

pub force-IsLine : IsLine (line.Force 0 0)
force-IsLine = ((tt, (zero_fits, (zero_fits, tt))), tt)

units-IsLine : IsLine (line.Units 0)
units-IsLine = ((tt, (zero_fits, tt)), tt)

steps-IsLine : IsLine (line.Steps 0)
steps-IsLine = ((tt, (zero_fits, tt)), tt)

pub end-IsLine : IsLine line.End
end-IsLine = ((tt, tt), tt)

pub title-IsLine : IsLine line.Title
title-IsLine = ((tt, (tt, tt)), tt)

out-IsLine : IsLine (line.Out [])
out-IsLine = ((tt, (tt, tt)), tt)

fuel-IsLine : IsLine (line.Stop (Some Fuel))
fuel-IsLine = ((tt, (tt, tt)), tt)

closing-Closes : (at : Stage) → Closes at (closing at)
closing-Closes stages.Start =
    record {
      follow = (refl, (refl, (refl, tt)));
      lines = (title-IsLine, (force-IsLine, (end-IsLine, tt)));
      last = refl;
    }
closing-Closes stages.Titled =
    record { follow = (refl, (refl, tt)); lines = (force-IsLine, (end-IsLine, tt)); last = refl }
closing-Closes stages.Modules = record { follow = (refl, tt); lines = (end-IsLine, tt); last = refl }
closing-Closes stages.Journal = record { follow = (refl, tt); lines = (end-IsLine, tt); last = refl }
closing-Closes stages.Guests = record { follow = (refl, tt); lines = (end-IsLine, tt); last = refl }
closing-Closes (stages.Log last) =
    record {
      follow = (refl, (refl, (refl, (refl, (refl, tt)))));
      lines = (out-IsLine, (fuel-IsLine, (units-IsLine, (steps-IsLine, (end-IsLine, tt)))));
      last = refl;
    }
closing-Closes stages.Out =
    record {
      follow = (refl, (refl, (refl, (refl, tt))));
      lines = (fuel-IsLine, (units-IsLine, (steps-IsLine, (end-IsLine, tt))));
      last = refl;
    }
closing-Closes stages.Stop =
    record {
      follow = (refl, (refl, (refl, tt)));
      lines = (units-IsLine, (steps-IsLine, (end-IsLine, tt)));
      last = refl;
    }
closing-Closes stages.Units =
    record { follow = (refl, (refl, tt)); lines = (steps-IsLine, (end-IsLine, tt)); last = refl }
closing-Closes stages.Ended = record { follow = tt; lines = tt; last = refl }

extend : (more : List Line) (draft : ReportSoFar) (lines : List Line) → IsReached draft lines → AllByRecursion IsLine more
    → Follows draft.stage more → IsReached (with_lines draft more) (lines ++ more)
extend [] draft lines h is follow = rw (append-nil lines) h
extend (one ∷ more) draft lines h is follow =
    let step = next-IsReached draft lines one h is.0 follow.0 in
    let rest = subst (λ (s : Stage). Follows s more) (sym (with_line-stage draft one)) follow.1 in
    let all = extend more (with_report_line draft one) (lines ++ one ∷ []) step is.1 rest in
    subst (λ (l : List Line). IsReached (with_lines (with_report_line draft one) more) l)
    (append_assoc lines (one ∷ []) more) all

-- lines that were read are the first lines of some report
pub some_report : (draft : ReportSoFar) (lines : List Line) → IsReached draft lines
    → (report : Report) × (IsReport report × ((more : List Line) × (report_lines report ≡ lines ++ more)))
some_report draft lines h =
    let closes = closing-Closes draft.stage in
    let more = closing draft.stage in
    let all = extend more draft lines h closes.lines closes.follow in
    let ends : (with_lines draft more).stage ≡ stages.Ended =
    sym all.stage ∙ last_stage-append stages.Start lines more ∙ ap (λ (s : Stage). last_stage s more) h.stage
    ∙ closes.last in
    let whole = ended-IsReport (with_lines draft more) (lines ++ more) all ends in
    (report_of (with_lines draft more), (whole.0, (more, whole.1)))
