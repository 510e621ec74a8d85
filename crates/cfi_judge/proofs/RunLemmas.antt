-- Replays, one by one.
use Rattle.std.proofs.Common.{◌≡◌, ◌≢◌, ℕ, ◌+◌, ◌≤◌, Bool, false, List, length, Option, Some, None, Result, Ok, Err, sym, ap, subst, arith}
use Rattle.std.specs.Prelude.{◌↔◌, IfNone, IsTrue}
use Rattle.std.specs.List.{slice_get}
use Rattle.cfi_aux.specs.declared.modules.Module.{Module}
use Rattle.cfi_ledger.specs.Plans.{CanStart}
use Rattle.cfi_ledger.specs.Roster.{Roster, members_in_roster}
use Rattle.cfi_ledger.proofs.PolicyLemmas.{journal_policies, policies_left}
use Rattle.cfi_model.specs.State.{State}
use Rattle.cfi_plan.specs.declared.plan.Plan.{Plan}
use Rattle.cfi_replay.specs.Setting.{CanReplay, ComesIn, ComesNowhere, IsCourseIn}
use Rattle.cfi_replay.specs.declared.setting.Setting.{Setting}
use Rattle.cfi_report.specs.declared.report.GuestPart.{GuestPart}
use Rattle.cfi_report.specs.declared.report.Report.{Report}
use Rattle.cfi_unit.specs.declared.log.Log.{Log}
use Rattle.cfi_valid.specs.Course.{Course}
use Rattle.cfi_valid.specs.Journal.{JournalState}
use Rattle.cfi_valid.specs.Log.{IsCaused, IsLogged, Unlogged, Why, why_of}
use Rattle.cfi_valid.specs.Parts.{FitsEndedSteps, HasEndedReplay}
use Rattle.cfi_valid.specs.Valid.{HasJournal, IsValidReport, course_of}
use Rattle.cfi_word.specs.declared.limits.TheConstants.{MAX_POLICY}
use Rattle.cfi_judge.specs.Judge.{HasItsReplay, HasItsSteps, HoldsToLogs, HoldsToReplays, IsFirstPart, IsJudgeFault}
use Rattle.cfi_judge.specs.Steps.{HasRun}
use Rattle.cfi_judge.specs.declared.fault.JudgeFault.{JudgeFault}
use Rattle.cfi_judge.specs.declared.fault.JudgeFault.TheVariants as faults
use Rattle.cfi_judge.specs.declared.runs.Outcome.{Outcome}
use Rattle.cfi_judge.specs.declared.runs.Outcome.TheVariants.{Other, Same, Steps}
use Rattle.cfi_judge.specs.declared.trial.Trial.{Trial}
use Rattle.cfi_judge.specs.inner.Runs.{HasOutcome, IsSetIn, kept_with}
use Rattle.cfi_judge.specs.inner.Trial.{course_in}
use Rattle.cfi_judge.proofs.FaultLemmas.{all_valid}
use Rattle.cfi_judge.proofs.PartLemmas.{OfFirst, all_hold, first_part, none_first, one_more}
use Rattle.cfi_judge.proofs.RefutesLemmas.{not_answered}

-- ---- one replay

pub if_none : {T P : Type 0} (found : Option T) → found ≡ None → IfNone found P → P
if_none {T} {P} found same is = subst (λ (o : Option T). IfNone o P) same is

module _ (s : Setting) (part : GuestPart) where
  pub nowhere : ComesNowhere s part → (c : Course) → IsCourseIn s c → HasOutcome c part Other
  nowhere never c is ended = never c is ended.replay.last ended.replay.comes

  module _ (last : State) (comes : ComesIn s part last) (c : Course) (is : IsCourseIn s c) where
    pub not_ended : (answer : Bool) → answer ≡ false → (IsTrue answer ↔ HasEndedReplay c part)
        → HasOutcome c part Other
    not_ended answer wrong exact ended = not_answered answer (HasEndedReplay c part) wrong exact ended

    pub has_run : (epoch : ℕ) → c.end.epoch ≡ epoch → HasRun s.plan.now epoch s.code.now last c part
    has_run epoch same = record {
      plan_is = is.plan_is;
      epoch_is = same;
      comes = (comes c is).comes;
      code_is = (comes c is).code_is;
    }

-- the course that is judged is one of the replays
pub set_course : (t : Trial) (s : Setting) → IsSetIn t s → IsCourseIn s (course_in t)
set_course t s here = record {
  plan_is = sym here.plan_is;
  members_are = ap (λ (r : Roster). members_in_roster r) (sym here.roster_is);
}

-- ---- what a log has to have

why_not : (c : Course) (guest : ℕ) (log : List Log) (at number : ℕ) (why : Why) → IsCaused c guest log at number why
    → why ≢ Unlogged
why_not c guest log at number why is same = subst (λ (w : Why). IsCaused c guest log at number w) same is

pub can_replay : (s : Setting) (c : Course) (guest : ℕ) (log : List Log) → c.end.policy ≡ s.force
    → IsLogged c guest log → CanReplay s log
can_replay s c guest log force is = record {
  rises = is.rises;
  most = omega (arith, is.most, force);
  causes = λ at number cause there. why_not c guest log at number (why_of cause) (is.causes at number cause there);
}

-- a journal leads to few policies
pub few_policies : (plan : Plan) (modules : List Module) (report : Report) (end : JournalState) → CanStart plan modules
    → HasJournal plan modules report end → end.policy ≤ MAX_POLICY
few_policies plan modules report end can has =
    let have = journal_policies plan modules report.journal end can.most_starts has.course in
    omega (arith, policies_left plan end have)

-- ---- all replays

-- what is kept of the steps of the first guests
abbrev pub KeepsSteps : Report → Course → (number : ℕ) → (kept : Option ℕ) → Type 0
KeepsSteps report c number None = OfFirst report (HasItsSteps c) number
KeepsSteps report c number (Some first) = IsFirstPart report (HasItsSteps c) first

-- the first guests come to what their parts say, but for the steps of one of them
pub record HasReplayed (report : Report) (c : Course) (number : ℕ) (kept : Option ℕ) : Type 0 where
  pub replays : OfFirst report (HasItsReplay c) number
  pub steps : KeepsSteps report c number kept

pub none_replayed : (report : Report) (c : Course) → HasReplayed report c 0 None
none_replayed report c = record {
  replays = none_first report (HasItsReplay c);
  steps = none_first report (HasItsSteps c);
}

module _ (plan : Plan) (modules : List Module) (report : Report) (end : JournalState)
    (holds : HoldsToLogs plan modules report end) where
  abbrev c : Course
  c = course_of plan modules report end

  -- what one part more is
  abbrev pub GoesOn : (number : ℕ) → Result (Option ℕ) JudgeFault → Type 0
  GoesOn number (Ok kept) = HasReplayed report c (number + 1) kept
  GoesOn number (Err fault) = IsJudgeFault plan modules report fault

  module _ (number : ℕ) (part : GuestPart) (is : slice_get report.guests number ≡ Some part) where
    steps_stay : (kept : Option ℕ) → KeepsSteps report c number kept → FitsEndedSteps c part
        → KeepsSteps report c (number + 1) kept
    steps_stay None steps fits = one_more report (HasItsSteps c) number steps part is fits
    steps_stay (Some first) steps fits = steps

    pub goes_on : (kept : Option ℕ) (outcome : Outcome) → HasReplayed report c number kept → HasOutcome c part outcome
        → GoesOn number (kept_with kept number outcome)
    goes_on kept Other have other =
        (end, holds, first_part report (HasItsReplay c) number have.replays part is other)
    goes_on None Steps have some = record {
      replays = one_more report (HasItsReplay c) number have.replays part is some.0;
      steps = first_part report (HasItsSteps c) number have.steps part is some.1;
    }
    goes_on (Some first) Steps have some = record {
      replays = one_more report (HasItsReplay c) number have.replays part is some.0;
      steps = have.steps;
    }
    goes_on kept Same have same = record {
      replays = one_more report (HasItsReplay c) number have.replays part is same.0;
      steps = steps_stay kept have.steps same.1;
    }

  -- at the end
  module _ (number : ℕ) (all : length report.guests ≤ number) where
    to_replays : OfFirst report (HasItsReplay c) number → HoldsToReplays plan modules report end
    to_replays replays = record { before = holds; replays = all_hold report (HasItsReplay c) number replays all }

    pub all_replayed : HasReplayed report c number None → IsValidReport plan modules report
    all_replayed have =
        all_valid plan modules report end (to_replays have.replays)
        (all_hold report (HasItsSteps c) number have.steps all)

    pub steps_differ : (first : ℕ) → HasReplayed report c number (Some first)
        → IsJudgeFault plan modules report (faults.Steps first)
    steps_differ first have = (end, to_replays have.replays, have.steps)
