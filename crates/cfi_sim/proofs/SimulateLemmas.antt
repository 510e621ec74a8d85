-- A whole simulation.
use Rattle.std.proofs.Common.{◌≡◌, ℕ, List, [], sym, subst, ◌∙◌}
use Rattle.std.specs.List.{All}
use Rattle.std.proofs.lemmas.List.{append-nil}
use Rattle.cfi_aux.specs.declared.modules.Module.{Module}
use Rattle.cfi_plan.specs.Plan.{IsPlan}
use Rattle.cfi_plan.specs.declared.plan.Plan.{Plan}
use Rattle.cfi_modules.specs.Series.{CanBeTaken}
use Rattle.cfi_sim.specs.Fault.{IsBadLine, IsSimFault}
use Rattle.cfi_sim.specs.Schedule.{LinesMake, ScheduleMakes}
use Rattle.cfi_sim.specs.Told.{IsToldSim}
use Rattle.cfi_sim.specs.Valid.{IsValidSim}
use Rattle.cfi_sim.specs.declared.fault.SimFault.{SimFault}
use Rattle.cfi_sim.specs.declared.fault.SimFault.TheVariants.{Open, BadEvent, Memory}
use Rattle.cfi_sim.specs.declared.report.SimReport.{SimReport}
use Rattle.cfi_sim.specs.inner.Following.{FollowsTo, IsScheduleFault}
use Rattle.cfi_sim.specs.inner.Opening.{IsOpened, IsOpeningFault}
use Rattle.cfi_sim.specs.inner.Standing.{Whole}
use Rattle.cfi_sim.proofs.EndLemmas.{valid}
use Rattle.cfi_sim.proofs.GoLemmas.{all_sound}
use Rattle.cfi_text.specs.Lines.{numbered_lines}

-- a plan that cannot be opened
pub opening_fault : (plan : Plan) (modules : List Module) (schedule : List ℕ) (fault : SimFault)
    → IsOpeningFault plan modules fault → IsSimFault plan modules schedule fault
opening_fault plan modules schedule (Open fault) why = why
opening_fault plan modules schedule (BadEvent line) why = absurd why
opening_fault plan modules schedule Memory why = tt

module _ (plan : Plan) (modules : List Module) (schedule : List ℕ) (x : Whole) (opened : IsOpened plan modules x) where
  -- a bad line
  pub schedule_fault : (fault : SimFault) → IsScheduleFault x schedule fault → IsSimFault plan modules schedule fault
  schedule_fault (Open fault) why = absurd why
  schedule_fault (BadEvent number) why = record {
    start = x.stage;
    starts = opened.starts;
    bad = subst (λ (ms : List Module). IsBadLine plan ms schedule x.stage number) opened.modules_are
        (subst (λ (p : Plan). IsBadLine p x.modules schedule x.stage number) opened.plan_is why);
  }
  schedule_fault Memory why = tt

  -- all lines lead on
  pub schedule_valid : IsPlan plan → All CanBeTaken modules → (y : Whole) → FollowsTo schedule [] x y
      → (sim : SimReport) → IsToldSim y.plan y.stage sim → IsValidSim plan modules schedule sim
  schedule_valid is taken y follows sim told =
      let lines : follows.before ≡ numbered_lines schedule =
      sym (append-nil follows.before) ∙ sym follows.lines in
      let own : LinesMake plan modules follows.before x.stage y.stage =
      subst (λ (ms : List Module). LinesMake plan ms follows.before x.stage y.stage) opened.modules_are
      (subst (λ (p : Plan). LinesMake p x.modules follows.before x.stage y.stage) opened.plan_is follows.leads) in
      let makes : ScheduleMakes plan modules schedule x.stage y.stage =
      subst (λ (ls : List (ℕ × List ℕ)). LinesMake plan modules ls x.stage y.stage) lines own in
      valid plan modules schedule x.stage y.stage sim is (all_sound modules taken) opened.starts makes
      (subst (λ (p : Plan). IsToldSim p y.stage sim) (follows.plan ∙ opened.plan_is) told)
