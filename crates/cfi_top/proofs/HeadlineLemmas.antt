-- What is promised of each guest.
use Rattle.std.proofs.Common.{ℕ, List, [], ◌∷◌, length, sym, subst}
use Rattle.cfi_unit.specs.declared.fill.Fill.{Fill}
use Rattle.cfi_model.specs.Came.{AreAskedBy, takes_in}
use Rattle.cfi_model.specs.Fits.{Along}
use Rattle.cfi_model.specs.History.{History, IsHistory, IsStart}
use Rattle.cfi_model.specs.Raw.{raw_opened}
use Rattle.cfi_model.specs.Run.{Take}
use Rattle.cfi_model.specs.Shows.{End, IsReady, Runs, ends_along}
use Rattle.cfi_model.specs.State.{State, opened}
use Rattle.cfi_model.specs.Words.{Tables}
use Rattle.cfi_model.proofs.FixedLemmas.{opened_ready}
use Rattle.cfi_model.proofs.ShownLemmas.{raw_shows}
use Rattle.cfi_model_law.specs.Window.{HasRunInForce}
use Rattle.cfi_model_law.proofs.InForceLemmas.{in_force_run}
use Rattle.cfi_model_law.proofs.MomentLemmas.{confined}
use Rattle.cfi_model_law.proofs.RunLemmas.{step_ready}
use Rattle.cfi_guest_part.specs.Ran.{IsHistoryOf, IsRunOf}
use Rattle.cfi_report.specs.declared.report.GuestPart.{GuestPart}
use Rattle.cfi_valid.specs.Course.{Course}
use Rattle.cfi_valid.specs.FromLaw.{HasPolicies}
use Rattle.cfi_valid.specs.Journal.{members_of}
use Rattle.cfi_valid.specs.Loaded.{Members, start_fills, Filled}
use Rattle.cfi_top.specs.Headline.{KeepPolicies, KeepsHeadline}
use Rattle.cfi_top.proofs.EdgeLemmas.{keeps_policy}

module _ (h : History) (code : List ℕ) (members : Members) (known : IsHistory h code)
    (policies : HasPolicies (length code) members h) where
  -- each unit keeps the policy that it asks
  keep_policies : (ends : List End) (old new : State) → IsReady h old → Runs h code ends old new
      → KeepPolicies h code members ends old new
  keep_policies [] old new ready runs = runs
  keep_policies (end ∷ ends) old new ready runs = (
    runs.0,
    keeps_policy h code members end old runs.0 known policies ready runs.1,
    keep_policies ends runs.0 new (step_ready h code known end old runs.0 ready runs.1) runs.2,
  )

  pub keeps_headline : (number entry : ℕ) (fills : List Fill) → IsStart h entry
      → (takes : List Take) → Along h code (raw_opened number entry fills) takes
      → KeepsHeadline h code members (raw_opened number entry fills) takes
  keeps_headline number entry fills starts takes along =
      let opening = opened_ready h number entry fills starts in
      let first = opened number entry fills in
      let start = raw_opened number entry fills in
      let shown = raw_shows h code known first opening.0 0 start opening.1 takes along in
      record {
        repeats = shown.0;
        state = shown.1;
        keeps = keep_policies _ first shown.1 opening.0 shown.2.runs;
        shows = shown.2.shows;
        confined = confined h code known first start opening.0 opening.1 takes along;
      }

-- a guest of which a part tells
pub run_keeps : (c : Course) (t : Tables) (h : History) (code : List ℕ) → IsHistoryOf c t h code → (number : ℕ)
    (part : GuestPart) → (ran : IsRunOf c t h code number part)
    → KeepsHeadline h code (members_of c.end) ran.run.start (takes_in ran.run.came)
run_keeps c t h code of number part ran =
    let run = ran.run in
    let opening = run.opened in
    let fills = start_fills Filled (members_of c.end) in
    let start = raw_opened number opening.address fills in
    let policies = subst (λ n. HasPolicies n (members_of c.end) h) (sym of.is_code.len) of.policies in
    let starts : IsStart h opening.address = subst (λ r. IsStart h r.base.pc) opening.is run.starts in
    let takes = takes_in run.came in
    let along : Along h code start takes = subst (λ r. Along h code r takes) opening.is run.along in
    subst (λ r. KeepsHeadline h code (members_of c.end) r takes) (sym opening.is)
    (keeps_headline h code (members_of c.end) of.known policies number opening.address fills starts takes along)

-- and the policies that its units ask
pub run_policies : (c : Course) (t : Tables) (h : History) (code : List ℕ) → IsHistoryOf c t h code → (number : ℕ)
    (part : GuestPart) → (ran : IsRunOf c t h code number part)
    → KeepPolicies h code (members_of c.end) (ends_along ran.run.start (takes_in ran.run.came)) ran.run.start.base ran.state
run_policies c t h code of number part ran =
    let run = ran.run in
    let opening = run.opened in
    let start = raw_opened number opening.address (start_fills Filled (members_of c.end)) in
    let policies = subst (λ n. HasPolicies n (members_of c.end) h) (sym of.is_code.len) of.policies in
    let starts : IsStart h opening.address = subst (λ r. IsStart h r.base.pc) opening.is run.starts in
    let ready : IsReady h run.start.base =
    subst (λ r. IsReady h r.base) (sym opening.is)
    (opened_ready h number opening.address (start_fills Filled (members_of c.end)) starts).0 in
    keep_policies h code (members_of c.end) of.known policies (ends_along run.start (takes_in run.came)) run.start.base
    ran.state ready
    ran.shown.runs

-- and in whose force
pub run_in_force : (c : Course) (t : Tables) (h : History) (code : List ℕ) → IsHistoryOf c t h code → (number : ℕ)
    (part : GuestPart) → (ran : IsRunOf c t h code number part) → HasRunInForce h code t ran.run.start ran.run.came
run_in_force c t h code of number part ran =
    let run = ran.run in
    let opening = run.opened in
    let starts : IsStart h opening.address = subst (λ r. IsStart h r.base.pc) opening.is run.starts in
    subst (λ r. HasRunInForce h code t r run.came) (sym opening.is)
    (in_force_run t of.tables h code of.known of.of_tables number opening.address (start_fills Filled (members_of c.end))
    starts run.came
    (subst (λ r. Along h code r (takes_in run.came)) opening.is run.along)
    (subst (λ r. AreAskedBy t.code_words r run.came) opening.is run.asked) run.timed)
