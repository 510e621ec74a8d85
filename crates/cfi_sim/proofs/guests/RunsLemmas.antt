-- What holds of each guest at each stage: it has replayed its log, and what it has logged fits.
use Rattle.std.proofs.Common.{◌≡◌, ℕ, ◌≤◌, Bool, true, false, List, [], length, Some, None, sym, subst, arith}
use Rattle.std.specs.List.{AllByRecursion, slice_get}
use Rattle.cfi_aux.specs.declared.modules.Module.{Module}
use Rattle.cfi_plan.specs.declared.plan.Plan.{Plan}
use Rattle.cfi_unit.specs.declared.fill.Fill.{Fill}
use Rattle.cfi_word.specs.Word.{policy_in}
use Rattle.cfi_model.specs.InForce.{history_of, code_in_force, GoesOn}
use Rattle.cfi_model.specs.Log.{pick_entries}
use Rattle.cfi_model.specs.Raw.{Raw}
use Rattle.cfi_model.specs.Running.{IsGuest}
use Rattle.cfi_model.specs.State.{State, opened}
use Rattle.cfi_model.specs.Tables.{IsTables}
use Rattle.cfi_model.specs.Words.{Tables}
use Rattle.cfi_model.proofs.InForceLemmas.{keeps}
use Rattle.cfi_sim.specs.Valid.{IsSimLogged}
use Rattle.cfi_sim.proofs.guests.LaterLemmas.{IsLow, low_all, replay_stays}
use Rattle.cfi_valid.specs.Course.{Course}
use Rattle.cfi_valid.specs.Growth.{IsLater}
use Rattle.cfi_valid.specs.Guests.{EntersAt, GuestBegins}
use Rattle.cfi_valid.specs.Bare.{is_bare_plan}
use Rattle.cfi_valid.specs.Journal.{JournalState, members_of}
use Rattle.cfi_valid.specs.Loaded.{LoadedModule, placed_modules, loaded_by, start_fills, Left}
use Rattle.cfi_valid.specs.Replay.{Replays}
use Rattle.cfi_valid.specs.Running.{HasReplayed}
use Rattle.cfi_valid.proofs.GrowthLemmas.{later_later, loaded_stays, start_fills_stay}
use Rattle.cfi_modules.specs.Entry.{IsEntryIn}
use Rattle.cfi_world.proofs.LaterLemmas.{guest_later}

module _ (plan : Plan) (modules : List Module) where
  abbrev pub course_at : JournalState → Course
  course_at state = record { plan = plan; modules = modules; journal = []; end = state }

  -- the guest of the number has replayed what it has logged, which fits; tries were repeated only where picks were
  -- logged and there were two epochs; the Tary word that it keeps is of no policy before the last one that it has
  -- settled
  pub record HasRun (state : JournalState) (t : Tables) (number : ℕ) (r : Raw) : Type 0 where
    pub entry : List ℕ
    pub named : slice_get plan.guests number ≡ Some entry
    pub address : ℕ
    pub begins : GuestBegins plan state.loaded entry address
    pub retries : ℕ
    pub shown : State
    pub runs : IsGuest (history_of t) (code_in_force t) retries shown r
    pub replayed : HasReplayed Left (code_in_force t) (members_of state) shown.units
        (opened number address (start_fills Left (members_of state))) shown
    pub picked : pick_entries shown.log ≡ 0 → retries ≡ 0
    pub single : length t.entries ≡ 1 → retries ≡ 0
    pub settled : JournalState
    pub later : IsLater settled state
    pub logged : IsSimLogged (course_at settled) shown.log
    pub kept : r.base.stop ≡ None → (word : ℕ) → r.tary ≡ Some word → settled.policy ≤ policy_in word

  -- ---- while other events happen

  module _ (old new : JournalState) (after : IsLater old new) (t u : Tables) (is : IsTables t) (then : IsTables u)
      (on : GoesOn t u) where
    starts_same : loaded_by 0 new.loaded ≡ loaded_by 0 old.loaded
    starts_same = loaded_stays old new after 0 (omega arith)

    begins_by : (bare : Bool) (entry : List ℕ) (address : ℕ) → EntersAt bare old.loaded entry address
        → EntersAt bare new.loaded entry address
    begins_by true entry address begins = begins
    begins_by false entry address begins =
        subst (λ (ls : List LoadedModule). IsEntryIn (placed_modules ls) entry address) (sym starts_same) begins

    pub runs_on : (number : ℕ) (r : Raw) → HasRun old t number r → HasRun new u number r
    runs_on number r run =
        let low : AllByRecursion (IsLow old.policy) run.shown.log =
        low_all old.policy 0 run.shown.log run.logged.rises (omega (arith, run.logged.most, run.later.policy)) in
        record {
          entry = run.entry;
          named = run.named;
          address = run.address;
          begins = begins_by (is_bare_plan plan) run.entry run.address run.begins;
          retries = run.retries;
          shown = run.shown;
          runs = guest_later t u is then on run.retries run.shown r run.runs;
          replayed = subst
              (λ (fs : List Fill). Replays Left (code_in_force u) (members_of new) run.shown.log run.shown.units
              (opened number run.address fs) run.shown) (sym (start_fills_stay old new after Left))
              (replay_stays old new after (code_in_force t) (code_in_force u) (keeps t u is then on) run.shown.log low
              run.shown.units (opened number run.address (start_fills Left (members_of old))) run.shown run.replayed);
          picked = run.picked;
          single = λ one. run.single (omega (arith, one, on.longer, is.some));
          settled = run.settled;
          later = later_later run.settled old new run.later after;
          logged = run.logged;
          kept = run.kept;
        }
