-- What is told of the end of a schedule is a valid simulation.
use Rattle.std.proofs.Common.{◌≡◌, ◌≢◌, ℕ, ◌+◌, List, [], slice_get, Some, refl, sym, ◌∙◌, ap, subst, arith, inl, inr}
use Rattle.std.specs.List.{All}
use Rattle.cfi_aux.specs.declared.modules.Module.{Module}
use Rattle.cfi_aux.specs.Sound.{IsSoundModule}
use Rattle.cfi_model.specs.History.{IsHistory}
use Rattle.cfi_model.specs.InForce.{in_force, history_of, code_in_force}
use Rattle.cfi_model.specs.Raw.{Raw}
use Rattle.cfi_model.specs.Running.{IsRunning, IsGuest}
use Rattle.cfi_model.specs.State.{State, opened}
use Rattle.cfi_model.specs.Tables.{IsTables}
use Rattle.cfi_model.specs.Words.{Tables, entry_at}
use Rattle.cfi_model.proofs.InForceLemmas.{history_is, force_within}
use Rattle.cfi_model.proofs.RunningLemmas.{running_shows}
use Rattle.cfi_guest_part.specs.Part.{IsEndOf, IsWithin, part_of}
use Rattle.cfi_guest_part.proofs.EndLemmas.{IsShownAs, shown_as, steps_of}
use Rattle.cfi_guest_part.proofs.StepsLemmas.{replay_unspent}
use Rattle.cfi_plan.specs.declared.journal.Entry.{Entry}
use Rattle.cfi_plan.specs.declared.plan.Plan.{Plan}
use Rattle.cfi_policy.specs.Code.{IsCodeOf}
use Rattle.cfi_report.specs.declared.report.GuestPart.{GuestPart}
use Rattle.cfi_sim.specs.Agrees.{WorldAgrees}
use Rattle.cfi_sim.specs.Events.{IsIdle}
use Rattle.cfi_sim.specs.Reach.{Happening, Happens}
use Rattle.cfi_sim.specs.Stage.{Stage}
use Rattle.cfi_sim.specs.Stands.{Holds}
use Rattle.cfi_sim.specs.Told.{SchedulesAreValid}
use Rattle.cfi_sim.specs.Valid.{IsSimulated, IsSimLogged}
use Rattle.cfi_sim.proofs.guests.CausesLemmas.{log_stays}
use Rattle.cfi_sim.proofs.guests.GuestsLemmas.{runs_after}
use Rattle.cfi_sim.proofs.guests.TurnLemmas.{AllRun}
use Rattle.cfi_sim.proofs.journal.HappensLemmas.{HasRoomFor, holds_after}
use Rattle.cfi_sim.proofs.LinesLemmas.{lines_keep}
use Rattle.cfi_sim.proofs.guests.OpenedLemmas.{start_runs}
use Rattle.cfi_sim.proofs.guests.RunsLemmas.{HasRun}
use Rattle.cfi_sim.proofs.journal.StartLemmas.{start_holds}
use Rattle.cfi_sim.proofs.journal.ComingLemmas.{all_loaded}
use Rattle.cfi_text.specs.Lines.{numbered_lines}
use Rattle.cfi_unit.specs.declared.log.Log.{Log}
use Rattle.cfi_unit.specs.declared.log.Stop.TheVariants as stops
use Rattle.cfi_valid.specs.Course.{Course}
use Rattle.cfi_valid.specs.Journal.{JournalState, EntriesLead, members_of}
use Rattle.cfi_valid.specs.Loaded.{LoadedModule, placed_modules, loaded_by, start_fills, Left}
use Rattle.cfi_valid.specs.Parts.{ComesTo}
use Rattle.cfi_valid.specs.Replay.{Replays}
use Rattle.cfi_valid.specs.Steps.{HasSteps}
use Rattle.cfi_valid.specs.Valid.{course_of}
use Rattle.cfi_world.specs.Updates.{is_idle}
use Rattle.cfi_world.proofs.StoringLemmas.{idle_is, force_newest}

-- ---- each stage

-- what each stage keeps
pub record Keeps (plan : Plan) (modules : List Module) (sound : All IsSoundModule modules) (opening : JournalState)
    (s : Stage) : Type 0 where
  pub holds : Holds plan modules opening s
  pub runs : AllRun plan modules sound opening s.state s.world

keeps_after : (plan : Plan) (modules : List Module) (sound : All IsSoundModule modules) (opening : JournalState)
    (old : Stage) → Keeps plan modules sound opening old → (happening : Happening) (new : Stage)
    → Happens plan modules old new happening → HasRoomFor happening new → Keeps plan modules sound opening new
keeps_after plan modules sound opening old kept happening new event room =
    let holds = holds_after plan modules sound opening old kept.holds happening new event room in
    record {
      holds = holds;
      runs = runs_after plan modules sound opening old kept.holds kept.runs happening new event
          holds.agrees.world.tables;
    }

-- ---- the part of a guest

module _ (plan : Plan) (modules : List Module) (journal : List Entry) (end : Stage)
    (agrees : WorldAgrees plan modules end) (number : ℕ) (r : Raw) (here : slice_get end.world.guests number ≡ Some r)
    (run : HasRun plan modules end.state end.world.tables number r) where
  abbrev t : Tables
  t = end.world.tables

  abbrev code : List ℕ
  code = code_in_force t

  is : IsTables t
  is = agrees.world.tables

  pub known : IsHistory (history_of t) code
  known = history_is t is

  abbrev s : State
  s = run.shown

  abbrev c : Course
  c = record { plan = plan; modules = modules; journal = journal; end = end.state }

  abbrev part : GuestPart
  part = part_of number run.entry r

  is_code : IsCodeOf (placed_modules end.state.loaded) plan.code_words code
  is_code =
      let all : loaded_by (entry_at t (in_force t)).policy end.state.loaded ≡ end.state.loaded =
      ap (λ (p : ℕ). loaded_by p end.state.loaded) (sym agrees.tables.policy)
      ∙ all_loaded end.state.policy end.state.loaded agrees.tables.low in
      subst (λ (ls : List LoadedModule). IsCodeOf (placed_modules ls) plan.code_words code) all
      (agrees.tables.entries (in_force t) (omega arith)).image.1.code

  -- one epoch alone
  one_entry : end.state.epoch ≡ plan.first → IsIdle end.world → (history_of t).count + (history_of t).ahead ≡ 1
  one_entry first idle =
      let rests = idle_is t (ap is_idle idle) in
      omega (arith, agrees.tables.epoch, first, force_newest t rests.stored, is.some)

  pub single : (history_of t).count + (history_of t).ahead ≡ 1 → run.retries ≡ 0
  single one = run.single (omega (arith, one, force_within t is))

  unspent : s.stop ≢ Some stops.Fuel
  unspent =
      replay_unspent Left code (members_of end.state) s.log s.units
      (opened number run.address (start_fills Left (members_of end.state))) s run.replayed refl

  -- where it runs, or where the fuel has stopped it
  pub record HasEnd : Type 0 where
    pub last : Raw
    pub runs : IsRunning (history_of t) code run.retries s last
    pub ends : IsEndOf last r

  ends_by : IsGuest (history_of t) code run.retries s r → HasEnd
  ends_by (inl runs) = record { last = r; runs = runs; ends = inl refl }
  ends_by (inr over) = record { last = over.0; runs = over.1; ends = inr over.2 }

  ended : HasEnd
  ended = ends_by run.runs

  shown : IsShownAs (history_of t) code known run.retries s ended.runs.rests.ready run.picked single unspent r
  shown =
      shown_as (history_of t) code known run.retries s ended.runs.rests.ready run.picked single unspent ended.last r
      (running_shows (history_of t) code known run.retries s ended.last ended.runs) ended.ends

  within : IsWithin plan.fuel r
  within = record {
    most = omega (arith, (agrees.world.seats number r here).steps_most, agrees.guests.fuel);
    spent = λ stop. (agrees.world.running number r here).spent stop ∙ agrees.guests.fuel;
  }

  abbrev has_steps : HasSteps plan.fuel code s part
  has_steps =
      steps_of (history_of t) code known run.retries s ended.runs.rests.ready run.picked single unspent plan.fuel number
      run.entry r shown within

  abbrev comes : ComesTo Left c part s
  comes = record {
    address = run.address;
    begins = run.begins;
    code = code;
    is_code = is_code;
    replay = subst
        (λ (log : List Log). Replays Left code (members_of end.state) log r.base.units
        (opened number run.address (start_fills Left (members_of end.state))) s) (sym shown.log)
        (subst
        (λ (n : ℕ). Replays Left code (members_of end.state) s.log n
        (opened number run.address (start_fills Left (members_of end.state))) s) (sym shown.units) run.replayed);
  }

  pub simulated : IsSimulated c end.world number part
  simulated = record {
    r = r;
    there = here;
    entry = run.named;
    told = refl;
    logged = subst (IsSimLogged c) (sym shown.log)
        (log_stays plan modules [] journal run.settled end.state run.later s.log run.logged);
    replay = record { last = s; comes = comes; output = sym shown.out; log = sym shown.log; stop = shown.stop };
    steps = record { last = s; comes = comes; counts = has_steps };
    single = λ first idle. shown.steps.single_only (one_entry first idle);
  }

-- ---- the whole

entry_same : (a b : List ℕ) → Some a ≡ Some b → a ≡ b
entry_same a b e = cc

pub valid : SchedulesAreValid
valid = λ plan modules schedule start end sim is sound starts makes told.
    let kept = lines_keep plan modules (Keeps plan modules sound start.state)
    (λ old keeps happening new event room.
    keeps_after plan modules sound start.state old keeps happening new event room)
    (numbered_lines schedule) start end makes
    (record {
      holds = start_holds plan modules is sound start starts;
      runs = start_runs plan modules is sound start starts;
    }) in
    record {
      start = start;
      starts = starts;
      end = end;
      makes = makes;
      phase = told.phase;
      journal = told.journal;
      course = record {
        opening = start.state;
        opens = starts.opens;
        leads = subst (λ (js : List Entry). EntriesLead plan modules start.state js end.state) (sym told.journal)
            kept.holds.stands.leads;
      };
      epoch = told.epoch;
      policy = told.policy;
      lines = told.lines;
      count = told.count;
      guests = λ number part is_part.
          let of = told.guests number part is_part in
          let run = kept.runs number of.r of.there in
          let entry = entry_same run.entry part.entry (sym run.named ∙ of.entry) in
          subst (IsSimulated (course_of plan modules sim.report end.state) end.world number) (sym of.told)
          (subst
          (λ (e : List ℕ). IsSimulated (course_of plan modules sim.report end.state) end.world number
          (part_of number e of.r)) entry
          (simulated plan modules sim.report.journal end kept.holds.agrees number of.r of.there run));
    }
