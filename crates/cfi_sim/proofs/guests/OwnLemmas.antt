-- What holds of a guest holds after an event of its own.
use Rattle.std.proofs.Common.{◌≡◌, ◌≢◌, ℕ, ◌+◌, ◌-◌, List, length, Option, Some, None, refl, sym, ◌∙◌, ap, subst, arith, inl, inr}
use Rattle.std.proofs.lemmas.Bool.{cases_eq}
use Rattle.cfi_valid.specs.Running.{HasReplayed, RunsUnit}
use Rattle.cfi_valid.proofs.RunningLemmas.{replay_goes_on}
use Rattle.cfi_sim.specs.declared.found.Found.{Found}
use Rattle.cfi_sim.specs.declared.found.Found.TheVariants.{Unknown as NoModuleFound, Functionless, Opened, Unloaded}
use Rattle.cfi_sim.specs.Events.{reply_by}
use Rattle.cfi_model.proofs.RunningLemmas.{running_shows}
use Rattle.cfi_sim.specs.Agrees.{TablesAgree}
use Rattle.cfi_sim.proofs.guests.SettledLemmas.{FitsGiven, is_settled}
use Rattle.cfi_model.specs.Raw.{Raw}
use Rattle.cfi_sim.proofs.guests.RunsLemmas.{HasRun}
use Rattle.cfi_valid.specs.Replay.{given_by}
use Rattle.cfi_valid.specs.Journal.{JournalState, members_of}
use Rattle.cfi_valid.specs.Loaded.{placed_modules, loaded_by, live_at, start_fills, fills_between, Left}
use Rattle.cfi_valid.proofs.LawLemmas.{step_unit}
use Rattle.cfi_model.proofs.InForceLemmas.{history_is, force_within, epoch_within}
use Rattle.cfi_model.specs.InForce.{in_force, history_of, code_in_force}
use Rattle.cfi_model.specs.State.{State, opened}
use Rattle.cfi_model.specs.World.{World}
use Rattle.cfi_model.specs.History.{History, IsHistory, allows_at}
use Rattle.cfi_model.specs.Service.{Reply}
use Rattle.cfi_unit.specs.declared.unit.Unit.{Unit as CodeUnit}
use Rattle.cfi_model.proofs.EndLemmas.{effect_units}
use Rattle.cfi_model.specs.Running.{IsGuest}
use Rattle.cfi_world.specs.Counts.{HasRepeated}
use Rattle.cfi_world.specs.Laws.{IsBrought, IsStepped}
use Rattle.cfi_aux.specs.declared.modules.Module.{Module}
use Rattle.cfi_model.proofs.ShownLemmas.{never_retried, shown_stop}
use Rattle.cfi_world.proofs.RestLemmas.{going_runs}
use Rattle.cfi_plan.specs.declared.plan.Plan.{Plan}
use Rattle.cfi_sim.specs.declared.aim.Aim.{Aim}
use Rattle.cfi_model.specs.Log.{pick_entries}
use Rattle.cfi_valid.specs.FromLaw.{HasPolicies, BringsDue}
use Rattle.cfi_modules.specs.Loaded.{AreLoaded, IsLoadedImage}
use Rattle.cfi_model.specs.Tables.{IsTables}
use Rattle.cfi_model.specs.Words.{Tables}
use Rattle.cfi_model.specs.Shows.{IsReady}

module _ (plan : Plan) (modules : List Module) (state : JournalState) (aim : Option Aim) (t : Tables)
    (is : IsTables t) (agrees : TablesAgree plan modules state aim t) where
  abbrev h : History
  h = history_of t

  abbrev code : List ℕ
  code = code_in_force t

  known : IsHistory h code
  known = history_is t is

  -- each epoch has the modules of its policy
  pub policies : HasPolicies (length code) (members_of state) h
  policies =
      let many = (is.closed (in_force t) (force_within t is)).1.classes.code_length in
      let size : plan.code_words ≡ length code = sym (many ∙ agrees.code_words) in
      record {
        modules = λ epoch seen.
            subst
            (λ (n : ℕ). AreLoaded n (placed_modules (loaded_by (h.policy epoch) state.loaded))) size
            (agrees.entries (epoch - t.first) (epoch_within t is epoch seen)).modules;
        images = λ epoch seen.
            subst
            (λ (n : ℕ). IsLoadedImage n (placed_modules (loaded_by (h.policy epoch) state.loaded))
            (placed_modules (live_at (h.policy epoch) (members_of state))) (h.image epoch)) size
            (agrees.entries (epoch - t.first) (epoch_within t is epoch seen)).image;
      }

  -- ---- one unit more

  module _ (mid : World) (number : ℕ) (r now : Raw) (run : HasRun plan modules state t number r)
      (going : r.base.stop ≡ None) (given : Option Reply) (fits : FitsGiven plan state mid run.shown given) (more : ℕ)
      (after : State) (p : IsStepped h code given run.retries run.shown r now more after) where
    abbrev s : State
    s = run.shown

    abbrev unit : CodeUnit
    unit = p.step.unit

    ready : IsReady h s
    ready = (going_runs h code run.retries s r run.runs going).rests.ready

    -- an answer that succeeds brings what is due
    due_by : (reply : Option Reply) → p.end.reply ≡ reply → BringsDue Left (members_of state) s reply
    due_by None came = tt
    due_by (Some reply) came = by_given given fits (p.brings reply came)
      where
        opens_due : (found : Found) → (reply_by state s found).cause ≡ 0
            → (reply_by state s found).fills
            ≡ fills_between Left (given_by s.log) (reply_by state s found).policy (members_of state)
        opens_due NoModuleFound free = absurd (omega (arith, free))
        opens_due Functionless free = absurd (omega (arith, free))
        opens_due (Opened address) free = refl
        opens_due Unloaded free = absurd (omega (arith, free))

        by_given : (g : Option Reply) → FitsGiven plan state mid s g → IsBrought g reply → reply.cause ≡ 0
            → reply.fills ≡ fills_between Left (given_by s.log) reply.policy (members_of state)
        by_given None none brought free = absurd (omega (arith, free, brought))
        by_given (Some answer) given_is brought free =
            let same : reply ≡ reply_by state s given_is.found = brought ∙ given_is.is in
            subst (λ (x : Reply). x.fills ≡ fills_between Left (given_by s.log) x.policy (members_of state)) (sym same)
            (opens_due given_is.found (sym (ap (λ (x : Reply). x.cause) same) ∙ free))

    runs_unit : RunsUnit Left code (members_of state) s after
    runs_unit =
        step_unit Left h code (members_of state) p.end s after known policies ready p.step (due_by p.end.reply refl)

    counts : after.units ≡ s.units + 1
    counts =
        ap (λ (x : State). x.units) p.step.is
        ∙ effect_units unit (h.policy p.step.epoch) (allows_at h p.step.epoch) p.step.reply s

    abbrev start : State
    start = opened number run.address (start_fills Left (members_of state))

    replayed : HasReplayed Left code (members_of state) after.units start after
    replayed =
        subst (λ (n : ℕ). HasReplayed Left code (members_of state) n start after) (sym counts)
        (replay_goes_on Left code (members_of state) s.units start s after run.replayed runs_unit)

    no_retry : pick_entries after.log ≡ 0 → more ≡ 0
    no_retry none = elim (cases_eq more run.retries) [
      | inl same ↦ same ∙ run.picked (omega (arith, p.picks, none))
      | inr apart ↦ (let some = p.logged apart in absurd (omega (arith, some, none)))
    ]

    none_repeated : length t.entries ≡ 1 → more ≢ run.retries → HasRepeated h code run.retries s r p.tries → ⊥
    none_repeated one apart (inl rests) = (let sum = p.retried in apart (omega (arith, sum, rests.1)))
    none_repeated one apart (inr tried) =
        never_retried h code known tried.inside.unit s (omega (arith, one, force_within t is))
        (tried.inside.retried (λ none. (let sum = p.retried in
        let same = tried.is in
        apart (omega (arith, sum, same, none)))))

    one_only : length t.entries ≡ 1 → more ≡ 0
    one_only one = elim (cases_eq more run.retries) [
      | inl same ↦ same ∙ run.single one
      | inr apart ↦ absurd (none_repeated one apart p.repeated)
    ]

    -- ---- the guest after it

    now_going : IsGuest h code more after now → now.base.stop ≡ None → after.stop ≡ None
    now_going runs stop =
        let running = going_runs h code more after now runs stop in
        sym (shown_stop h code more after now (running_shows h code known more after now running)) ∙ stop

    none_kept : (word : ℕ) → now.tary ≡ None → now.tary ≡ Some word → ⊥
    none_kept word none some = absurd (cc)

    pub stepped : IsGuest h code more after now → HasRun plan modules state t number now
    stepped runs =
        let end = is_settled plan modules state aim t is agrees mid number r now run going given fits more after p in
        record {
          entry = run.entry;
          named = run.named;
          address = run.address;
          begins = run.begins;
          retries = more;
          shown = after;
          runs = runs;
          replayed = replayed;
          picked = no_retry;
          single = one_only;
          settled = end.settled;
          later = end.later;
          logged = end.logged;
          kept = λ stop word kept. absurd (none_kept word (p.fresh (now_going runs stop)) kept);
        }
