-- The answer to an open keeps what holds of each guest.
use Rattle.std.proofs.Common.{◌≡◌, ℕ, cond, Bool, true, false, List, slice_get, Option, Some, None, refl, sym, ◌∙◌, ap, subst, inl, inr}
use Rattle.std.proofs.lemmas.Bool.{cases_eq}
use Rattle.std.specs.List.{All}
use Rattle.cfi_word.specs.declared.services.TheConstants.{OPEN}
use Rattle.cfi_sim.specs.Stage.{Stage}
use Rattle.cfi_sim.proofs.guests.RunsLemmas.{HasRun}
use Rattle.cfi_sim.specs.Agrees.{TablesAgree}
use Rattle.cfi_sim.proofs.guests.OwnLemmas.{stepped}
use Rattle.cfi_model.proofs.RunningLemmas.{running_shows}
use Rattle.cfi_model.specs.Raw.{Raw}
use Rattle.cfi_model.specs.Words.{Tables}
use Rattle.cfi_model.proofs.ShownLemmas.{shown_log}
use Rattle.cfi_world.proofs.RestLemmas.{going_runs}
use Rattle.cfi_model.specs.Run.{serve_as, serve_of}
use Rattle.cfi_sim.specs.declared.found.Found.{Found}
use Rattle.cfi_sim.specs.Events.{IsFound, reply_by}
use Rattle.cfi_sim.proofs.guests.TurnLemmas.{some_same, none_some, waits_on, reply_same, shown_argument, AllRun}
use Rattle.cfi_model.specs.Service.{Reply, argument}
use Rattle.cfi_world.proofs.OthersLemmas.{others_stay, only_updates}
use Rattle.cfi_model.specs.declared.act.Wait.TheVariants as waits
use Rattle.cfi_aux.specs.declared.modules.Module.{Module}
use Rattle.cfi_sim.proofs.guests.SettledLemmas.{IsGivenAt}
use Rattle.cfi_model.specs.declared.act.Wait.{Wait}
use Rattle.cfi_model.specs.State.{State}
use Rattle.cfi_model.specs.InForce.{history_of, code_in_force}
use Rattle.cfi_plan.specs.declared.plan.Plan.{Plan}
use Rattle.cfi_model.specs.World.{World, point_of}
use Rattle.cfi_sim.proofs.journal.HappensLemmas.{answer_event, reply_may}
use Rattle.cfi_world.specs.Laws.{IsRefined, IsStepped}
use Rattle.cfi_world.proofs.ChoiceLemmas.{asks_it}
use Rattle.cfi_model.proofs.InForceLemmas.{history_is}
use Rattle.cfi_world.specs.Worlds.{IsWorld, FitsPoint}
use Rattle.cfi_model.specs.Running.{IsGuest}
use Rattle.cfi_world.specs.Seats.{is_asking}
use Rattle.cfi_model.specs.declared.quiet.Point.TheVariants.{Asking}
use Rattle.cfi_world.proofs.RefineLemmas.{refines}
use Rattle.cfi_world.specs.Turns.{did, nothing, answered, answer_turn, turn_of}
use Rattle.cfi_aux.specs.Sound.{IsSoundModule}
use Rattle.cfi_valid.specs.Journal.{JournalState}
use Rattle.cfi_sim.specs.Stands.{Holds}
use Rattle.cfi_sim.proofs.journal.SeatsLemmas.{set_one}

module _ (plan : Plan) (modules : List Module) (sound : All IsSoundModule modules) (opening : JournalState) where
  module _ (old : Stage) (holds : Holds plan modules opening old)
      (runs : AllRun plan modules sound opening old.state old.world) where
    abbrev w : World
    w = old.world

    abbrev t : Tables
    t = w.tables

    is : IsWorld w
    is = holds.agrees.world

    agrees : TablesAgree plan modules old.state old.aim t
    agrees = holds.agrees.tables

    -- ---- an answer

    module _ (mid : World) (mid_is : IsWorld mid) (tables : mid.tables ≡ t)
        (all : AllRun plan modules sound opening old.state mid) (guest : ℕ) (number : ℕ) (r : Raw)
        (here : slice_get mid.guests guest ≡ Some r) (asks : number ≡ argument r.base)
        (found : Found) (is_found : IsFound plan mid old.state.loaded number found) where
      abbrev reply : Reply
      reply = reply_by old.state r.base found

      run : HasRun plan modules old.state mid.tables guest r
      run = all guest r here

      agrees_mid : TablesAgree plan modules old.state old.aim mid.tables
      agrees_mid = subst (TablesAgree plan modules old.state old.aim) (sym tables) agrees

      refined : IsRefined mid (turn_of mid (answer_event plan modules sound opening old holds guest reply)).world
          (Some reply) guest r run.retries run.shown
      refined =
          refines mid mid_is guest r here run.retries run.shown run.runs
          (answer_event plan modules sound opening old holds guest reply)
          (reply_may plan modules sound opening old holds mid tables r found)

      abbrev next : World
      next = (turn_of mid (answer_event plan modules sound opening old holds guest reply)).world

      next_tables : next.tables ≡ mid.tables
      next_tables = only_updates mid (answer_event plan modules sound opening old holds guest reply) (λ none. none)

      waiting : point_of mid guest ≡ Asking → r.waits ≡ Some (waits.Service OPEN)
      waiting at = (subst (FitsPoint mid.tables r) at (mid_is.seats guest r here).point).0

      going : point_of mid guest ≡ Asking → r.base.stop ≡ None
      going at =
          waits_on r.base.stop r.waits (waits.Service OPEN) (mid_is.seats guest r here).stopped (waiting at)

      is_given : point_of mid guest ≡ Asking → IsGivenAt plan old.state mid run.shown reply
      is_given at =
          let running = going_runs (history_of mid.tables) (code_in_force mid.tables) run.retries run.shown r run.runs
          (going at) in
          let shows = running_shows (history_of mid.tables) (code_in_force mid.tables)
          (history_is mid.tables mid_is.tables) run.retries run.shown r running in
          record {
            number = number;
            asks = asks
                ∙ shown_argument (history_of mid.tables) (code_in_force mid.tables) run.retries run.shown r shows;
            found = found;
            is_found = is_found;
            is = reply_same old.state r.base run.shown found
                (shown_log (history_of mid.tables) (code_in_force mid.tables) run.retries run.shown r shows);
          }

      kept_none : (word : ℕ) → point_of mid guest ≡ Asking → (serve_of r reply).tary ≡ Some word → ⊥
      kept_none word at kept =
          none_some word (sym (ap (λ (x : Option Wait). (serve_as x r reply).tary) (waiting at)) ∙ kept)

      own_answer : (now : Raw) → slice_get next.guests guest ≡ Some now → point_of mid guest ≡ Asking
          → now ≡ serve_of r reply → HasRun plan modules old.state mid.tables guest now
      own_answer now there at now_is =
          let same : refined.now ≡ now = some_same refined.now now (sym refined.there ∙ there) in
          let shows : IsGuest (history_of mid.tables) (code_in_force mid.tables) refined.more refined.after now =
          subst (λ (x : Raw). IsGuest (history_of mid.tables) (code_in_force mid.tables) refined.more refined.after x)
          same
          (subst (λ (v : Tables). IsGuest (history_of v) (code_in_force v) refined.more refined.after refined.now)
          next_tables refined.runs) in
          elim refined.moves [
            | inl stays ↦ record {
              entry = run.entry;
              named = run.named;
              address = run.address;
              begins = run.begins;
              retries = run.retries;
              shown = run.shown;
              runs = subst
                  (λ (n : ℕ). IsGuest (history_of mid.tables) (code_in_force mid.tables) n run.shown now) stays.0
                  (subst
                  (λ (x : State). IsGuest (history_of mid.tables) (code_in_force mid.tables) refined.more x now) stays.1
                  shows);
              replayed = run.replayed;
              picked = run.picked;
              single = run.single;
              settled = run.settled;
              later = run.later;
              logged = run.logged;
              kept = λ stop word kept.
                  absurd (kept_none word at (ap (λ (x : Raw). x.tary) (sym now_is) ∙ kept));
            }
            | inr moved ↦
                stepped plan modules old.state old.aim mid.tables mid_is.tables agrees_mid mid guest r now run
                (going at) (Some reply) (is_given at) refined.more refined.after
                (subst
                (λ (x : Raw). IsStepped (history_of mid.tables) (code_in_force mid.tables) (Some reply) run.retries
                run.shown r x refined.more refined.after) same moved) shows
          ]

      answered_by : (asking : Bool) → is_asking (point_of mid guest) ≡ asking
          → next ≡ (cond asking (did (answered mid guest reply r)) (nothing mid)).world → (now : Raw)
          → slice_get next.guests guest ≡ Some now → HasRun plan modules old.state mid.tables guest now
      answered_by true e whole now there =
          let at = asks_it (point_of mid guest) e in
          let one = set_one mid.guests guest r (serve_of r reply) here in
          own_answer now there at
          (some_same now (serve_of r reply)
          (sym there ∙ ap (λ (v : World). slice_get v.guests guest) whole ∙ one))
      answered_by false e whole now there =
          all guest now (sym (ap (λ (v : World). slice_get v.guests guest) whole) ∙ there)

      next_is : next ≡ (answer_turn mid guest reply (Some r)).world
      next_is = ap (λ (o : Option Raw). (answer_turn mid guest reply o).world) here

      -- after the answer each has run
      pub answer_runs : AllRun plan modules sound opening old.state (answer_turn mid guest reply (Some r)).world
      answer_runs other x there =
          let there' : slice_get next.guests other ≡ Some x =
          ap (λ (v : World). slice_get v.guests other) next_is ∙ there in
          subst (λ (u : Tables). HasRun plan modules old.state u other x)
          (sym next_tables ∙ ap (λ (v : World). v.tables) next_is) (elim (cases_eq other guest) [
            | inl same ↦
                subst (λ (n : ℕ). HasRun plan modules old.state mid.tables n x) (sym same)
                (answered_by (is_asking (point_of mid guest)) refl next_is x
                (subst (λ (n : ℕ). slice_get next.guests n ≡ Some x) same there'))
            | inr apart ↦
                all other x
                (sym (others_stay mid (answer_event plan modules sound opening old holds guest reply) other
                (λ e. apart (sym e))) ∙ there')
          ])
