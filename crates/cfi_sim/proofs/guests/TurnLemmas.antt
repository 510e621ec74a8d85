-- A turn of a guest keeps what holds of each guest.
use Rattle.std.proofs.Common.{◌≡◌, ◌≢◌, ℕ, ◌≤◌, ◌||◌, cond, Bool, true, false, List, slice_get, is_some, Option, Some, None, refl, sym, ◌∙◌, ap, subst, arith, inl, inr}
use Rattle.std.proofs.lemmas.Bool.{cases_eq}
use Rattle.std.specs.List.{All}
use Rattle.cfi_world.specs.declared.event.Turned.TheVariants.{Did, Asks}
use Rattle.cfi_world.specs.declared.event.Event.TheVariants as events
use Rattle.cfi_sim.specs.Stage.{Stage}
use Rattle.cfi_sim.proofs.guests.RunsLemmas.{HasRun}
use Rattle.cfi_valid.specs.Loaded.{fills_between, Left}
use Rattle.cfi_sim.specs.Agrees.{TablesAgree}
use Rattle.cfi_unit.specs.declared.log.Stop.{Stop}
use Rattle.cfi_sim.proofs.guests.OwnLemmas.{stepped}
use Rattle.cfi_valid.specs.Replay.{given_by}
use Rattle.cfi_model.specs.Raw.{Raw}
use Rattle.cfi_model.specs.Words.{Tables, policy_in_force}
use Rattle.cfi_valid.specs.Growth.{IsLater}
use Rattle.cfi_sim.specs.declared.found.Found.{Found}
use Rattle.cfi_sim.specs.Events.{found_reply, reply_by}
use Rattle.cfi_word.specs.Word.{policy_in}
use Rattle.cfi_unit.specs.declared.log.Log.{Log}
use Rattle.cfi_model.specs.Service.{argument}
use Rattle.cfi_world.proofs.OthersLemmas.{others_stay, only_updates}
use Rattle.cfi_aux.specs.declared.modules.Module.{Module}
use Rattle.cfi_model.specs.declared.act.Wait.{Wait}
use Rattle.cfi_model.specs.Shows.{Shows}
use Rattle.cfi_model.specs.State.{State}
use Rattle.cfi_model.specs.InForce.{history_of, code_in_force}
use Rattle.cfi_plan.specs.declared.plan.Plan.{Plan}
use Rattle.cfi_model.specs.World.{World, point_of}
use Rattle.cfi_sim.proofs.guests.TaryLemmas.{kept_after}
use Rattle.cfi_sim.proofs.journal.HappensLemmas.{policy_is}
use Rattle.cfi_model.specs.History.{History}
use Rattle.cfi_world.specs.Laws.{IsRefined, IsStepped}
use Rattle.cfi_world.proofs.ChoiceLemmas.{neither, not_some}
use Rattle.cfi_world.specs.Worlds.{IsWorld}
use Rattle.cfi_model.specs.Running.{IsGuest}
use Rattle.cfi_world.specs.Seats.{Seat, seat_of, seat_after, is_asking}
use Rattle.cfi_world.proofs.RefineLemmas.{refines}
use Rattle.cfi_world.specs.Turns.{nothing, seated, guest_turn, turn_of}
use Rattle.cfi_aux.specs.Sound.{IsSoundModule}
use Rattle.cfi_valid.specs.Journal.{JournalState, members_of}
use Rattle.cfi_sim.specs.Stands.{Holds}
use Rattle.cfi_sim.proofs.journal.SeatsLemmas.{set_one}

-- ---- what is shown

pub some_same : (a b : Raw) → Some a ≡ Some b → a ≡ b
some_same a b e = cc

pub shown_argument : (h : History) (code : List ℕ) (retries : ℕ) (s : State) (r : Raw) → Shows h code retries s r
    → argument r.base ≡ argument s
shown_argument h code retries s r (inl between) = ap (λ (b : State). argument b) between.base
shown_argument h code retries s r (inr inside) = ap (λ (b : State). argument b) inside.base

-- an answer looks at the log alone
pub reply_same : (state : JournalState) (a b : State) (found : Found) → a.log ≡ b.log
    → reply_by state a found ≡ reply_by state b found
reply_same state a b found same =
    ap
    (λ (log : List Log). found_reply found state.policy (fills_between Left (given_by log) state.policy (members_of state)))
    same

-- a guest that waits has not stopped
pub waits_on : (stop : Option Stop) (wait : Option Wait) (w : Wait) → (stop ≢ None → wait ≡ None) → wait ≡ Some w
    → stop ≡ None
waits_on None wait w stopped is = refl
waits_on (Some stop) wait w stopped is =
    let none : wait ≡ None = stopped (λ e. absurd (cc)) in
    absurd (cc)

pub none_some : (word : ℕ) → None ≡ Some word → ⊥
none_some word e = absurd (cc)

pub asks_number : (asking : Bool) (guest other number asked : ℕ)
    → cond asking (Asks guest asked) Did ≡ Asks other number → number ≡ asked
asks_number true guest other number asked e = cc
asks_number false guest other number asked e = absurd (cc)

module _ (plan : Plan) (modules : List Module) (sound : All IsSoundModule modules) (opening : JournalState) where
  -- each guest has run
  abbrev pub AllRun : JournalState → World → Type 0
  AllRun state w = (number : ℕ) (r : Raw) → slice_get w.guests number ≡ Some r
      → HasRun plan modules state w.tables number r

  module _ (old : Stage) (holds : Holds plan modules opening old) (runs : AllRun old.state old.world) where
    abbrev w : World
    w = old.world

    abbrev t : Tables
    t = w.tables

    is : IsWorld w
    is = holds.agrees.world

    agrees : TablesAgree plan modules old.state old.aim t
    agrees = holds.agrees.tables

    -- ---- a turn of a guest

    low_kept : (settled : JournalState) (word : ℕ) → IsLater settled old.state → policy_in_force t ≤ policy_in word
        → settled.policy ≤ policy_in word
    low_kept settled word later least =
        let force = policy_is plan modules sound opening old holds in
        omega (arith, later.policy, force, least)

    -- the guest's own
    turned_own : (guest : ℕ) (r : Raw) (here : slice_get w.guests guest ≡ Some r) → r.base.stop ≡ None → (now : Raw)
        → now ≡ (seat_after t w.fuel (seat_of w guest r)).guest
        → (u : World) → slice_get u.guests guest ≡ Some now → u.tables ≡ t
        → (run : HasRun plan modules old.state t guest r)
        → IsRefined w u None guest r run.retries run.shown → HasRun plan modules old.state t guest now
    turned_own guest r here going now now_is u there tables run refined =
        let same : refined.now ≡ now = some_same refined.now now (sym refined.there ∙ there) in
        let shows : IsGuest (history_of t) (code_in_force t) refined.more refined.after now =
        subst (λ (x : Raw). IsGuest (history_of t) (code_in_force t) refined.more refined.after x) same
        (subst (λ (v : Tables). IsGuest (history_of v) (code_in_force v) refined.more refined.after refined.now) tables
        refined.runs) in
        elim refined.moves [
          | inl stays ↦ record {
            entry = run.entry;
            named = run.named;
            address = run.address;
            begins = run.begins;
            retries = run.retries;
            shown = run.shown;
            runs = subst (λ (n : ℕ). IsGuest (history_of t) (code_in_force t) n run.shown now) stays.0
                (subst (λ (x : State). IsGuest (history_of t) (code_in_force t) refined.more x now) stays.1 shows);
            replayed = run.replayed;
            picked = run.picked;
            single = run.single;
            settled = run.settled;
            later = run.later;
            logged = run.logged;
            kept = λ stop word kept.
                elim (kept_after t is.tables w.fuel (seat_of w guest r) word
                (ap (λ (x : Raw). x.tary) (sym now_is) ∙ kept)) [
                  | inl was ↦ run.kept going word was
                  | inr least ↦ low_kept run.settled word run.later least
                ];
          }
          | inr moved ↦
              stepped plan modules old.state old.aim t is.tables agrees w guest r now run going None tt refined.more
              refined.after
              (subst
              (λ (x : Raw). IsStepped (history_of t) (code_in_force t) None run.retries run.shown r x refined.more
              refined.after) same moved) shows
        ]

    turned_by_still : (guest : ℕ) (r : Raw) → slice_get w.guests guest ≡ Some r → (still : Bool)
        → is_some r.base.stop || is_asking (point_of w guest) ≡ still → (now : Raw)
        → slice_get
        (cond still (nothing w) (seated w guest (seat_after t w.fuel (seat_of w guest r)))).world.guests guest
        ≡ Some now
        → (turn_of w (events.Guest guest)).world
        ≡ (cond still (nothing w) (seated w guest (seat_after t w.fuel (seat_of w guest r)))).world
        → HasRun plan modules old.state t guest now
    turned_by_still guest r here true e now there whole =
        subst (HasRun plan modules old.state t guest) (some_same r now (sym here ∙ there)) (runs guest r here)
    turned_by_still guest r here false e now there whole =
        let seat : Seat = seat_after t w.fuel (seat_of w guest r) in
        let going = not_some r.base.stop (neither (is_some r.base.stop) (is_asking (point_of w guest)) e).0 in
        let now_is : now ≡ seat.guest =
        some_same now seat.guest (sym there ∙ set_one w.guests guest r seat.guest here) in
        let run = runs guest r here in
        let refined = refines w is guest r here run.retries run.shown run.runs (events.Guest guest) tt in
        turned_own guest r here going now now_is (turn_of w (events.Guest guest)).world
        (ap (λ (v : World). slice_get v.guests guest) whole ∙ there)
        (only_updates w (events.Guest guest) (λ none. none)) run refined

    turned_there : (guest : ℕ) (o : Option Raw) → slice_get w.guests guest ≡ o → (now : Raw)
        → slice_get (turn_of w (events.Guest guest)).world.guests guest ≡ Some now
        → HasRun plan modules old.state t guest now
    turned_there guest None here now there =
        runs guest now (sym (ap (λ (o : Option Raw). slice_get (guest_turn w guest o).world.guests guest) here) ∙ there)
    turned_there guest (Some r) here now there =
        let whole : (turn_of w (events.Guest guest)).world ≡ (guest_turn w guest (Some r)).world =
        ap (λ (o : Option Raw). (guest_turn w guest o).world) here in
        turned_by_still guest r here (is_some r.base.stop || is_asking (point_of w guest)) refl now
        (sym (ap (λ (v : World). slice_get v.guests guest) whole) ∙ there) whole

    -- after a turn of a guest each has run
    pub turn_runs : (guest : ℕ) → AllRun old.state (turn_of w (events.Guest guest)).world
    turn_runs guest number r there =
        let tables = only_updates w (events.Guest guest) (λ none. none) in
        subst (λ (u : Tables). HasRun plan modules old.state u number r) (sym tables) (elim (cases_eq number guest) [
          | inl same ↦
              subst (λ (n : ℕ). HasRun plan modules old.state t n r) (sym same)
              (turned_there guest (slice_get w.guests guest) refl r
              (subst (λ (n : ℕ). slice_get (turn_of w (events.Guest guest)).world.guests n ≡ Some r) same there))
          | inr apart ↦
              runs number r (sym (others_stay w (events.Guest guest) number (λ e. apart (sym e))) ∙ there)
        ])
