-- The beginning of an update leaves the world in agreement with the journal.
use Rattle.std.proofs.Math.Seq.{take-length}
use Rattle.std.proofs.lemmas.Bool.{eqb-false}
use Rattle.std.proofs.lemmas.List.{take-append-le}
use Rattle.std.proofs.lemmas.List.Elements.{All-nil, All-cons, All-head, All-tail}
use Rattle.std.specs.Prelude.{filter}
use Rattle.std.proofs.lemmas.Option.{slice_get_within, get_or_from_slice_get}
use Rattle.std.proofs.Common.{◌≡◌, ◌≢◌, ℕ, ◌+◌, ◌≤◌, ◌==◌, ◌++◌, cond, Bool, true, false, List, [], ◌∷◌, length, take, Option, Some, None, refl, sym, ◌∙◌, ap, subst, arith}
use Rattle.std.specs.List.{All}
use Rattle.cfi_policy.specs.Code.{IsCodeOf}
use Rattle.cfi_modules.proofs.OrderLemmas.{series_more}
use Rattle.cfi_world.specs.declared.event.Event.TheVariants as events
use Rattle.cfi_world.specs.declared.event.Turned.TheVariants.{EpochsSpent}
use Rattle.cfi_modules.specs.Series.{IsSeries}
use Rattle.cfi_model.specs.Words.{Tables, entry_at, newest, epoch_in_force}
use Rattle.cfi_modules.proofs.ImageLemmas.{closed}
use Rattle.cfi_sim.specs.Events.{Begins}
use Rattle.cfi_world.specs.Updates.{is_idle, begun, asked_entry}
use Rattle.cfi_sim.specs.declared.aim.Aim.{Aim}
use Rattle.cfi_sim.specs.declared.aim.Aim.TheVariants.{Loading, Refreshing}
use Rattle.cfi_sim.specs.Stage.{Stage, after_event}
use Rattle.cfi_model.specs.InForce.{in_force}
use Rattle.cfi_model.specs.Data.{LiesInData}
use Rattle.cfi_sim.specs.Stands.{Holds}
use Rattle.cfi_modules.proofs.GrowthLemmas.{code_kept}
use Rattle.cfi_sim.specs.Agrees.{HasComingEntry, IsEntryFor, TablesAgree, WorldAgrees}
use Rattle.cfi_policy.specs.Image.{IsImage}
use Rattle.cfi_sim.proofs.journal.ComingLemmas.{idle_comes, all_loaded, among}
use Rattle.cfi_modules.specs.Fills.{fill_of, fills_of}
use Rattle.cfi_modules.proofs.GraphLemmas.{are_loaded}
use Rattle.cfi_aux.specs.declared.modules.Module.{Module}
use Rattle.cfi_sim.proofs.journal.AdvanceLemmas.{guests_on}
use Rattle.cfi_sim.proofs.journal.MadeLemmas.{IsComing}
use Rattle.cfi_sim.specs.declared.limits.TheConstants.{MAX_UPDATES}
use Rattle.cfi_world.specs.Turns.{Turn, did, nothing, turn_of}
use Rattle.cfi_plan.specs.declared.plan.Plan.{Plan}
use Rattle.cfi_model.specs.Phases.{phase_of}
use Rattle.cfi_world.specs.Premises.{HasRoom}
use Rattle.cfi_world.proofs.WorldLemmas.{begun_kept}
use Rattle.cfi_valid.specs.Loaded.{LoadedModule, placed_modules, loaded_by}
use Rattle.cfi_sim.proofs.journal.TablesLemmas.{refreshes, loads, begins}
use Rattle.cfi_word.specs.declared.lists.Image.{Image}
use Rattle.cfi_world.specs.Worlds.{IsWorld}
use Rattle.cfi_model.specs.Closed.{IsClosed}
use Rattle.cfi_word.specs.declared.limits.TheConstants.{MAX_EPOCH}
use Rattle.cfi_world.proofs.StoringLemmas.{AreIdle, idle_is, force_newest}
use Rattle.cfi_aux.specs.Sound.{IsSoundModule}
use Rattle.cfi_plan.specs.declared.journal.JournalLine.{JournalLine}
use Rattle.cfi_valid.specs.Journal.{JournalState, members_of, live_in, IsClean}
use Rattle.cfi_valid.proofs.LiveLemmas.{live_among_all}
use Rattle.cfi_model.specs.World.{World}
use Rattle.cfi_aux.specs.declared.placed.Placed.{Placed}
use Rattle.cfi_graph.specs.Direct.{DirectEdge}

-- ---- data

-- what holds of the data of some modules holds of that of those among them that pass a test
pub some_fills : (test : LoadedModule → Bool) (loaded : List LoadedModule)
    → All LiesInData (fills_of (placed_modules loaded))
    → All LiesInData (fills_of (placed_modules (filter test loaded)))
some_fills test [] all = All-nil LiesInData
some_fills test (l ∷ loaded) all =
    let later = fills_of (placed_modules loaded) in
    by_test (test l) (All-head LiesInData (fill_of l.placed) later all)
    (some_fills test loaded (All-tail LiesInData (fill_of l.placed) later all))
  where
    by_test : (passes : Bool) → LiesInData (fill_of l.placed)
        → All LiesInData (fills_of (placed_modules (filter test loaded)))
        → All LiesInData (fills_of (placed_modules (cond passes (l ∷ filter test loaded) (filter test loaded))))
    by_test true here rest =
        All-cons LiesInData (fill_of l.placed) (fills_of (placed_modules (filter test loaded))) here rest
    by_test false here rest = rest

module _ (plan : Plan) (modules : List Module) (sound : All IsSoundModule modules) (opening : JournalState) where
  module _ (old : Stage) (holds : Holds plan modules opening old) where
    abbrev w : World
    w = old.world

    abbrev t : Tables
    t = w.tables

    is : IsWorld w
    is = holds.agrees.world

    series : IsSeries plan.code_words (placed_modules old.state.loaded)
    series = holds.agrees.tables.series

    -- a module without a fault makes a longer series
    pub series_with : (number : ℕ) (clean : IsClean plan modules old.state number)
        → IsSeries plan.code_words (placed_modules old.state.loaded ++ clean.placed ∷ [])
    series_with number clean =
        let m : Module = clean.absent.unplaced in
        let there = clean.absent.is in
        let one : IsSoundModule m = subst IsSoundModule (get_or_from_slice_get modules number m m there)
        (sound number m (slice_get_within modules number m there)) in
        let live : List Placed = placed_modules (live_in old.state) in
        series_more plan.code_words (placed_modules old.state.loaded) m clean.placed series one
        (live, live_among_all old.state.policy (members_of old.state), clean.joins)

    pub comes : (number : ℕ) (clean : IsClean plan modules old.state number)
        → IsComing plan.code_words old.state number clean.placed
    comes number clean = record { series = series_with number clean; absent = clean.absent.absent }

    -- ---- an update begins

    pub no_aim : AreIdle t → old.aim ≡ None
    no_aim idle =
        by_aim old.aim (subst (HasComingEntry plan modules old.state (entry_at t (in_force t)) old.aim)
        (idle_comes t idle.asked (force_newest t idle.stored)) holds.agrees.tables.aims)
      where
        by_aim : (aim : Option Aim) → HasComingEntry plan modules old.state (entry_at t (in_force t)) aim None
            → aim ≡ None
        by_aim None has = refl
        by_aim (Some aim) has = absurd has

    begun_agrees : (aim : Aim) (image : Option Image) → HasRoom w image → is_idle (phase_of t) ≡ true
        → epoch_in_force t ≢ MAX_EPOCH
        → IsEntryFor plan modules old.state (entry_at t (in_force t)) aim (asked_entry t image)
        → WorldAgrees plan modules
        (record (after_event (record w { tables = begun image t; updates = w.updates + 1 }) old) { aim = Some aim })
    begun_agrees aim image room idle left entry = record {
      world = begun_kept w is image room idle left;
      tables = begins plan modules old.state aim image t
          (subst (λ (a : Option Aim). TablesAgree plan modules old.state a t) (no_aim (idle_is t idle))
          holds.agrees.tables) entry;
      guests = guests_on plan w (begun image t) (w.updates + 1) holds.agrees.guests;
    }

    begins_by : (aim : Aim) (spent : JournalLine) (image : Option Image) (new : Stage)
        → (AreIdle t → w.updates + 1 ≤ MAX_UPDATES
        → HasRoom w image × IsEntryFor plan modules old.state (entry_at t (in_force t)) aim (asked_entry t image))
        → new.world.updates ≤ MAX_UPDATES
        → (idle last : Bool) → is_idle (phase_of t) ≡ idle → (epoch_in_force t == MAX_EPOCH) ≡ last
        → (let turn : Turn = cond idle (cond last (record { world = w; answer = EpochsSpent })
        (did (record w { tables = begun image t; updates = w.updates + 1 }))) (nothing w) in
        Begins aim spent old new image turn.answer turn.world)
        → WorldAgrees plan modules new
    begins_by aim spent image new may few true true idle last event =
        subst (WorldAgrees plan modules) (sym event)
        (record { world = is; tables = holds.agrees.tables; guests = holds.agrees.guests })
    begins_by aim spent image new may few true false idle last event =
        let room : w.updates + 1 ≤ MAX_UPDATES = subst (λ (s : Stage). s.world.updates ≤ MAX_UPDATES) event few in
        let can = may (idle_is t idle) room in
        subst (WorldAgrees plan modules) (sym event)
        (begun_agrees aim image can.0 idle (eqb-false (epoch_in_force t) MAX_EPOCH last) can.1)
    begins_by aim spent image new may few false last idle is_last event = absurd event

    pub begin_agrees : (aim : Aim) (spent : JournalLine) (image : Option Image) (new : Stage)
        → (AreIdle t → w.updates + 1 ≤ MAX_UPDATES
        → HasRoom w image × IsEntryFor plan modules old.state (entry_at t (in_force t)) aim (asked_entry t image))
        → new.world.updates ≤ MAX_UPDATES
        → (let turn = turn_of w (events.Begin image) in Begins aim spent old new image turn.answer turn.world)
        → WorldAgrees plan modules new
    begin_agrees aim spent image new may few event =
        begins_by aim spent image new may few (is_idle (phase_of t)) (epoch_in_force t == MAX_EPOCH) refl refl event

    -- a refresh may begin
    pub refresh_may : AreIdle t → w.updates + 1 ≤ MAX_UPDATES
        → HasRoom w None × IsEntryFor plan modules old.state (entry_at t (in_force t)) Refreshing (asked_entry t None)
    refresh_may idle few = (
      record { room = omega (arith, few, holds.agrees.guests.room); may = tt },
      refreshes plan modules old.state t idle,
    )

    -- and a load of a module without a fault
    pub load_may : (number : ℕ) (clean : IsClean plan modules old.state number) (image : Image)
        → (let all = placed_modules old.state.loaded ++ clean.placed ∷ [] in
        IsImage (DirectEdge all) all plan.code_words image)
        → AreIdle t → w.updates + 1 ≤ MAX_UPDATES
        → HasRoom w (Some image)
        × IsEntryFor plan modules old.state (entry_at t (in_force t)) (Loading number)
        (asked_entry t (Some image))
    load_may number clean image of idle few =
        let ms : List Placed = placed_modules old.state.loaded in
        let all : List Placed = ms ++ clean.placed ∷ [] in
        let force = force_newest t idle.stored in
        let agrees = holds.agrees.tables in
        let no_update : TablesAgree plan modules old.state None t =
        subst (λ (a : Option Aim). TablesAgree plan modules old.state a t) (no_aim idle) agrees in
        let are = are_loaded plan.code_words all (series_with number clean) in
        let loaded_all : loaded_by (entry_at t (in_force t)).policy old.state.loaded ≡ old.state.loaded =
        ap (λ (p : ℕ). loaded_by p old.state.loaded) (sym agrees.policy)
        ∙ all_loaded old.state.policy old.state.loaded agrees.low in
        let now = (agrees.entries (in_force t) (omega arith)).image.1.code in
        let front : take (length ms) all ≡ ms =
        take-append-le (length ms) ms (clean.placed ∷ []) (omega arith) ∙ take-length ms in
        let old_code : IsCodeOf (take (length ms) all) plan.code_words (entry_at t (newest t)).image.code =
        subst (λ (k : ℕ). IsCodeOf (take (length ms) all) plan.code_words (entry_at t k).image.code) force
        (subst (λ (ps : List Placed). IsCodeOf ps plan.code_words (entry_at t (in_force t)).image.code) (sym front)
        (subst
        (λ (ls : List LoadedModule). IsCodeOf (placed_modules ls) plan.code_words (entry_at t (in_force t)).image.code)
        loaded_all now)) in
        let room = clean.absent.room in
        let policy : (entry_at t (newest t)).policy ≡ old.state.policy =
        ap (λ (k : ℕ). (entry_at t k).policy) (sym force) ∙ sym agrees.policy in (
          record {
            room = omega (arith, few, holds.agrees.guests.room);
            may = record {
              policy = refl;
              most = omega (arith, policy, agrees.few, room);
              closed = subst (λ (n : ℕ). IsClosed n image) (sym agrees.code_words)
                  (closed plan.code_words all are all image (among all, of));
              keeps = λ place some.
                  code_kept plan.code_words (length ms) all (entry_at t (newest t)).image.code image.code old_code
                  of.code place some;
            };
          },
          loads plan modules old.state t idle no_update number clean image of,
        )
