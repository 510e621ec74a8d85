-- Accesses of the updater, as a simulation under way makes them.
use Rattle.std.proofs.Common.{◌≡◌, ℕ, ◌+◌, ◌<◌, ◌++◌, false, List, [], ◌∷◌, Option, Some, None, refl, sym, ◌∙◌, ap, subst, arith}
use Rattle.std.specs.Prelude.{IfSome}
use Rattle.cfi_aux.specs.declared.modules.Module.{Module}
use Rattle.cfi_model.specs.declared.phase.Phase.{Phase}
use Rattle.cfi_model.specs.declared.phase.Phase.TheVariants as phases
use Rattle.cfi_model.specs.Phases.{phase_of}
use Rattle.cfi_model.specs.World.{World}
use Rattle.cfi_plan.specs.declared.journal.Entry.{Entry}
use Rattle.cfi_plan.specs.declared.journal.JournalLine.TheVariants as lines
use Rattle.cfi_plan.specs.declared.journal.Who.TheVariants.{Script}
use Rattle.cfi_plan.specs.declared.journal.ModuleLine.{ModuleLine}
use Rattle.cfi_modules.specs.Order.{Joins}
use Rattle.cfi_modules.specs.Series.{AreAllLive, CanRejoin, JoinsTo}
use Rattle.cfi_modules.proofs.LiveLemmas.{all_live_in, all_live_more}
use Rattle.cfi_aux.specs.declared.placed.Placed.{Placed}
use Rattle.cfi_sim.specs.declared.aim.Aim.{Aim}
use Rattle.cfi_sim.specs.declared.limits.TheConstants.{MAX_EVENTS}
use Rattle.cfi_sim.specs.declared.pending.Pending.{Pending}
use Rattle.cfi_sim.specs.declared.pending.Pending.TheVariants.{Load}
use Rattle.cfi_sim.specs.declared.standing.Standing.TheInside.{Inside}
use Rattle.cfi_sim.specs.Events.{IsNoted, IsUpdateEvent}
use Rattle.cfi_sim.specs.Reach.{OfUpdate}
use Rattle.cfi_sim.specs.Stage.{Stage, IsMade, after_event, loaded_as}
use Rattle.cfi_sim.specs.Stands.{AimFits, LoadFits}
use Rattle.cfi_ledger.specs.declared.force.Force.{Force}
use Rattle.cfi_ledger.specs.Force.{with_change}
use Rattle.cfi_ledger.specs.Journal.{asked_by}
use Rattle.cfi_ledger.proofs.JoinedLemmas.{joined_loaded, joined_roster}
use Rattle.cfi_ledger.specs.Roster.{HasJoined, IsRosterOf, Offer, Roster, live_placed, loaded_of, series_of, with_offer}
use Rattle.cfi_sim.specs.inner.Making.{FitsAim, HasCome, HasMadeWithin, NotesBy, with_dropped, with_entered}
use Rattle.cfi_sim.specs.inner.Pending.{aim_by, aim_of}
use Rattle.cfi_sim.specs.inner.Standing.{Whole, RosterFits, IsUnderWay, PendingFits, whole_inside}
use Rattle.cfi_sim.proofs.BeginLemmas.{under_after, updates_few, done_so}
use Rattle.cfi_sim.proofs.journal.NotedLemmas.{not_spent, busy, update_counts}
use Rattle.cfi_sim.proofs.LoadLemmas.{placed_is}
use Rattle.cfi_sim.proofs.journal.ComingLemmas.{all_live}
use Rattle.cfi_valid.specs.Journal.{live_in, IsClean}
use Rattle.cfi_valid.specs.Loaded.{LoadedModule, placed_modules, planned_name}
use Rattle.cfi_valid.specs.declared.retirement.Retirement.{Retirement}
use Rattle.cfi_world.specs.declared.event.Event.TheVariants as events
use Rattle.cfi_world.specs.declared.event.Turned.{Turned}
use Rattle.cfi_world.specs.declared.event.Turned.TheVariants.{VersionsSpent}
use Rattle.cfi_world.specs.Turns.{Turns, turn_of}
use Rattle.cfi_world.specs.Updates.{is_idle}

-- ---- a module enters

module _ (a : Inside) (kept : RosterFits a) (x : Whole) (is : whole_inside a ≡ x) (offer : Offer)
    (offered : PendingFits x (Load offer)) where
  abbrev its : PendingFits (whole_inside a) (Load offer)
  its = subst (λ (w : Whole). PendingFits w (Load offer)) (sym is) offered

  -- it joins the roster
  joins_here : JoinsTo (series_of a.force.roster) its.unplaced offer.placed
  joins_here =
      let r = a.force.roster in
      let m = its.unplaced in
      subst (λ (n : ℕ). Joins n r.placed (live_placed r) m offer.placed) (sym kept.roster_is.code_words_are)
      (subst (λ (ms : List Placed). Joins a.plan.now.code_words r.placed ms m offer.placed)
      (sym (all_live_in (series_of r) kept.live))
      (subst (λ (ms : List Placed). Joins a.plan.now.code_words ms ms m offer.placed) (sym (placed_is a kept))
      its.joins))

  pub rejoins : CanRejoin (series_of a.force.roster) offer.placed
  rejoins = (its.unplaced, its.sound, joins_here)

  abbrev entered : LoadedModule
  entered = record { number = offer.line.number; placed = offer.placed; policy = a.force.policy + 1 }

  abbrev name : List ℕ
  name = planned_name a.plan.now.modules offer.line.number

  module _ (r : Roster) (same : r ≡ with_offer offer a.force.roster) where
    -- with it, it is loaded
    abbrev joined : HasJoined offer.line.number name (a.force.policy + 1) its.unplaced a.force.roster r
    joined = record {
      one = offer.placed;
      joins = joins_here;
      is = ap (λ (q : Roster). record q { cells = r.cells })
          (same
          ∙ ap (λ (l : ModuleLine). with_offer (record { line = l; placed = offer.placed }) a.force.roster) its.line_is);
    }

    loaded_with : loaded_of r.lines r.placed ≡ loaded_of a.force.roster.lines a.force.roster.placed ++ entered ∷ []
    loaded_with =
        joined_loaded offer.line.number name (a.force.policy + 1) its.unplaced a.force.roster r joined
        kept.roster_is.many

    pub entered_roster : IsRosterOf a.plan.now r
    entered_roster =
        joined_roster offer.line.number name (a.force.policy + 1) its.unplaced a.force.roster r joined a.plan.now
        kept.roster_is refl

    -- none was retired
    pub entered_live : AreAllLive (series_of r)
    entered_live =
        subst (λ (q : Roster). AreAllLive (series_of q)) (sym same)
        (all_live_more (series_of a.force.roster) offer.placed kept.live)

    abbrev entered_with : List Entry → Option Aim → List LoadedModule → List Retirement → Whole
    entered_with journal aim loaded gone =
        let here = whole_inside a in
        record here {
          stage = record here.stage {
            journal = journal;
            state = record {
              epoch = a.force.epoch + 1;
              policy = a.force.policy + 1;
              loaded = loaded;
              retired = gone;
            };
            aim = aim;
          };
        }

    abbrev lines_with : (number : ℕ) → List Entry
    lines_with number =
        a.force.journal.lines ++ asked_by Script (lines.LoadOk number (a.force.epoch + 1) (a.force.policy + 1)) ∷ []

    -- and the state is the next one
    pub has_entered : x.stage.aim ≡ None → (number : ℕ) → number ≡ offer.line.number → (f : Force)
        → f ≡ with_change r f.journal a.force → f.journal.lines ≡ lines_with number
        → whole_inside (record a { force = f }) ≡ with_entered offer x
    has_entered none number number_is f f_is lines_are =
        let loaded = loaded_of r.lines r.placed in
        let gone = a.force.roster.retired in
        let aim_is = subst (λ (w : Whole). w.stage.aim ≡ None) (sym is) none in
        ap (λ (g : Force). whole_inside (record a { force = g })) f_is
        ∙ ap (λ (q : Roster). entered_with f.journal.lines (aim_of a.pending) loaded q.retired) same
        ∙ ap (λ (es : List Entry). entered_with es (aim_of a.pending) loaded gone) (lines_are ∙ ap lines_with number_is)
        ∙ ap (λ (o : Option Aim). entered_with (lines_with offer.line.number) o loaded gone) aim_is
        ∙ ap (λ (ls : List LoadedModule). entered_with (lines_with offer.line.number) None ls gone) loaded_with
        ∙ ap (with_entered offer) is

-- ---- what was under way is in force

-- what has happened to the stage alone
stage_alone : (x y : Whole) (s : Stage) → y ≡ record x { stage = s } → y ≡ record x { stage = y.stage }
stage_alone x y s is = is ∙ ap (λ (t : Stage). record x { stage = t }) (ap (λ (w : Whole). w.stage) (sym is))

-- without an aim nothing is under way
pub none_pending : (Fits : Pending → Type 0) (pending : Option Pending) → aim_of pending ≡ None → IfSome pending Fits
none_pending Fits None none = tt
none_pending Fits (Some pending) none = absurd (cc)

module _ (a : Inside) (kept : RosterFits a) (x : Whole) (is : whole_inside a ≡ x) (fits : FitsAim x) where
  abbrev now_fits : FitsAim (whole_inside a)
  now_fits = subst FitsAim (sym is) fits

  aim_fits : (pending : Pending) → a.pending ≡ Some pending
      → AimFits a.plan.now a.modules.now (whole_inside a).stage.state (Some (aim_by pending))
  aim_fits pending same =
      subst (λ (o : Option Pending). AimFits a.plan.now a.modules.now (whole_inside a).stage.state (aim_of o)) same
      now_fits.fits

  module _ (offer : Offer) (same : a.pending ≡ Some (Load offer)) where
    pub held : PendingFits (whole_inside a) (Load offer)
    held = subst (λ (o : Option Pending). IfSome o (PendingFits (whole_inside a))) same kept.pending

    abbrev load_fits : LoadFits a.plan.now a.modules.now (whole_inside a).stage.state offer.line.number
    load_fits = aim_fits (Load offer) same

    held_module : held.unplaced ≡ load_fits.clean.absent.unplaced
    held_module =
        let both : Some held.unplaced ≡ Some load_fits.clean.absent.unplaced =
        sym held.is ∙ load_fits.clean.absent.is in
        cc

    abbrev all : List Placed
    all = placed_modules (whole_inside a).stage.state.loaded

    -- it has no fault, and is placed so
    abbrev clean_held : IsClean a.plan.now a.modules.now (whole_inside a).stage.state offer.line.number
    clean_held = record {
      absent = load_fits.clean.absent;
      placed = offer.placed;
      joins = subst
          (λ (m : Module). Joins a.plan.now.code_words all (placed_modules (live_in (whole_inside a).stage.state)) m
          offer.placed) held_module
          (subst (λ (ls : List LoadedModule). Joins a.plan.now.code_words all (placed_modules ls) held.unplaced offer.placed)
          (sym now_fits.live) held.joins);
    }

    pub load_comes : (y : Whole) → y ≡ with_entered offer (whole_inside a) → HasCome x y
    load_comes y y_is =
        subst (λ (w : Whole). HasCome w y) is (record {
          made = subst
              (λ (o : Option Pending). IsMade a.plan.now a.modules.now (aim_of o) (whole_inside a).stage y.stage)
              (sym same) (clean_held, ap (λ (w : Whole). w.stage) y_is);
          is = stage_alone (whole_inside a) y (loaded_as offer.line.number offer.placed (whole_inside a).stage) y_is;
        })

-- ---- an access

-- what an update under way is for fits
pub fits_aim : (x : Whole) → IsUnderWay x → (w : World) (events : ℕ)
    → FitsAim (record x { stage = record x.stage { world = w; events = events } })
fits_aim x under w events = record {
  fits = under.going.holds.stands.aim;
  few = under.going.holds.agrees.tables.few;
  live = (let tables = under.going.holds.agrees.tables in all_live x.stage.state tables.stay tables.low);
}

-- ---- it is made

module _ (a : Inside) (x : Whole) (is : whole_inside a ≡ x) (under : IsUnderWay x) (few : a.events < MAX_EVENTS)
    (phase : Phase) (phase_is : phase ≡ phase_of a.world.tables) (going : is_idle phase ≡ false) (mid : World)
    (turned : Turned) (turns : Turns a.world events.Update mid turned) where
  abbrev now : Whole
  now = whole_inside a

  abbrev turned_now : Whole
  turned_now = record now { stage = record now.stage { world = mid; events = a.events + 1 } }

  advanced : (y : Whole) → y ≡ record now { stage = y.stage }
      → IsNoted now.plan now.modules phase turned turned_now.stage y.stage
      → HasMadeWithin (IsUpdateEvent x.plan x.modules) x y
  advanced y y_is noted =
      let under_now : IsUnderWay now = subst IsUnderWay (sym is) under in
      let turn = turn_of a.world events.Update in
      let event : IsUpdateEvent now.plan now.modules now.stage y.stage = record {
        busy = λ same. busy phase going (phase_is ∙ same);
        is = subst (λ (w : World). IsNoted now.plan now.modules (phase_of a.world.tables) turn.answer
            (after_event w now.stage) y.stage) turns.world
            (subst (λ (t : Turned). IsNoted now.plan now.modules (phase_of a.world.tables) t
            (after_event mid now.stage) y.stage) turns.answer
            (subst (λ (p : Phase). IsNoted now.plan now.modules p turned (after_event mid now.stage) y.stage) phase_is
            noted));
      } in
      let after : IsUnderWay (record now { stage = y.stage }) =
      under_after now under_now OfUpdate y.stage event tt in
      let counts = update_counts now.plan now.modules now.stage y.stage event in
      subst (λ (w : Whole). HasMadeWithin (IsUpdateEvent w.plan w.modules) w y) is
      (record {
        done = done_so (IsUpdateEvent now.plan now.modules) now y y_is event after;
        within = record {
          events = omega (arith, counts, few);
          updates = updates_few (record now { stage = y.stage }) after;
        };
      })

  -- the update is not made
  pub dropped_advance : (guest quiet : ℕ) → turned ≡ VersionsSpent guest quiet → (y : Whole)
      → y ≡ with_dropped guest quiet turned_now → HasMadeWithin (IsUpdateEvent x.plan x.modules) x y
  dropped_advance guest quiet spent y y_is =
      advanced y (y_is ∙ ap (λ (s : Stage). record now { stage = s }) (ap (λ (w : Whole). w.stage) (sym y_is)))
      (subst (λ (t : Turned). IsNoted now.plan now.modules phase t turned_now.stage y.stage) (sym spent)
      (ap (λ (w : Whole). w.stage) y_is))

  -- it goes on
  notes_is : (p : Phase) (y : Whole) → NotesBy p turned_now y → y ≡ record now { stage = y.stage }
  notes_is phases.Epoch y notes = notes.is
  notes_is phases.Idle y notes =
      notes ∙ ap (λ (s : Stage). record now { stage = s }) (ap (λ (w : Whole). w.stage) (sym notes))
  notes_is (phases.Testing k) y notes =
      notes ∙ ap (λ (s : Stage). record now { stage = s }) (ap (λ (w : Whole). w.stage) (sym notes))
  notes_is (phases.Code k) y notes =
      notes ∙ ap (λ (s : Stage). record now { stage = s }) (ap (λ (w : Whole). w.stage) (sym notes))
  notes_is (phases.Tary k) y notes =
      notes ∙ ap (λ (s : Stage). record now { stage = s }) (ap (λ (w : Whole). w.stage) (sym notes))
  notes_is (phases.Bary k) y notes =
      notes ∙ ap (λ (s : Stage). record now { stage = s }) (ap (λ (w : Whole). w.stage) (sym notes))

  pub noted_advance : ((guest quiet : ℕ) → turned ≡ VersionsSpent guest quiet → ⊥) → (y : Whole)
      → NotesBy phase turned_now y → HasMadeWithin (IsUpdateEvent x.plan x.modules) x y
  noted_advance other y notes =
      advanced y (notes_is phase y notes) (not_spent phase turned other turned_now y notes)
