-- An access of the updater leaves the world in agreement with the journal.
use Rattle.cfi_sim.specs.declared.aim.Aim.{Aim}
use Rattle.cfi_sim.specs.declared.aim.Aim.TheVariants.{Loading, Refreshing}
use Rattle.cfi_sim.specs.Stage.{Stage, IsMade, after_event}
use Rattle.std.proofs.Common.{◌≡◌, ◌≢◌, ℕ, ◌+◌, ◌*◌, ◌<◌, ◌≤◌, cond, Bool, true, false, List, Option, Some, None, refl, sym, ◌∙◌, ap, subst, arith}
use Rattle.std.specs.Prelude.{nat_lt}
use Rattle.std.proofs.lemmas.Bool.{lt-ltb, le-ltb}
use Rattle.cfi_aux.specs.declared.modules.Module.{Module}
use Rattle.cfi_model.specs.declared.history.Entry.{Entry}
use Rattle.cfi_model.specs.declared.phase.Phase.{Phase}
use Rattle.cfi_model.specs.declared.phase.Phase.TheVariants as phases
use Rattle.cfi_model.specs.declared.quiet.Quiet.{Quiet}
use Rattle.cfi_model.specs.declared.quiet.Quiet.TheVariants.{Unregistered, Parked, Published}
use Rattle.cfi_model.specs.InForce.{in_force}
use Rattle.cfi_model.specs.Phases.{phase_of, phase_by, phase_after}
use Rattle.cfi_model.specs.Quiet.{admits}
use Rattle.cfi_model.specs.Tables.{IsTables, IsAsked, MayBeAsked}
use Rattle.cfi_model.specs.Words.{Tables, entry_at, newest, before, next_epoch}
use Rattle.cfi_model.specs.World.{World, quiet_of}
use Rattle.cfi_model.proofs.PhaseLemmas.{IsRow, phase_row}
use Rattle.cfi_plan.specs.declared.plan.Plan.{Plan}
use Rattle.cfi_sim.specs.Agrees.{HasComingEntry, TablesAgree, GuestsAgree, WorldAgrees}
use Rattle.cfi_sim.specs.Events.{IsNoted, IsUpdateEvent}
use Rattle.cfi_sim.specs.Stage as stages
use Rattle.cfi_sim.proofs.journal.ComingLemmas.{storing_comes, IsNext, next_is}
use Rattle.cfi_sim.proofs.journal.MadeLemmas.{IsComing, made_refresh, made_load}
use Rattle.cfi_sim.proofs.journal.TablesLemmas.{drops, stays, passes}
use Rattle.cfi_valid.specs.Journal.{IsClean}
use Rattle.cfi_word.specs.Rank.{stores_of}
use Rattle.cfi_word.specs.declared.limits.TheConstants.{GUESTS}
use Rattle.cfi_world.specs.Turns.{Turn, refused, passed_turn, update_turn}
use Rattle.cfi_world.specs.Updates.{dropped, next_store, passed_by, stored}
use Rattle.cfi_world.specs.Worlds.{IsWorld}
use Rattle.cfi_world.proofs.ChoiceLemmas.{row_none}
use Rattle.cfi_world.proofs.StoringLemmas.{is_storing, storing_is}
use Rattle.cfi_world.proofs.UpdateLemmas as updates
use Rattle.cfi_world.proofs.WorldLemmas.{passed_all, refused_kept, stored_kept, testing_is}

-- ---- what is in force

pub force_old : (t : Tables) → t.stored ≤ 2 * t.code_words → in_force t ≡ before t
force_old t few = ap (λ (b : Bool). cond b (newest t) (before t)) (le-ltb (2 * t.code_words) t.stored few)

pub force_new : (t : Tables) → 2 * t.code_words < t.stored → in_force t ≡ newest t
force_new t all = ap (λ (b : Bool). cond b (newest t) (before t)) (lt-ltb (2 * t.code_words) t.stored all)

-- the guests agree in a world with other tables
pub guests_on : (plan : Plan) (w : World) (t : Tables) (updates : ℕ) → GuestsAgree plan w
    → GuestsAgree plan (record w { tables = t; updates = updates })
guests_on plan w t updates agrees = record {
  count = agrees.count;
  fuel = agrees.fuel;
  room = agrees.room;
  quiets = λ guest quiet is.
      let of = agrees.quiets guest quiet is in
      record { known = of.known; r = of.r; there = of.there; least = of.least };
  points = agrees.points;
}

module _ (plan : Plan) (modules : List Module) (old : Stage) (agrees : WorldAgrees plan modules old)
    (comes : (number : ℕ) (clean : IsClean plan modules old.state number)
    → IsComing plan.code_words old.state number clean.placed) where
  abbrev w : World
  w = old.world

  abbrev t : Tables
  t = w.tables

  is : IsTables t
  is = agrees.world.tables

  -- ---- a test

  asked_of : (asked : Option Entry) (guest : ℕ) → phase_by asked t.tested t.code_words t.stored ≡ phases.Testing guest
      → (e : Entry) × (asked ≡ Some e)
  asked_of None guest at =
      absurd (row_none t.code_words t.stored (phase_after t.code_words t.stored) guest
      (phase_row t.code_words t.stored) at)
  asked_of (Some e) guest at = (e, refl)

  all_stored : (e : Entry) → t.asked ≡ Some e → stores_of t.code_words ≤ t.stored
  all_stored e asked =
      let fits : IsAsked t e = subst (MayBeAsked t) asked is.asked_fits in omega (arith, fits.idle)

  passed_tables : (e : Entry) (asked : t.asked ≡ Some e) (more : Bool) → nat_lt (t.tested + 1) GUESTS ≡ more
      → TablesAgree plan modules old.state old.aim (passed_by (Some e) t)
  passed_tables e asked true more =
      subst
      (λ (b : Bool). TablesAgree plan modules old.state old.aim
      (cond b (record t { tested = t.tested + 1 }) (updates.begins t is e asked))) (sym more)
      (stays plan modules old.state old.aim t t.stored (t.tested + 1) refl agrees.tables)
  passed_tables e asked false more =
      subst
      (λ (b : Bool). TablesAgree plan modules old.state old.aim
      (cond b (record t { tested = t.tested + 1 }) (updates.begins t is e asked))) (sym more)
      (passes plan modules old.state old.aim t is e asked (all_stored e asked) agrees.tables)

  passed_agrees : (guest : ℕ) → phase_of t ≡ phases.Testing guest
      → admits t.versions (next_epoch t) (quiet_of w t.tested) ≡ true
      → WorldAgrees plan modules (after_event (record w { tables = passed_by t.asked t }) old)
  passed_agrees guest at lets =
      let asked = asked_of t.asked guest at in
      record {
        world = passed_all w agrees.world t.asked refl lets;
        tables = subst (λ (o : Option Entry). TablesAgree plan modules old.state old.aim (passed_by o t)) (sym asked.1)
            (passed_tables asked.0 asked.1 (nat_lt (t.tested + 1) GUESTS) refl);
        guests = guests_on plan w (passed_by t.asked t) w.updates agrees.guests;
      }

  dropped_agrees : (e : Entry) → t.asked ≡ Some e → (aim : Option Aim) → old.aim ≡ aim → (guest quiet : ℕ)
      → WorldAgrees plan modules
      (stages.dropped aim guest quiet (after_event (record w { tables = dropped t }) old))
  dropped_agrees e asked None none guest quiet = record {
    world = refused_kept w agrees.world guest (Published quiet);
    tables = subst (λ (a : Option Aim). TablesAgree plan modules old.state a (dropped t)) (sym none)
        (drops plan modules old.state old.aim t (all_stored e asked) agrees.tables);
    guests = guests_on plan w (dropped t) w.updates agrees.guests;
  }
  dropped_agrees e asked (Some aim) some guest quiet = record {
    world = refused_kept w agrees.world guest (Published quiet);
    tables = drops plan modules old.state old.aim t (all_stored e asked) agrees.tables;
    guests = guests_on plan w (dropped t) w.updates agrees.guests;
  }

  refused_agrees : (guest : ℕ) → phase_of t ≡ phases.Testing guest → (quiet : Quiet) (new : Stage)
      → (let turn = refused w guest quiet in
      IsNoted plan modules (phases.Testing guest) turn.answer (after_event turn.world old) new)
      → WorldAgrees plan modules new
  refused_agrees guest at Unregistered new noted =
      subst (WorldAgrees plan modules) (sym noted)
      (record { world = agrees.world; tables = agrees.tables; guests = agrees.guests })
  refused_agrees guest at Parked new noted =
      subst (WorldAgrees plan modules) (sym noted)
      (record { world = agrees.world; tables = agrees.tables; guests = agrees.guests })
  refused_agrees guest at (Published quiet) new noted =
      let asked = asked_of t.asked guest at in
      subst (WorldAgrees plan modules) (sym noted) (dropped_agrees asked.0 asked.1 old.aim refl guest quiet)

  tested_agrees : (guest : ℕ) → phase_of t ≡ phases.Testing guest → (lets : Bool)
      → admits t.versions (next_epoch t) (quiet_of w guest) ≡ lets → (new : Stage)
      → (let turn : Turn = cond lets (passed_turn w) (refused w guest (quiet_of w guest)) in
      IsNoted plan modules (phases.Testing guest) turn.answer (after_event turn.world old) new)
      → WorldAgrees plan modules new
  tested_agrees guest at true lets new noted =
      let same = testing_is w agrees.world t.asked t.tested t.code_words t.stored guest at in
      subst (WorldAgrees plan modules) (sym noted) (passed_agrees guest at
      (subst (λ (g : ℕ). admits t.versions (next_epoch t) (quiet_of w g) ≡ true) same lets))
  tested_agrees guest at false lets new noted = refused_agrees guest at (quiet_of w guest) new noted

  -- ---- a store

  row_of : (phase : Phase) → phase_of t ≡ phase → t.asked ≡ None → IsRow t.code_words t.stored phase
  row_of phase at none =
      let after : phase_after t.code_words t.stored ≡ phase =
      sym (ap (λ (o : Option Entry). phase_by o t.tested t.code_words t.stored) none) ∙ at in
      subst (IsRow t.code_words t.stored) after (phase_row t.code_words t.stored)

  next : IsNext t (t.stored + 1)
  next = next_is t is (t.stored + 1)

  stored_agrees : (phase : Phase) → phase_of t ≡ phase → is_storing phase ≡ true
      → in_force (stored t) ≡ in_force t → WorldAgrees plan modules (after_event (record w { tables = stored t }) old)
  stored_agrees phase at storing same = record {
    world = stored_kept w agrees.world (ap is_storing at ∙ storing);
    tables = stays plan modules old.state old.aim t (next_store t (t.stored + 1)) t.tested same agrees.tables;
    guests = guests_on plan w (stored t) w.updates agrees.guests;
  }

  -- the entry that comes is in force with the next store
  record IsLast : Type 0 where
    asked : t.asked ≡ None
    goes : in_force t + 1 ≡ newest t
    force : in_force (stored t) ≡ newest t
    world : IsWorld (record w { tables = stored t })

  last_is : phase_of t ≡ phases.Epoch → IsLast
  last_is at =
      let storing = storing_is t (ap is_storing at) in
      let row : t.stored ≡ 2 * t.code_words = row_of phases.Epoch at storing.asked in
      let two = is.under_way storing.stored in
      let old_force = force_old t (omega (arith, row)) in
      record {
        asked = storing.asked;
        goes = omega (arith, old_force, two);
        force = force_new (stored t) (omega (arith, row, next.least));
        world = stored_kept w agrees.world (ap is_storing at);
      }

  made_agrees : (aim : Option Aim) → old.aim ≡ aim → IsLast → (new : Stage)
      → IsMade plan modules aim (after_event (record w { tables = stored t }) old) new → WorldAgrees plan modules new
  made_agrees None none end new made =
      let apart : in_force t ≢ newest t = λ both. omega (arith, end.goes, both) in
      absurd (subst (λ (a : Option Aim). HasComingEntry plan modules old.state (entry_at t (in_force t)) a
      (Some (entry_at t (newest t)))) none
      (subst (HasComingEntry plan modules old.state (entry_at t (in_force t)) old.aim) (storing_comes t end.asked apart)
      agrees.tables.aims))
  made_agrees (Some (Loading number)) some end new made =
      let clean = made.0 in
      let tables = made_load plan modules old.state t is (next_store t (t.stored + 1)) number clean
      (subst (λ (a : Option Aim). TablesAgree plan modules old.state a t) some agrees.tables) end.asked end.goes
      end.force (comes number clean) in
      subst (WorldAgrees plan modules) (sym made.1)
      (record { world = end.world; tables = tables; guests = guests_on plan w (stored t) w.updates agrees.guests })
  made_agrees (Some Refreshing) some end new made =
      let tables = made_refresh plan modules old.state t is (next_store t (t.stored + 1))
      (subst (λ (a : Option Aim). TablesAgree plan modules old.state a t) some agrees.tables) end.asked end.goes
      end.force in
      subst (WorldAgrees plan modules) (sym made)
      (record { world = end.world; tables = tables; guests = guests_on plan w (stored t) w.updates agrees.guests })

  -- ---- each phase

  update_by : (phase : Phase) → phase_of t ≡ phase → phase ≢ phases.Idle → (new : Stage)
      → (let turn = update_turn w phase in
      IsNoted plan modules phase turn.answer (after_event turn.world old) new)
      → WorldAgrees plan modules new
  update_by phases.Idle at busy new noted = absurd (busy refl)
  update_by (phases.Testing guest) at busy new noted =
      tested_agrees guest at (admits t.versions (next_epoch t) (quiet_of w guest)) refl new noted
  update_by (phases.Code index) at busy new noted =
      let storing = storing_is t (ap is_storing at) in
      let row = row_of (phases.Code index) at storing.asked in
      let few = next.within (omega (arith, row.0)) in
      subst (WorldAgrees plan modules) (sym noted) (stored_agrees (phases.Code index) at refl
      (force_old (stored t) (omega (arith, few)) ∙ sym (force_old t (omega (arith, row.0)))))
  update_by (phases.Tary index) at busy new noted =
      let storing = storing_is t (ap is_storing at) in
      let row = row_of (phases.Tary index) at storing.asked in
      let past = next.past (omega (arith, row.0)) in
      subst (WorldAgrees plan modules) (sym noted) (stored_agrees (phases.Tary index) at refl
      (force_old (stored t) (omega (arith, past, row.1)) ∙ sym (force_old t (omega (arith, row.1)))))
  update_by phases.Epoch at busy new noted = made_agrees old.aim refl (last_is at) new noted
  update_by (phases.Bary slot) at busy new noted =
      let storing = storing_is t (ap is_storing at) in
      let row = row_of (phases.Bary slot) at storing.asked in
      subst (WorldAgrees plan modules) (sym noted) (stored_agrees (phases.Bary slot) at refl
      (force_new (stored t) (omega (arith, next.least, row.0)) ∙ sym (force_new t row.0)))

  pub update_agrees : (new : Stage) → IsUpdateEvent plan modules old new → WorldAgrees plan modules new
  update_agrees new event = update_by (phase_of t) refl event.busy new event.is
