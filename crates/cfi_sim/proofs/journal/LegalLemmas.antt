-- The journal of a schedule is one that a run may have.
use Rattle.cfi_sim.specs.declared.aim.Aim.{Aim}
use Rattle.cfi_sim.specs.declared.aim.Aim.TheVariants.{Loading, Refreshing}
use Rattle.cfi_sim.specs.Stage.{Stage, dropped, IsMade, after_event}
use Rattle.std.proofs.Common.{◌≡◌, ℕ, ◌+◌, ◌<◌, ◌++◌, List, [], ◌∷◌, Option, Some, None, inl, inr, refl, sym, subst}
use Rattle.cfi_aux.specs.declared.modules.Module.{Module}
use Rattle.cfi_model.specs.declared.phase.Phase.{Phase}
use Rattle.cfi_model.specs.declared.phase.Phase.TheVariants as phases
use Rattle.cfi_model.specs.Phases.{phase_of}
use Rattle.cfi_model.specs.World.{World}
use Rattle.cfi_plan.specs.declared.journal.JournalLine.{JournalLine}
use Rattle.cfi_plan.specs.declared.journal.JournalLine.TheVariants as lines
use Rattle.cfi_plan.specs.declared.journal.Entry.{Entry}
use Rattle.cfi_plan.specs.declared.journal.Who.TheVariants.{Script}
use Rattle.cfi_plan.specs.declared.plan.Plan.{Plan}
use Rattle.cfi_sim.specs.Events.{IsNoted, Begins, IsLoadEvent}
use Rattle.cfi_sim.specs.Reach.{Happening, OfGuest, OfUpdate, OfLoad, OfRefresh, OfRelease, Happens, WorldTells}
use Rattle.cfi_sim.specs.Stands.{LoadFits, AimFits, JournalStands}
use Rattle.cfi_sim.specs.Valid.{IsStart}
use Rattle.cfi_valid.specs.Journal.{JournalState, IsTooOld, with_loaded, LineLeads, EntriesLead}
use Rattle.cfi_valid.proofs.JournalLemmas.{along_more}
use Rattle.cfi_word.specs.declared.limits.TheConstants.{MAX_EPOCH}
use Rattle.cfi_word.specs.declared.lists.Image.{Image}
use Rattle.cfi_world.specs.declared.event.Event.TheVariants as events
use Rattle.cfi_world.specs.declared.event.Turned.{Turned}
use Rattle.cfi_world.specs.declared.event.Turned.TheVariants.{Did, Asks, VersionsSpent, EpochsSpent, Nothing}
use Rattle.cfi_world.specs.Turns.{turn_of}

module _ (plan : Plan) (modules : List Module) where
  module _ (opening : JournalState) where
    -- a line more
    lined : (s : Stage) (line : JournalLine) (new : JournalState) → JournalStands plan modules opening s
        → LineLeads plan modules s.state line new
        → EntriesLead plan modules opening (s.journal ++ record { who = Script; what = line } ∷ []) new
    lined s line new stands legal =
        along_more plan modules opening s.journal (record { who = Script; what = line }) s.state new stands.leads
        (tt, legal)

    -- ---- the updater

    dropped_stands : (aim : Option Aim) (guest quiet : ℕ) (s : Stage) → s.aim ≡ aim
        → JournalStands plan modules opening s
        → IsTooOld plan s.state guest quiet → JournalStands plan modules opening (dropped aim guest quiet s)
    dropped_stands None guest quiet s is stands late = stands
    dropped_stands (Some (Loading number)) guest quiet s is stands late =
        let fits : LoadFits plan modules s.state number = subst (AimFits plan modules s.state) is stands.aim in
        record {
          leads = lined s (lines.LoadVersions number guest quiet) s.state stands (fits.clean, late, refl);
          aim = tt;
        }
    dropped_stands (Some Refreshing) guest quiet s is stands late = record {
      leads = lined s (lines.RefreshVersions guest quiet) s.state stands (late, refl);
      aim = tt;
    }

    made_stands : (aim : Option Aim) (s new : Stage) → s.aim ≡ aim → JournalStands plan modules opening s
        → IsMade plan modules aim s new → JournalStands plan modules opening new
    made_stands None s new is stands made = subst (JournalStands plan modules opening) (sym made) stands
    made_stands (Some (Loading number)) s new is stands made =
        let fits : LoadFits plan modules s.state number = subst (AimFits plan modules s.state) is stands.aim in
        let clean = made.0 in
        let epoch = s.state.epoch + 1 in
        let policy = s.state.policy + 1 in
        let state = with_loaded number epoch policy clean.placed s.state in
        subst (JournalStands plan modules opening) (sym made.1) (record {
          leads = lined s (lines.LoadOk number epoch policy) state stands
              (record { clean = clean; goes = record { left = fits.left; next = refl }; next = refl }, refl);
          aim = tt;
        })
    made_stands (Some Refreshing) s new is stands made =
        let left : s.state.epoch < MAX_EPOCH = subst (AimFits plan modules s.state) is stands.aim in
        subst (JournalStands plan modules opening) (sym made) (record {
          leads = lined s (lines.RefreshOk (s.state.epoch + 1)) (record s.state { epoch = s.state.epoch + 1 }) stands
              (record { left = left; next = refl }, refl);
          aim = tt;
        })

    same_stands : (s new : Stage) → JournalStands plan modules opening s → new ≡ s
        → JournalStands plan modules opening new
    same_stands s new stands same = subst (JournalStands plan modules opening) (sym same) stands

    noted_stands : (phase : Phase) (answer : Turned) (s new : Stage) → JournalStands plan modules opening s
        → ((guest quiet : ℕ) → answer ≡ VersionsSpent guest quiet → IsTooOld plan s.state guest quiet)
        → IsNoted plan modules phase answer s new → JournalStands plan modules opening new
    noted_stands phase (VersionsSpent guest quiet) s new stands late noted =
        same_stands (dropped s.aim guest quiet s) new
        (dropped_stands s.aim guest quiet s refl stands (late guest quiet refl)) noted
    noted_stands phases.Epoch Did s new stands late noted = made_stands s.aim s new refl stands noted
    noted_stands phases.Epoch (Asks guest number) s new stands late noted = made_stands s.aim s new refl stands noted
    noted_stands phases.Epoch EpochsSpent s new stands late noted = made_stands s.aim s new refl stands noted
    noted_stands phases.Epoch Nothing s new stands late noted = made_stands s.aim s new refl stands noted
    noted_stands phases.Idle Did s new stands late noted = same_stands s new stands noted
    noted_stands phases.Idle (Asks guest number) s new stands late noted = same_stands s new stands noted
    noted_stands phases.Idle EpochsSpent s new stands late noted = same_stands s new stands noted
    noted_stands phases.Idle Nothing s new stands late noted = same_stands s new stands noted
    noted_stands (phases.Testing k) Did s new stands late noted = same_stands s new stands noted
    noted_stands (phases.Testing k) (Asks guest number) s new stands late noted = same_stands s new stands noted
    noted_stands (phases.Testing k) EpochsSpent s new stands late noted = same_stands s new stands noted
    noted_stands (phases.Testing k) Nothing s new stands late noted = same_stands s new stands noted
    noted_stands (phases.Code k) Did s new stands late noted = same_stands s new stands noted
    noted_stands (phases.Code k) (Asks guest number) s new stands late noted = same_stands s new stands noted
    noted_stands (phases.Code k) EpochsSpent s new stands late noted = same_stands s new stands noted
    noted_stands (phases.Code k) Nothing s new stands late noted = same_stands s new stands noted
    noted_stands (phases.Tary k) Did s new stands late noted = same_stands s new stands noted
    noted_stands (phases.Tary k) (Asks guest number) s new stands late noted = same_stands s new stands noted
    noted_stands (phases.Tary k) EpochsSpent s new stands late noted = same_stands s new stands noted
    noted_stands (phases.Tary k) Nothing s new stands late noted = same_stands s new stands noted
    noted_stands (phases.Bary k) Did s new stands late noted = same_stands s new stands noted
    noted_stands (phases.Bary k) (Asks guest number) s new stands late noted = same_stands s new stands noted
    noted_stands (phases.Bary k) EpochsSpent s new stands late noted = same_stands s new stands noted
    noted_stands (phases.Bary k) Nothing s new stands late noted = same_stands s new stands noted

    -- ---- an update that begins

    begun_stands : (aim : Aim) (spent : JournalLine) (image : Option Image) (old new : Stage) (answer : Turned)
        (world : World) → JournalStands plan modules opening old
        → (answer ≡ Did → AimFits plan modules old.state (Some aim))
        → (answer ≡ EpochsSpent → LineLeads plan modules old.state spent old.state)
        → Begins aim spent old new image answer world → JournalStands plan modules opening new
    begun_stands aim spent image old new Did world stands fits legal is =
        subst (JournalStands plan modules opening) (sym is) (record { leads = stands.leads; aim = fits refl })
    begun_stands aim spent image old new EpochsSpent world stands fits legal is =
        subst (JournalStands plan modules opening) (sym is)
        (record { leads = lined old spent old.state stands (legal refl); aim = stands.aim })
    begun_stands aim spent image old new (Asks guest number) world stands fits legal is = absurd is
    begun_stands aim spent image old new (VersionsSpent guest quiet) world stands fits legal is = absurd is
    begun_stands aim spent image old new Nothing world stands fits legal is = absurd is

    -- ---- every event

    load_stands : (number : ℕ) (old new : Stage) → JournalStands plan modules opening old → WorldTells plan old
        → IsLoadEvent plan modules number old new → JournalStands plan modules opening new
    load_stands number old new stands tells (inl told) =
        subst (JournalStands plan modules opening) (sym told.is)
        (record { leads = lined old told.line old.state stands told.legal; aim = stands.aim })
    load_stands number old new stands tells (inr load) =
        let turn = turn_of old.world (events.Begin (Some load.image)) in
        begun_stands (Loading number) (lines.LoadEpochs number) (Some load.image) old new turn.answer
        turn.world stands
        (λ did. record { clean = load.clean; left = tells.begins (Some load.image) did })
        (λ spent. (load.clean, tells.spent (Some load.image) spent, refl)) load.begins

    pub event_stands : (happening : Happening) (old new : Stage) → JournalStands plan modules opening old
        → WorldTells plan old
        → Happens plan modules old new happening → JournalStands plan modules opening new
    event_stands (OfGuest guest) old new stands tells event =
        subst (JournalStands plan modules opening) (sym event.is) (record { leads = stands.leads; aim = stands.aim })
    event_stands OfUpdate old new stands tells event =
        let turn = turn_of old.world events.Update in
        noted_stands (phase_of old.world.tables) turn.answer (after_event turn.world old) new
        (record { leads = stands.leads; aim = stands.aim }) tells.late event.is
    event_stands (OfLoad number) old new stands tells event = load_stands number old new stands tells event
    event_stands OfRefresh old new stands tells event =
        let turn = turn_of old.world (events.Begin None) in
        begun_stands Refreshing lines.RefreshEpochs None old new turn.answer turn.world stands
        (λ did. tells.begins None did) (λ spent. (tells.spent None spent, refl)) event
    event_stands (OfRelease guest) old new stands tells event =
        subst (JournalStands plan modules opening) (sym event.is) (record { leads = stands.leads; aim = stands.aim })

  pub start_stands : (s : Stage) → IsStart plan modules s → JournalStands plan modules s.state s
  start_stands s starts = record {
    leads = subst (λ (journal : List Entry). EntriesLead plan modules s.state journal s.state) (sym starts.journal)
        refl;
    aim = subst (AimFits plan modules s.state) (sym starts.aim) tt;
  }
