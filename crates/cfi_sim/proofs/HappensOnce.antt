-- Each event of the updater, and each load, makes one stage.
use Rattle.std.proofs.Common.{◌≡◌, ◌≢◌, ◌⊎◌, ℕ, ◌++◌, List, [], ◌∷◌, Option, Some, None, All, inl, inr, sym, ap, subst, ◌∙◌, arith}
use Rattle.cfi_aux.specs.declared.modules.Module.{Module}
use Rattle.cfi_aux.specs.declared.placed.Placed.{Placed}
use Rattle.cfi_aux.specs.Sound.{IsSoundModule}
use Rattle.cfi_model.specs.declared.phase.Phase.{Phase}
use Rattle.cfi_model.specs.declared.phase.Phase.TheVariants as phases
use Rattle.cfi_model.specs.Phases.{phase_of}
use Rattle.cfi_graph.specs.Direct.{DirectEdge}
use Rattle.cfi_model.specs.World.{World}
use Rattle.cfi_plan.specs.declared.journal.JournalLine.{JournalLine}
use Rattle.cfi_plan.specs.declared.journal.JournalLine.TheVariants as lines
use Rattle.cfi_plan.specs.declared.plan.Plan.{Plan}
use Rattle.cfi_policy.specs.Image.{IsImage}
use Rattle.cfi_modules.specs.declared.fault.JoinFault.{JoinFault}
use Rattle.cfi_modules.specs.declared.fault.JoinFault.TheVariants.{Memory}
use Rattle.cfi_modules.specs.declared.numbers.FaultNumbers.{FaultNumbers}
use Rattle.cfi_modules.specs.declared.numbers.FaultNumbers.TheVariants as numbers
use Rattle.cfi_modules.specs.Loaded.{AreLoaded}
use Rattle.cfi_modules.specs.Numbers.{numbers_of}
use Rattle.cfi_modules.specs.Order.{IsJoinFault}
use Rattle.cfi_modules.specs.Image.{IsOrderedImage}
use Rattle.cfi_modules.proofs.GraphLemmas.{are_loaded}
use Rattle.cfi_modules.proofs.OrderLemmas.{joins_or_refused, one_fault}
use Rattle.cfi_sim.specs.declared.aim.Aim.{Aim}
use Rattle.cfi_sim.specs.declared.aim.Aim.TheVariants.{Loading, Refreshing}
use Rattle.cfi_sim.specs.Events.{TellsLoad, Begins, IsBeginning, IsBegunLoad, IsLoadEvent, IsNoted, IsUpdateEvent}
use Rattle.cfi_sim.specs.Stage.{Stage, IsMade, after_event, loaded_as, with_journal_line}
use Rattle.cfi_sim.specs.Stands.{Holds}
use Rattle.cfi_sim.proofs.ImageOnce.{image_once}
use Rattle.cfi_sim.proofs.journal.BegunLemmas.{series_with}
use Rattle.cfi_sim.proofs.journal.ComingLemmas.{live_is_loaded}
use Rattle.cfi_valid.specs.Joining.{IsFull}
use Rattle.cfi_valid.specs.Journal.{JournalState, members_of, live_in, IsClean, IsFaulty, LineLeads}
use Rattle.cfi_valid.specs.Loaded.{placed_modules}
use Rattle.cfi_valid.specs.Retiring.{IsLiveAt}
use Rattle.cfi_valid.specs.NumberedLine.{numbered_line}
use Rattle.cfi_valid.proofs.JournalLemmas.{clean_once}
use Rattle.cfi_word.specs.declared.lists.Image.{Image}
use Rattle.cfi_world.specs.declared.event.Event.TheVariants as events
use Rattle.cfi_world.specs.declared.event.Turned.{Turned}
use Rattle.cfi_world.specs.declared.event.Turned.TheVariants.{Nothing, Did, Asks, VersionsSpent, EpochsSpent}
use Rattle.cfi_world.specs.Turns.{turn_of}

-- ---- an update that begins

begins_by : (aim : Aim) (spent : JournalLine) (image : Option Image) (old x y : Stage) (answer : Turned) (world : World)
    → Begins aim spent old x image answer world → Begins aim spent old y image answer world → x ≡ y
begins_by aim spent image old x y Did world p q = p ∙ sym q
begins_by aim spent image old x y EpochsSpent world p q = p ∙ sym q
begins_by aim spent image old x y (VersionsSpent guest quiet) world p q = absurd p
begins_by aim spent image old x y (Asks guest number) world p q = absurd p
begins_by aim spent image old x y Nothing world p q = absurd p

pub beginning_once : (aim : Aim) (spent : JournalLine) (image : Option Image) (old x y : Stage)
    → IsBeginning aim spent image old x → IsBeginning aim spent image old y → x ≡ y
beginning_once aim spent image old x y p q =
    let turn = turn_of old.world (events.Begin image) in
    begins_by aim spent image old x y turn.answer turn.world p q

module _ (plan : Plan) (modules : List Module) where
  -- ---- the updater

  made_once : (aim : Option Aim) (old x y : Stage) → IsMade plan modules aim old x → IsMade plan modules aim old y
      → x ≡ y
  made_once None old x y p q = p ∙ sym q
  made_once (Some (Loading number)) old x y p q =
      let same = clean_once plan modules old.state number p.0 q.0 in
      p.1 ∙ ap (λ (placed : Placed). loaded_as number placed old) same ∙ sym q.1
  made_once (Some Refreshing) old x y p q = p ∙ sym q

  noted_once : (phase : Phase) (answer : Turned) (old x y : Stage) → IsNoted plan modules phase answer old x
      → IsNoted plan modules phase answer old y → x ≡ y
  noted_once phase (VersionsSpent guest quiet) old x y p q = p ∙ sym q
  noted_once phases.Epoch Did old x y p q = made_once old.aim old x y p q
  noted_once phases.Epoch (Asks guest number) old x y p q = made_once old.aim old x y p q
  noted_once phases.Epoch EpochsSpent old x y p q = made_once old.aim old x y p q
  noted_once phases.Epoch Nothing old x y p q = made_once old.aim old x y p q
  noted_once phases.Idle Did old x y p q = p ∙ sym q
  noted_once phases.Idle (Asks guest number) old x y p q = p ∙ sym q
  noted_once phases.Idle EpochsSpent old x y p q = p ∙ sym q
  noted_once phases.Idle Nothing old x y p q = p ∙ sym q
  noted_once (phases.Testing k) Did old x y p q = p ∙ sym q
  noted_once (phases.Testing k) (Asks guest number) old x y p q = p ∙ sym q
  noted_once (phases.Testing k) EpochsSpent old x y p q = p ∙ sym q
  noted_once (phases.Testing k) Nothing old x y p q = p ∙ sym q
  noted_once (phases.Code k) Did old x y p q = p ∙ sym q
  noted_once (phases.Code k) (Asks guest number) old x y p q = p ∙ sym q
  noted_once (phases.Code k) EpochsSpent old x y p q = p ∙ sym q
  noted_once (phases.Code k) Nothing old x y p q = p ∙ sym q
  noted_once (phases.Tary k) Did old x y p q = p ∙ sym q
  noted_once (phases.Tary k) (Asks guest number) old x y p q = p ∙ sym q
  noted_once (phases.Tary k) EpochsSpent old x y p q = p ∙ sym q
  noted_once (phases.Tary k) Nothing old x y p q = p ∙ sym q
  noted_once (phases.Bary k) Did old x y p q = p ∙ sym q
  noted_once (phases.Bary k) (Asks guest number) old x y p q = p ∙ sym q
  noted_once (phases.Bary k) EpochsSpent old x y p q = p ∙ sym q
  noted_once (phases.Bary k) Nothing old x y p q = p ∙ sym q

  pub update_once : (old x y : Stage) → IsUpdateEvent plan modules old x → IsUpdateEvent plan modules old y → x ≡ y
  update_once old x y p q =
      let turn = turn_of old.world events.Update in
      noted_once (phase_of old.world.tables) turn.answer (after_event turn.world old) x y p.is q.is

  -- ---- a load

  module _ (s : JournalState) (number : ℕ) where
    -- why it is told at once
    abbrev WhyTold : JournalLine → Type 0
    WhyTold line =
        (IsLiveAt s.policy (members_of s) number × (line ≡ lines.LoadAgain number s.policy))
        ⊎ ((IsFull modules s.loaded number × (line ≡ lines.LoadFull number))
        ⊎ ((fault : FaultNumbers) × IsFaulty plan modules s number fault
        × (line ≡ numbered_line number fault)))

    why_told : (line : JournalLine) → TellsLoad line number → LineLeads plan modules s line s → WhyTold line
    why_told (lines.LoadAgain asked policy) told legal =
        inl (
          subst (IsLiveAt s.policy (members_of s)) told legal.0.live,
          ap (λ (n : ℕ). lines.LoadAgain n policy) told ∙ ap (λ (p : ℕ). lines.LoadAgain number p) legal.0.force,
        )
    why_told (lines.LoadFull asked) told legal =
        inr (inl (subst (IsFull modules s.loaded) told legal.0, ap (λ (n : ℕ). lines.LoadFull n) told))
    why_told (lines.LoadPlace asked fault) told legal =
        inr (inr (
          numbers.Place fault,
          subst (λ (n : ℕ). IsFaulty plan modules s n (numbers.Place fault)) told legal.0,
          ap (λ (n : ℕ). lines.LoadPlace n fault) told,
        ))
    why_told (lines.LoadVerify asked fault place) told legal =
        inr (inr (
          numbers.Verify fault place,
          subst (λ (n : ℕ). IsFaulty plan modules s n (numbers.Verify fault place)) told legal.0,
          ap (λ (n : ℕ). lines.LoadVerify n fault place) told,
        ))
    why_told (lines.LoadOk asked epoch policy) told legal = absurd told
    why_told (lines.LoadVersions asked guest quiet) told legal = absurd told
    why_told (lines.LoadEpochs asked) told legal = absurd told
    why_told (lines.LoadRetired asked) told legal = absurd told
    why_told (lines.RefreshOk epoch) told legal = absurd told
    why_told (lines.RefreshVersions guest quiet) told legal = absurd told
    why_told lines.RefreshEpochs told legal = absurd told
    why_told (lines.RetireOk asked epoch policy) told legal = absurd told
    why_told (lines.RetireNotLive asked) told legal = absurd told
    why_told (lines.RetireInUse asked user) told legal = absurd told
    why_told (lines.RetireVersions asked guest quiet) told legal = absurd told
    why_told (lines.RetireEpochs asked) told legal = absurd told

    -- a fault that is told is not want of memory
    not_memory : (fault : JoinFault) (told : FaultNumbers) → numbers_of fault ≡ Some told → fault ≢ Memory
    not_memory fault told is memory =
        let none : None ≡ Some told = sym (ap numbers_of memory) ∙ is in
        absurd (cc)

    fault_once : (f g : FaultNumbers) → IsFaulty plan modules s number f
        → IsFaulty plan modules s number g → f ≡ g
    fault_once f g p q =
        let both : Some p.absent.unplaced ≡ Some q.absent.unplaced = sym p.absent.is ∙ q.absent.is in
        let one : p.absent.unplaced ≡ q.absent.unplaced = cc in
        let stands =
        subst (λ (m : Module). IsJoinFault plan.code_words (placed_modules s.loaded) (placed_modules (live_in s)) m p.fault) one
        p.stands in
        let fault : p.fault ≡ q.fault =
        one_fault plan.code_words (placed_modules s.loaded) (placed_modules (live_in s)) q.absent.unplaced p.fault q.fault
        stands q.stands
        (not_memory p.fault f p.told) (not_memory q.fault g q.told) in
        let told : Some f ≡ Some g = sym p.told ∙ ap numbers_of fault ∙ q.told in
        cc

    lines_once : (a b : JournalLine) → WhyTold a → WhyTold b → a ≡ b
    lines_once a b (inl p) (inl q) = p.1 ∙ sym q.1
    lines_once a b (inl p) (inr (inl q)) = absurd (q.0.absent (live_is_loaded s number p.0))
    lines_once a b (inl p) (inr (inr q)) = absurd (q.1.absent.absent (live_is_loaded s number p.0))
    lines_once a b (inr (inl p)) (inl q) = absurd (p.0.absent (live_is_loaded s number q.0))
    lines_once a b (inr (inl p)) (inr (inl q)) = p.1 ∙ sym q.1
    lines_once a b (inr (inl p)) (inr (inr q)) = absurd (omega (arith, p.0.full, q.1.absent.room))
    lines_once a b (inr (inr p)) (inl q) = absurd (p.1.absent.absent (live_is_loaded s number q.0))
    lines_once a b (inr (inr p)) (inr (inl q)) = absurd (omega (arith, q.0.full, p.1.absent.room))
    lines_once a b (inr (inr p)) (inr (inr q)) =
        p.2 ∙ ap (numbered_line number) (fault_once p.0 q.0 p.1 q.1) ∙ sym q.2

    -- one that is told had no place
    not_clean : (line : JournalLine) → WhyTold line → IsClean plan modules s number → ⊥
    not_clean line (inl p) clean = clean.absent.absent (live_is_loaded s number p.0)
    not_clean line (inr (inl p)) clean = omega (arith, p.0.full, clean.absent.room)
    not_clean line (inr (inr p)) clean =
        let has = p.1 in
        let both : Some has.absent.unplaced ≡ Some clean.absent.unplaced = sym has.absent.is ∙ clean.absent.is in
        let one : has.absent.unplaced ≡ clean.absent.unplaced = cc in
        not_memory has.fault p.0 has.told
        (joins_or_refused plan.code_words (placed_modules s.loaded) (placed_modules (live_in s)) clean.absent.unplaced
        clean.placed has.fault clean.joins
        (subst
        (λ (m : Module). IsJoinFault plan.code_words (placed_modules s.loaded) (placed_modules (live_in s)) m has.fault)
        one has.stands))

  module _ (sound : All IsSoundModule modules) (opening : JournalState) (old : Stage)
      (holds : Holds plan modules opening old) where
    -- all modules with the one that comes
    abbrev with : Placed → List Placed
    with placed = placed_modules old.state.loaded ++ placed ∷ []

    loaded_with : (number : ℕ) (clean : IsClean plan modules old.state number)
        → AreLoaded plan.code_words (with clean.placed)
    loaded_with number clean =
        are_loaded plan.code_words (with clean.placed)
        (series_with plan modules sound opening old holds number clean)

    begun_once : (number : ℕ) (x y : Stage) → IsBegunLoad plan modules number old x
        → IsBegunLoad plan modules number old y → x ≡ y
    begun_once number x y p q =
        let same = clean_once plan modules old.state number p.clean q.clean in
        let image : p.image ≡ q.image =
        image_once plan.code_words (with q.clean.placed) (loaded_with number q.clean) p.image q.image
        (subst (λ (placed : Placed). IsImage (DirectEdge (with placed)) (with placed) plan.code_words p.image) same
        p.of_all) q.of_all
        (subst (λ (placed : Placed). IsOrderedImage (with placed) p.image) same p.ordered) q.ordered in
        beginning_once (Loading number) (lines.LoadEpochs number) (Some q.image) old x y
        (subst (λ (i : Image). IsBeginning (Loading number) (lines.LoadEpochs number) (Some i) old x) image p.begins)
        q.begins

    pub load_once : (number : ℕ) (x y : Stage) → IsLoadEvent plan modules number old x
        → IsLoadEvent plan modules number old y → x ≡ y
    load_once number x y (inl p) (inl q) =
        let same = lines_once old.state number p.line q.line
        (why_told old.state number p.line p.told p.legal) (why_told old.state number q.line q.told q.legal) in
        p.is ∙ ap (λ (line : JournalLine). with_journal_line line old) same ∙ sym q.is
    load_once number x y (inl p) (inr q) =
        absurd (not_clean old.state number p.line (why_told old.state number p.line p.told p.legal) q.clean)
    load_once number x y (inr p) (inl q) =
        absurd (not_clean old.state number q.line (why_told old.state number q.line q.told q.legal) p.clean)
    load_once number x y (inr p) (inr q) = begun_once number x y p q
