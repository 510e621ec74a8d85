-- Loads, as a simulation under way makes them.
use Rattle.std.proofs.Common.{◌≡◌, ◌⊎◌, ℕ, ◌+◌, ◌<◌, ◌≤◌, ◌++◌, Bool, true, false, List, [], ◌∷◌, length, get_or, Some, None, refl, sym, ◌∙◌, ap, subst, arith, inl, inr}
use Rattle.std.specs.Prelude.{option_map}
use Rattle.cfi_aux.specs.Sound.{IsSoundModule}
use Rattle.cfi_aux.specs.declared.modules.Module.{Module}
use Rattle.cfi_aux.specs.declared.placed.Placed.{Placed}
use Rattle.cfi_graph.specs.Direct.{DirectEdge}
use Rattle.cfi_policy.specs.Image.{IsImage}
use Rattle.cfi_plan.specs.declared.journal.JournalLine.{JournalLine}
use Rattle.cfi_plan.specs.declared.journal.JournalLine.TheVariants as lines
use Rattle.cfi_plan.specs.declared.journal.ModuleLine.{ModuleLine}
use Rattle.cfi_modules.proofs.OrderLemmas.{joins_or_refused}
use Rattle.cfi_modules.proofs.SeriesLemmas.{item_at}
use Rattle.std.proofs.lemmas.Option.{slice_get-get_or}
use Rattle.cfi_modules.specs.declared.fault.JoinFault.{JoinFault}
use Rattle.cfi_modules.specs.declared.fault.JoinFault.TheVariants.{Memory}
use Rattle.cfi_modules.specs.declared.numbers.FaultNumbers.{FaultNumbers}
use Rattle.cfi_modules.specs.declared.numbers.FaultNumbers.TheVariants as numbers
use Rattle.cfi_modules.specs.Numbers.{numbers_of}
use Rattle.cfi_modules.specs.Image.{IsOrderedImage}
use Rattle.cfi_modules.specs.Order.{IsJoinFault, Joins}
use Rattle.cfi_modules.specs.Series.{IsRefusedBy}
use Rattle.cfi_modules.proofs.LiveLemmas.{all_live_in}
use Rattle.cfi_sim.specs.declared.aim.Aim.TheVariants.{Loading}
use Rattle.cfi_sim.specs.Events.{TellsLoad, IsLoadEvent}
use Rattle.cfi_sim.specs.Reach.{OfLoad}
use Rattle.cfi_sim.specs.Schedule.{PassesNoLimit}
use Rattle.cfi_sim.specs.Stage.{Stage, with_journal_line}
use Rattle.cfi_ledger.specs.Loads.{IsListed, IsProspect, IsUnlisted}
use Rattle.cfi_ledger.specs.declared.prospect.Prospect.{Prospect}
use Rattle.cfi_ledger.specs.declared.prospect.Prospect.TheVariants.{Again, Retired}
use Rattle.cfi_ledger.specs.Roster.{IsImageOfRoster, IsOffer, Offer, Roster, live_placed, loaded_in_roster, origin_of, series_of, with_offer}
use Rattle.cfi_ledger.proofs.NumberedLemmas.{from_numbers}
use Rattle.cfi_ledger.proofs.RosterLemmas.{listed_loaded, unlisted_absent}
use Rattle.cfi_sim.specs.inner.Making.{HasMadeWithin, MakesBy, CanBegin, BeginsBy, with_told}
use Rattle.cfi_sim.specs.declared.standing.Standing.TheInside.{Inside}
use Rattle.cfi_sim.specs.declared.pending.Pending.TheVariants.{Load}
use Rattle.cfi_sim.specs.inner.Pending.{aim_by}
use Rattle.cfi_sim.specs.inner.Standing.{Whole, RosterFits, IsOffered, IsUnderWay, PendingFits, whole_inside}
use Rattle.cfi_sim.proofs.BeginLemmas.{under_after, updates_few, done_so}
use Rattle.cfi_sim.proofs.journal.BegunLemmas.{load_may}
use Rattle.cfi_sim.proofs.journal.ComingLemmas.{all_live, live_is_loaded}
use Rattle.cfi_sim.proofs.GoLemmas.{all_sound}
use Rattle.cfi_valid.proofs.KeptLemmas.{many_are, places_are}
use Rattle.cfi_valid.specs.Joining.{IsUnloaded}
use Rattle.cfi_valid.specs.Journal.{live_in, IsClean, LineLeads}
use Rattle.cfi_valid.specs.Loaded.{LoadedModule, placed_modules, planned_name, IsLoaded}
use Rattle.cfi_valid.specs.NumberedLine.{numbered_line}
use Rattle.cfi_valid.specs.declared.limits.TheConstants.{MAX_LOADED}
use Rattle.cfi_word.specs.declared.lists.Image.{Image}
use Rattle.cfi_world.proofs.StoringLemmas.{idle_is}

-- the image of modules and one more, which joins them
pub record IsImageWith (code_words : ℕ) (before live : List Placed) (m : Module) (image : Image) : Type 0 where
  pub placed : Placed
  pub joins : Joins code_words before live m placed
  pub is : (let all = before ++ placed ∷ [] in IsImage (DirectEdge all) all code_words image)
  pub ordered : IsOrderedImage (before ++ placed ∷ []) image

module _ (x : Whole) (under : IsUnderWay x) (within : PassesNoLimit x.stage) (number : ℕ) where
  abbrev before : List Placed
  before = placed_modules x.stage.state.loaded

  abbrev live : List Placed
  live = placed_modules (live_in x.stage.state)

  -- a line that is told at once
  pub told_load : (line : JournalLine) → TellsLoad line number
      → LineLeads x.plan x.modules x.stage.state line x.stage.state → (y : Whole) → y ≡ with_told line x
      → HasMadeWithin (IsLoadEvent x.plan x.modules number) x y
  told_load line told legal y is =
      let new : Stage = with_journal_line line x.stage in
      let event : IsLoadEvent x.plan x.modules number x.stage new =
      inl (record { line = line; told = told; legal = legal; is = refl }) in
      let room = updates_few x under in
      subst (HasMadeWithin (IsLoadEvent x.plan x.modules number) x) (sym is)
      (record {
        done = done_so (IsLoadEvent x.plan x.modules number) x (with_told line x) refl event
            (under_after x under (OfLoad number) new event room);
        within = record { events = within.events; updates = room };
      })

  module _ (absent : IsUnloaded x.modules x.stage.state.loaded number) where
    -- a fault is told at once
    pub fault_load : (fault : JoinFault) (told : FaultNumbers)
        → IsJoinFault x.plan.code_words before live absent.unplaced fault → numbers_of fault ≡ Some told → (y : Whole) → y ≡ with_told (numbered_line number told) x
        → HasMadeWithin (IsLoadEvent x.plan x.modules number) x y
    fault_load fault (numbers.Place kind) stands told y is =
        told_load (lines.LoadPlace number kind) refl
        (record { absent = absent; fault = fault; stands = stands; told = told }, refl) y is
    fault_load fault (numbers.Verify kind place) stands told y is =
        told_load (lines.LoadVerify number kind place) refl
        (record { absent = absent; fault = fault; stands = stands; told = told }, refl) y is

    -- or an update begins
    module _ (image : Image) (with : IsImageWith x.plan.code_words before live absent.unplaced image) where
      abbrev clean : IsClean x.plan x.modules x.stage.state number
      clean = record { absent = absent; placed = with.placed; joins = with.joins }

      pub load_room : CanBegin x.stage.world (Some image)
      load_room = λ idle few.
          (load_may x.plan x.modules (all_sound x.modules under.taken) under.going.opening x.stage under.going.holds
          number clean image with.is (idle_is x.stage.world.tables idle) (omega (arith, few))).0

      no_fault : (told : FaultNumbers) (other : IsUnloaded x.modules x.stage.state.loaded number) (fault : JoinFault)
          → IsJoinFault x.plan.code_words before live other.unplaced fault → numbers_of fault ≡ Some told → ⊥
      no_fault told other fault stands is =
          let both : Some other.unplaced ≡ Some absent.unplaced = sym other.is ∙ absent.is in
          let same : other.unplaced ≡ absent.unplaced = cc in
          let memory : fault ≡ Memory =
          joins_or_refused x.plan.code_words before live absent.unplaced with.placed fault with.joins
          (subst (λ (m : Module). IsJoinFault x.plan.code_words before live m fault) same stands) in
          let none : None ≡ Some told = sym (ap numbers_of memory) ∙ is in
          absurd (cc)

      not_told : (line : JournalLine) → TellsLoad line number
          → LineLeads x.plan x.modules x.stage.state line x.stage.state → ⊥
      not_told (lines.LoadAgain asked policy) told legal =
          absent.absent (subst (IsLoaded x.stage.state.loaded) told (live_is_loaded x.stage.state asked legal.0.live))
      not_told (lines.LoadFull asked) told legal = (let full = legal.0.full in let room = absent.room in omega arith)
      not_told (lines.LoadPlace asked fault) told legal =
          let has = subst (λ (n : ℕ). LineLeads x.plan x.modules x.stage.state (lines.LoadPlace n fault) x.stage.state)
          told legal in
          no_fault (numbers.Place fault) has.0.absent has.0.fault has.0.stands has.0.told
      not_told (lines.LoadVerify asked fault place) told legal =
          let has = subst
          (λ (n : ℕ). LineLeads x.plan x.modules x.stage.state (lines.LoadVerify n fault place) x.stage.state)
          told legal in
          no_fault (numbers.Verify fault place) has.0.absent has.0.fault has.0.stands has.0.told
      not_told (lines.LoadOk asked epoch policy) told legal = told
      not_told (lines.LoadVersions asked guest quiet) told legal = told
      not_told (lines.LoadEpochs asked) told legal = told
      not_told (lines.LoadRetired asked) told legal = told
      not_told (lines.RefreshOk epoch) told legal = told
      not_told (lines.RefreshVersions guest quiet) told legal = told
      not_told lines.RefreshEpochs told legal = told
      not_told (lines.RetireOk asked epoch policy) told legal = told
      not_told (lines.RetireNotLive asked) told legal = told
      not_told (lines.RetireInUse asked user) told legal = told
      not_told (lines.RetireVersions asked guest quiet) told legal = told
      not_told (lines.RetireEpochs asked) told legal = told

      pub load_by : (y : Whole) (happened : Bool)
          → BeginsBy (Loading number) (lines.LoadEpochs number) (Some image) x y happened
          → MakesBy (IsLoadEvent x.plan x.modules number) x y happened
      load_by y true has =
          let event : IsLoadEvent x.plan x.modules number x.stage y.stage =
          inr (record {
            clean = clean;
            image = image;
            of_all = with.is;
            ordered = with.ordered;
            begins = has.begins;
          }) in
          record {
            done = done_so (IsLoadEvent x.plan x.modules number) x y has.is event
                (under_after x under (OfLoad number) y.stage event has.within.updates);
            within = has.within;
          }
      load_by y false none = λ s event fits. by_event s fits event
        where
          by_event : (s : Stage) → PassesNoLimit s → IsLoadEvent x.plan x.modules number x.stage s → ⊥
          by_event s fits (inl told) = not_told told.line told.told told.legal
          by_event s fits (inr load) = none (Some load.image) s load.begins fits

-- ---- as it is kept

-- a module that is loaded has a place
pub loaded_place : (r : Roster) (number : ℕ) (p : Prospect)
    → ((at : ℕ) × (p ≡ Again at)) ⊎ ((at : ℕ) × (p ≡ Retired at)) → IsProspect r number p
    → (at : ℕ) × IsListed r number at
loaded_place r number p (inl again) is = (again.0, (subst (IsProspect r number) again.1 is).0)
loaded_place r number p (inr retired) is = (retired.0, (subst (IsProspect r number) retired.1 is).0)

-- the places are those of the loaded modules
pub placed_is : (a : Inside) → RosterFits a → a.force.roster.placed ≡ placed_modules (loaded_in_roster a.force.roster)
placed_is a kept = sym (places_are origin_of a.force.roster.lines a.force.roster.placed kept.roster_is.many)

-- what joins those that are kept joins these, since all are live
pub joins_kept : (a : Inside) → RosterFits a
    → (P : (code_words : ℕ) (before live : List Placed) → Type 0)
    → (let r = a.force.roster in P r.code_words r.placed (live_placed r))
    → (let ms = placed_modules (loaded_in_roster a.force.roster) in P a.plan.now.code_words ms ms)
joins_kept a kept P holds =
    let r = a.force.roster in
    subst (λ (ms : List Placed). P a.plan.now.code_words ms ms) (placed_is a kept)
    (subst (λ (ms : List Placed). P a.plan.now.code_words r.placed ms) (all_live_in (series_of r) kept.live)
    (subst (λ (n : ℕ). P n r.placed (live_placed r)) kept.roster_is.code_words_are holds))

module _ (a : Inside) (kept : RosterFits a) (x : Whole) (is : whole_inside a ≡ x) (under : IsUnderWay x)
    (within : PassesNoLimit x.stage) (number : ℕ) (known : number < length x.plan.modules) where
  abbrev here : Whole
  here = whole_inside a

  -- with other loaded modules
  abbrev at_roster : Roster → Whole
  at_roster r = whole_inside (record a { force = record a.force { roster = r } })

  under_here : IsUnderWay here
  under_here = subst IsUnderWay (sym is) under

  live_here : live_in here.stage.state ≡ here.stage.state.loaded
  live_here =
      let tables = under_here.going.holds.agrees.tables in
      all_live here.stage.state tables.stay tables.low

  -- and those that are live
  joins_live : (P : (code_words : ℕ) (before live : List Placed) → Type 0)
      → (let r = a.force.roster in P r.code_words r.placed (live_placed r))
      → P here.plan.code_words (placed_modules here.stage.state.loaded) (placed_modules (live_in here.stage.state))
  joins_live P holds =
      subst
      (λ (ls : List LoadedModule). P here.plan.code_words (placed_modules here.stage.state.loaded) (placed_modules ls))
      (sym live_here) (joins_kept a kept P holds)

  within_here : PassesNoLimit here.stage
  within_here = subst (λ (w : Whole). PassesNoLimit w.stage) (sym is) within

  known_here : number < length here.modules
  known_here =
      let known_plan = subst (λ (w : Whole). number < length w.plan.modules) (sym is) known in
      omega (arith, known_plan, under_here.named)

  back : (y : Whole) → HasMadeWithin (IsLoadEvent here.plan here.modules number) here y
      → HasMadeWithin (IsLoadEvent x.plan x.modules number) x y
  back y has = subst (λ (w : Whole). HasMadeWithin (IsLoadEvent w.plan w.modules number) w y) is has

  -- it is loaded, and so it is live
  pub again_load : (at : ℕ) → IsListed a.force.roster number at → (y : Whole)
      → y ≡ with_told (lines.LoadAgain number a.force.policy) here
      → HasMadeWithin (IsLoadEvent x.plan x.modules number) x y
  again_load at listed y y_is =
      let one = item_at a.force.roster.placed at listed.within in
      back y (told_load here under_here within_here number (lines.LoadAgain number a.force.policy) refl (
        record {
          live = subst (λ (ls : List LoadedModule). IsLoaded ls number) (sym live_here)
              (listed_loaded a.force.roster kept.roster_is.many number at listed one.0);
          force = refl;
        },
        refl,
      ) y y_is)

  pub absent_load : IsUnlisted a.force.roster number → IsLoaded x.stage.state.loaded number → ⊥
  absent_load none =
      subst (λ (w : Whole). IsLoaded w.stage.state.loaded number → ⊥) is
      (unlisted_absent a.force.roster kept.roster_is.many number none)

  -- no further one may be
  pub full_load : IsUnlisted a.force.roster number → MAX_LOADED ≤ length a.force.roster.lines → (y : Whole)
      → y ≡ with_told (lines.LoadFull number) here → HasMadeWithin (IsLoadEvent x.plan x.modules number) x y
  full_load none full y y_is =
      let many = many_are origin_of a.force.roster.lines a.force.roster.placed kept.roster_is.many in
      back y (told_load here under_here within_here number (lines.LoadFull number) refl (
        record {
          known = known_here;
          absent = unlisted_absent a.force.roster kept.roster_is.many number none;
          full = omega (arith, many, kept.roster_is.many, full);
        },
        refl,
      ) y y_is)

  pub room_load : length a.force.roster.lines < MAX_LOADED → length x.stage.state.loaded < MAX_LOADED
  room_load few =
      let many = many_are origin_of a.force.roster.lines a.force.roster.placed kept.roster_is.many in
      subst (λ (w : Whole). length w.stage.state.loaded < MAX_LOADED) is (omega (arith, many, kept.roster_is.many, few))

  -- one that is not loaded
  module _ (absent : IsLoaded x.stage.state.loaded number → ⊥) (room : length x.stage.state.loaded < MAX_LOADED)
      (m : Module) (m_is : m ≡ get_or a.modules.now number m) where
    abbrev unloaded : IsUnloaded here.modules here.stage.state.loaded number
    unloaded = record {
      unplaced = m;
      is = slice_get-get_or a.modules.now number m known_here ∙ ap (λ (one : Module). Some one) (sym m_is);
      absent = subst (λ (w : Whole). IsLoaded w.stage.state.loaded number → ⊥) (sym is) absent;
      room = subst (λ (w : Whole). length w.stage.state.loaded < MAX_LOADED) (sym is) room;
    }

    -- it is offered, with the image of all
    module _ (offer : Offer)
        (its : IsOffer number (planned_name a.plan.now.modules number) (a.force.policy + 1) m a.force.roster offer)
        (image : Image) (of : IsImageOfRoster (with_offer offer a.force.roster) image)
        (ordered : IsOrderedImage (with_offer offer a.force.roster).placed image) where
      abbrev with : IsImageWith a.force.roster.code_words a.force.roster.placed (live_placed a.force.roster) m image
      with = record { placed = offer.placed; joins = its.joins; is = of; ordered = ordered }

      with_here : IsImageWith here.plan.code_words (placed_modules here.stage.state.loaded)
          (placed_modules (live_in here.stage.state)) m image
      with_here = joins_live (λ code_words before live. IsImageWith code_words before live m image) with

      pub may_load : CanBegin a.world (Some image)
      may_load = load_room here under_here within_here number unloaded image with_here

      number_is : offer.line.number ≡ number
      number_is = ap (λ (l : ModuleLine). l.number) its.line_is

      offered : PendingFits here (Load offer)
      offered =
          subst (λ (n : ℕ). IsOffered here.plan here.modules here.stage.state.loaded a.force.policy n offer)
          (sym number_is) (record {
            unplaced = m;
            is = unloaded.is;
            sound = subst IsSoundModule (sym m_is) (all_sound a.modules.now under_here.taken number m known_here);
            joins = joins_kept a kept (λ code_words before live. Joins code_words before live m offer.placed) its.joins;
            line_is = its.line_is;
          })

      pub offer_fits : (r : Roster) → r ≡ a.force.roster → PendingFits (at_roster r) (Load offer)
      offer_fits r same =
          subst (λ (t : Roster). PendingFits (at_roster t) (Load offer)) (sym same) offered

      pub begun_load : (r : Roster) → r ≡ a.force.roster → (y : Whole) (happened : Bool)
          → BeginsBy (aim_by (Load offer)) (lines.LoadEpochs number) (Some image)
          (at_roster r) y happened
          → MakesBy (IsLoadEvent x.plan x.modules number) x y happened
      begun_load r same y happened begins =
          subst (λ (w : Whole). MakesBy (IsLoadEvent w.plan w.modules number) w y happened) is
          (load_by here under_here within_here number unloaded image with_here y happened
          (subst (λ (n : ℕ). BeginsBy (Loading n) (lines.LoadEpochs number) (Some image) here y happened) number_is
          (subst
          (λ (t : Roster). BeginsBy (aim_by (Load offer)) (lines.LoadEpochs number) (Some image)
          (at_roster t) y happened) same begins)))

    pub refused_load : (fault : JoinFault) → IsRefusedBy (series_of a.force.roster) m fault → (line : JournalLine) → Some line ≡ option_map (numbered_line number) (numbers_of fault) → (r : Roster)
        → r ≡ a.force.roster → (y : Whole) → y ≡ with_told line (at_roster r)
        → HasMadeWithin (IsLoadEvent x.plan x.modules number) x y
    refused_load fault why line line_is r same y y_is =
        let told = from_numbers number (numbers_of fault) line (sym line_is) in
        back y (fault_load here under_here within_here number unloaded fault told.0
        (joins_live (λ code_words before live. IsJoinFault code_words before live m fault) why) told.1 y
        (y_is
        ∙ ap (λ (t : Roster). with_told line (at_roster t)) same
        ∙ ap (λ (l : JournalLine). with_told l here) told.2))
