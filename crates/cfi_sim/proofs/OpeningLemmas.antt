-- The guests of a plan at their entries, and the stage before the first line.
use Rattle.std.proofs.Common.{◌≡◌, ℕ, ◌+◌, ◌<◌, ◌++◌, List, [], ◌∷◌, length, get_or, slice_get, Some, None, All, refl, sym, ap, subst, ◌∙◌, arith, inl, inr, length-append}
use Rattle.std.proofs.lemmas.Bool.{cases_lt}
use Rattle.std.proofs.lemmas.Option.{slice_get-get_or, slice_get_within}
use Rattle.cfi_aux.specs.declared.modules.Module.{Module}
use Rattle.cfi_aux.specs.declared.placed.Placed.{Placed}
use Rattle.cfi_graph.specs.Direct.{DirectEdge}
use Rattle.cfi_ledger.specs.Plans.{CanStart}
use Rattle.cfi_ledger.specs.Opening.{HasOpened}
use Rattle.cfi_ledger.specs.Roster.{Roster, loaded_in_roster}
use Rattle.cfi_ledger.specs.Starts.{AreStarted, opened_state}
use Rattle.cfi_ledger.proofs.OpeningLemmas.{begins_from, labels, places, start_places}
use Rattle.cfi_ledger.proofs.PlanLemmas.{plan_starts}
use Rattle.cfi_ledger.proofs.StartLemmas.{started_all}
use Rattle.cfi_model.specs.Raw.{Raw, raw_opened}
use Rattle.cfi_model.specs.World.{World, opened_world}
use Rattle.cfi_plan.specs.Plan.{IsPlan}
use Rattle.cfi_plan.specs.declared.plan.Plan.{Plan}
use Rattle.cfi_policy.specs.Image.{IsImage}
use Rattle.cfi_modules.specs.Fills.{fills_of}
use Rattle.cfi_modules.specs.Image.{IsOrderedImage}
use Rattle.cfi_modules.specs.Series.{CanBeTaken}
use Rattle.cfi_modules.proofs.OrderLemmas.{left, last}
use Rattle.cfi_modules.proofs.SeriesLemmas.{item_at}
use Rattle.cfi_sim.specs.declared.limits.TheConstants.{MAX_UPDATES}
use Rattle.cfi_sim.specs.Stage.{Stage}
use Rattle.cfi_sim.specs.Valid.{IsStart}
use Rattle.cfi_sim.specs.inner.Opening.{AreGuestsIn, IsGuestIn, IsOpened}
use Rattle.cfi_sim.specs.inner.Standing.{Whole, IsUnderWay, whole_at}
use Rattle.cfi_sim.proofs.GoLemmas.{all_sound}
use Rattle.cfi_sim.proofs.journal.StartLemmas.{can, start_holds}
use Rattle.cfi_unit.specs.declared.fill.Fill.{Fill}
use Rattle.cfi_valid.specs.Journal.{members_of}
use Rattle.cfi_valid.specs.Loaded.{LoadedModule, placed_modules, start_fills, Left}
use Rattle.cfi_word.specs.declared.lists.Image.{Image}
use Rattle.cfi_world.specs.Premises.{CanOpen}

-- ---- the guests

module _ (plan : Plan) (starts : List Placed) (fills : List Fill) (entries : List (List ℕ))
    (same : entries ≡ plan.guests) (number : ℕ) (entry : List ℕ) (within : number < length entries)
    (is : entry ≡ get_or entries number entry) (guests : List Raw)
    (so_far : AreGuestsIn plan starts fills number guests) (name : List ℕ) (name_is : name ≡ entry) where
  pub there : slice_get plan.guests number ≡ Some entry
  there =
      ap (λ (gs : List (List ℕ)). slice_get gs number) (sym same)
      ∙ slice_get-get_or entries number entry within
      ∙ ap (λ (e : List ℕ). Some e) (sym is)

  each_more : (r : Raw) → IsGuestIn plan starts fills number name r → (k : ℕ) (q : Raw) (other : List ℕ)
      → slice_get (guests ++ r ∷ []) k ≡ Some q → slice_get plan.guests k ≡ Some other
      → IsGuestIn plan starts fills k other q
  each_more r stands k q other here other_is = elim (cases_lt k number) [
    | inl less ↦
        so_far.each k q other (left guests (r ∷ []) k q (omega (arith, less, so_far.count)) here) other_is
    | inr most ↦
        let inside = slice_get_within (guests ++ r ∷ []) k q here in
        let count = length-append guests (r ∷ []) in
        let at : k ≡ length guests = omega (arith, most, inside, count, so_far.count) in
        let at_number : number ≡ k = omega (arith, at, so_far.count) in
        let guest : r ≡ q = last guests r k q at here in
        let both : Some entry ≡ Some other =
        sym there ∙ ap (λ (n : ℕ). slice_get plan.guests n) at_number ∙ other_is in
        let one : entry ≡ other = cc in
        subst (λ (n : ℕ). IsGuestIn plan starts fills n other q) at_number
        (subst (λ (e : List ℕ). IsGuestIn plan starts fills number e q) (name_is ∙ one)
        (subst (IsGuestIn plan starts fills number name) guest stands))
  ]

  -- one more
  pub more_guests : (r : Raw) → IsGuestIn plan starts fills number name r → (gs : List Raw) → gs ≡ guests ++ r ∷ []
      → AreGuestsIn plan starts fills (number + 1) gs
  more_guests r stands gs gs_are =
      subst (AreGuestsIn plan starts fills (number + 1)) (sym gs_are)
      (record {
        count = omega (arith, length-append guests (r ∷ []), so_far.count);
        each = each_more r stands;
      })

-- ---- the stage before the first line

module _ (plan : Plan) (modules : List Module) (is : IsPlan plan) (named : length modules ≡ length plan.modules)
    (taken : All CanBeTaken modules) (r : Roster) (image : Image) (has : HasOpened plan modules r image) where
  abbrev starts_can : CanStart plan modules
  starts_can = plan_starts plan modules is named taken

  abbrev loaded : List LoadedModule
  loaded = loaded_in_roster r

  abbrev all : AreStarted plan modules (length plan.modules) r
  all = has.started

  module _ (fills : List Fill) (fills_are : fills ≡ fills_of r.placed) (guests : List Raw)
      (stand : AreGuestsIn plan r.placed fills (length plan.guests) guests) where
    abbrev world_at : World
    world_at = opened_world plan.code_words plan.versions plan.first image guests MAX_UPDATES plan.fuel

    abbrev stage_at : Stage
    stage_at = record {
      world = world_at;
      journal = [];
      state = opened_state plan r;
      aim = None;
      events = 0;
    }

    fills_same : fills ≡ start_fills Left (members_of stage_at.state)
    fills_same =
        fills_are ∙ ap (λ (ms : List Placed). fills_of ms) (sym (start_places plan modules starts_can r all))

    image_is : (let ms = placed_modules loaded in IsImage (DirectEdge ms) ms plan.code_words image)
    image_is =
        subst (λ (ms : List Placed). IsImage (DirectEdge ms) ms plan.code_words image)
        (sym (places plan modules starts_can r all)) (labels plan modules starts_can r all image has.image_is)

    abbrev starts_here : IsStart plan modules stage_at
    starts_here = record {
      opens = started_all plan modules r all;
      image = image;
      of_starts = image_is;
      ordered = subst (λ (ms : List Placed). IsOrderedImage ms image)
          (sym (places plan modules starts_can r all)) has.ordered;
      guests = guests;
      count = stand.count;
      each = λ number r' here.
          let within = slice_get_within guests number r' here in
          let entry = item_at plan.guests number (omega (arith, within, stand.count)) in
          let g = stand.each number r' entry.0 here entry.1 in
          record {
            entry = entry.0;
            named = entry.1;
            address = g.address;
            begins = begins_from plan loaded r.placed (start_places plan modules starts_can r all) entry.0 g.address
                g.enters;
            is = g.is ∙ ap (λ (fs : List Fill). raw_opened number g.address fs) fills_same;
          };
      world = refl;
      journal = refl;
      aim = refl;
      events = refl;
    }

    -- the world can be opened
    pub can_open : (code_words : ℕ) → code_words ≡ plan.code_words
        → CanOpen code_words plan.versions plan.first image guests plan.fuel
    can_open code_words size =
        subst (λ (n : ℕ). CanOpen n plan.versions plan.first image guests plan.fuel) (sym size)
        (can plan modules is (all_sound modules taken) stage_at starts_here)

    -- and stands before the first line
    pub opened_is : (code_words : ℕ) → code_words ≡ plan.code_words → (world : World)
        → world ≡ opened_world code_words plan.versions plan.first image guests MAX_UPDATES plan.fuel → (x : Whole)
        → x ≡ whole_at plan modules world r → IsOpened plan modules x
    opened_is code_words size world world_is x x_is =
        let same : world ≡ world_at =
        world_is
        ∙ ap (λ (n : ℕ). opened_world n plan.versions plan.first image guests MAX_UPDATES plan.fuel) size in
        subst (IsOpened plan modules) (sym x_is)
        (subst (λ (w : World). IsOpened plan modules (whole_at plan modules w r)) (sym same)
        (record { plan_is = refl; modules_are = refl; starts = starts_here }))

-- ---- so it is under way

pub opened_under : (plan : Plan) (modules : List Module) → IsPlan plan → All CanBeTaken modules
    → length modules ≡ length plan.modules → (x : Whole) → IsOpened plan modules x → IsUnderWay x
opened_under plan modules is taken named x opened =
    let here : IsUnderWay (record { plan = plan; modules = modules; stage = x.stage }) = record {
      plan = is;
      taken = taken;
      named = named;
      going = record {
        opening = x.stage.state;
        opens = opened.starts.opens;
        holds = start_holds plan modules is (all_sound modules taken) x.stage opened.starts;
      };
    } in
    subst (λ (ms : List Module). IsUnderWay (record { plan = x.plan; modules = ms; stage = x.stage }))
    (sym opened.modules_are)
    (subst (λ (p : Plan). IsUnderWay (record { plan = p; modules = modules; stage = x.stage })) (sym opened.plan_is)
    here)
