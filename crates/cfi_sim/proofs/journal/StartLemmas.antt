-- The world before the first line agrees with the journal.
use Rattle.std.proofs.Common.{◌≡◌, ℕ, ◌-◌, ◌<◌, ◌≤◌, Bool, List, [], ◌∷◌, length, take, get_or, replicate, slice_get, Option, Some, None, refl, sym, ◌∙◌, ap, subst, arith, inl, inr}
use Rattle.std.specs.List.{All, AllByRecursion}
use Rattle.std.proofs.Math.Seq.{take-length}
use Rattle.std.proofs.lemmas.Bool.{cases_lt}
use Rattle.std.proofs.lemmas.List.{get_or-replicate, get_or_append_left, get_or-append_right, get_or_past, length-replicate}
use Rattle.std.proofs.lemmas.List.Elements.{recursion_from_All}
use Rattle.cfi_aux.specs.declared.modules.Module.{Module}
use Rattle.cfi_aux.specs.declared.placed.Placed.{Placed}
use Rattle.cfi_aux.specs.Sound.{IsSoundModule}
use Rattle.cfi_model.specs.declared.quiet.Point.TheVariants.{Outside}
use Rattle.cfi_model.specs.declared.quiet.Quiet.{Quiet}
use Rattle.cfi_model.specs.declared.quiet.Quiet.TheVariants.{Unregistered, Published}
use Rattle.cfi_model.specs.Closed.{IsStartIn}
use Rattle.cfi_model.specs.InForce.{in_force}
use Rattle.cfi_model.specs.Raw.{Raw}
use Rattle.cfi_model.specs.Words.{Tables, entry_at}
use Rattle.cfi_model.specs.World.{World, first_entry, opened_world, quiet_of, point_of}
use Rattle.cfi_plan.specs.declared.plan.Plan.{Plan}
use Rattle.cfi_plan.specs.Plan.{IsPlan}
use Rattle.cfi_modules.specs.Entry.{IsEntryIn}
use Rattle.cfi_modules.specs.Loaded.{AreLoaded}
use Rattle.cfi_modules.specs.Series.{IsSeries}
use Rattle.cfi_modules.proofs.GraphLemmas.{are_loaded}
use Rattle.cfi_modules.proofs.ImageLemmas.{closed, entry_start}
use Rattle.cfi_modules.proofs.PrefixLemmas.{data_lies}
use Rattle.cfi_modules.proofs.SeriesLemmas.{item_at}
use Rattle.cfi_sim.specs.declared.limits.TheConstants.{MAX_UPDATES}
use Rattle.cfi_ledger.specs.Policies.{IsPolicyOf}
use Rattle.cfi_sim.specs.Agrees.{NumbersAreApart, IsOfPlan, HasFound, HasComingEntry, coming, TablesAgree, GuestsAgree, WorldAgrees}
use Rattle.cfi_sim.specs.declared.aim.Aim.{Aim}
use Rattle.cfi_sim.specs.Stage.{Stage}
use Rattle.cfi_sim.specs.Valid.{IsStart}
use Rattle.cfi_sim.specs.Stands.{Holds}
use Rattle.cfi_sim.proofs.journal.BegunLemmas.{some_fills}
use Rattle.cfi_sim.proofs.NumbersLemmas.{starts_apart}
use Rattle.cfi_sim.proofs.journal.LegalLemmas.{start_stands}
use Rattle.cfi_sim.proofs.journal.ComingLemmas.{idle_comes, all_loaded, among, policy_of_all}
use Rattle.cfi_valid.specs.Guests.{EntersAt}
use Rattle.cfi_valid.specs.Journal.{members_of}
use Rattle.cfi_valid.specs.Loaded.{LoadedModule, placed_modules, loaded_by, start_fills, Left}
use Rattle.cfi_valid.proofs.BareLemmas.{not_bare}
use Rattle.cfi_valid.proofs.SeriesLemmas.{journal_series}
use Rattle.cfi_word.specs.declared.limits.TheConstants.{GUESTS}
use Rattle.cfi_word.specs.declared.lists.Image.{Image}
use Rattle.cfi_world.specs.Premises.{IsOpened, CanOpen}
use Rattle.cfi_world.specs.Worlds.{IsWorld}
use Rattle.cfi_world.proofs.OpeningLemmas.{opened_is}
use Rattle.cfi_world.proofs.StoringLemmas.{force_newest}

-- ---- lists

pub low_first : (policy : ℕ) (loaded : List LoadedModule) → AllByRecursion (λ (l : LoadedModule). l.policy ≡ 0) loaded
    → AllByRecursion (λ (l : LoadedModule). l.policy ≤ policy) loaded
low_first policy [] all = tt
low_first policy (l ∷ loaded) all = (omega (arith, all.0), low_first policy loaded all.1)

module _ (plan : Plan) (modules : List Module) (is : IsPlan plan) (sound : All IsSoundModule modules) (s : Stage)
    (starts : IsStart plan modules s) where
  abbrev loaded : List LoadedModule
  loaded = s.state.loaded

  abbrev ms : List Placed
  ms = placed_modules loaded

  series : IsSeries plan.code_words ms
  series =
      journal_series plan modules [] s.state is.code_words sound
      (record { opening = s.state; opens = starts.opens; leads = refl })

  pub are : AreLoaded plan.code_words ms
  are = are_loaded plan.code_words ms series

  low : (policy : ℕ) → AllByRecursion (λ (l : LoadedModule). l.policy ≤ policy) loaded
  low policy = low_first policy loaded (recursion_from_All _ loaded starts.opens.policies)

  abbrev image : Image
  image = starts.image

  -- ---- the world

  abbrev pub world : World
  world = opened_world plan.code_words plan.versions plan.first image starts.guests MAX_UPDATES plan.fuel

  -- a guest's entry is a start
  pub guest_start : (number : ℕ) (r : Raw) (there : slice_get starts.guests number ≡ Some r)
      → IsStartIn image (starts.each number r there).address
  guest_start number r there =
      let at = starts.each number r there in
      let entry : IsEntryIn (placed_modules (loaded_by 0 loaded)) at.entry at.address =
      subst (λ (bare : Bool). EntersAt bare loaded at.entry at.address) (not_bare plan is) at.begins in
      let first : placed_modules (loaded_by 0 loaded) ≡ take (length ms) ms =
      ap (λ (ls : List LoadedModule). placed_modules ls) (all_loaded 0 loaded (low 0)) ∙ sym (take-length ms) in
      entry_start plan.code_words ms are ms image (among ms, starts.of_starts) (length ms) at.entry at.address
      (subst (λ (ps : List Placed). IsEntryIn ps at.entry at.address) first entry)

  guest_opened : (number : ℕ) (r : Raw) → slice_get starts.guests number ≡ Some r → IsOpened image number r
  guest_opened number r there = record {
    entry = (starts.each number r there).address;
    fills = start_fills Left (members_of s.state);
    inside = some_fills _ loaded (data_lies plan.code_words ms series);
    is = (starts.each number r there).is;
    start = guest_start number r there;
  }

  pub can : CanOpen plan.code_words plan.versions plan.first image starts.guests plan.fuel
  can = record {
    versions_least = is.versions.0;
    versions_most = is.versions.1;
    first_most = is.first;
    closed = closed plan.code_words ms are ms image (among ms, starts.of_starts);
    few = omega (arith, starts.count, is.guests.most);
    opened = guest_opened;
    fuel_least = is.fuel.0;
  }

  world_is : IsWorld world
  world_is =
      opened_is plan.code_words plan.versions plan.first image starts.guests MAX_UPDATES plan.fuel is.code_words can
      (omega arith) (omega (arith, is.fuel.1))

  -- ---- the tables

  abbrev t : Tables
  t = world.tables

  pub none_later : in_force t ≡ 0
  none_later = force_newest t (omega arith)

  comes_none : coming t ≡ None
  comes_none = idle_comes t refl (force_newest t (omega arith))

  entries : (number : ℕ) → number ≤ in_force t → IsPolicyOf plan.code_words (members_of s.state) (entry_at t number)
  entries number most =
      let first : 0 ≡ number = omega (arith, most, none_later) in
      subst (λ (k : ℕ). IsPolicyOf plan.code_words (members_of s.state) (entry_at t k)) first
      (policy_of_all plan.code_words (members_of s.state) starts.opens.stay (first_entry image) (low 0) are
      starts.of_starts)

  -- the numbers of start modules
  numbers_apart : NumbersAreApart loaded
  numbers_apart = starts_apart plan.modules loaded 0 starts.opens.starts

  tables_agree : (aim : Option Aim) → aim ≡ None → TablesAgree plan modules s.state aim t
  tables_agree aim none = record {
    code_words = refl;
    versions = refl;
    first = refl;
    epoch = omega (arith, starts.opens.epoch, none_later);
    policy = starts.opens.policy ∙ sym (ap (λ (k : ℕ). (entry_at t k).policy) none_later);
    series = series;
    apart = numbers_apart;
    low = low s.state.policy;
    few = omega (arith, starts.opens.policy);
    stay = starts.opens.stay;
    entries = entries;
    aims = subst (λ (a : Option Aim). HasComingEntry plan modules s.state (entry_at t (in_force t)) a (coming t))
        (sym none)
        (subst (HasComingEntry plan modules s.state (entry_at t (in_force t)) None) (sym comes_none) tt);
  }

  -- ---- the guests

  same_quiet : (a b : ℕ) → Published a ≡ Published b → a ≡ b
  same_quiet a b e = cc

  never_quiet : (quiet : ℕ) → Unregistered ≡ Published quiet → ⊥
  never_quiet quiet e = absurd (cc)

  abbrev registered : List Quiet
  registered = replicate (length starts.guests) (Published plan.first)

  abbrev others : List Quiet
  others = replicate (GUESTS - length starts.guests) Unregistered

  other_quiet : (guest : ℕ) → length starts.guests ≤ guest → quiet_of world guest ≡ Unregistered
  other_quiet guest past =
      let n = length starts.guests in
      get_or-append_right registered others n guest Unregistered (length-replicate n (Published plan.first)) past
      ∙ by_place (guest - n)
    where
      by_place : (k : ℕ) → get_or others k Unregistered ≡ Unregistered
      by_place k = elim (cases_lt k (GUESTS - length starts.guests)) [
        | inl less ↦ get_or-replicate (GUESTS - length starts.guests) k Unregistered Unregistered less
        | inr more ↦ get_or_past others k Unregistered
            (omega (arith, more, length-replicate (GUESTS - length starts.guests) Unregistered))
      ]

  own_quiet : (guest : ℕ) → guest < length starts.guests → quiet_of world guest ≡ Published plan.first
  own_quiet guest less =
      get_or_append_left registered others Unregistered guest
      (omega (arith, less, length-replicate (length starts.guests) (Published plan.first)))
      ∙ get_or-replicate (length starts.guests) guest (Published plan.first) Unregistered less

  quiets : (guest quiet : ℕ) → quiet_of world guest ≡ Published quiet → IsOfPlan plan world guest quiet
  quiets guest quiet published = elim (cases_lt guest (length starts.guests)) [
    | inl less ↦
        let same = same_quiet plan.first quiet (sym (own_quiet guest less) ∙ published) in
        let there = item_at starts.guests guest less in
        record {
          known = omega (arith, less, starts.count);
          r = there.0;
          there = there.1;
          least = omega (arith, same);
        }
    | inr past ↦ absurd (never_quiet quiet (sym (other_quiet guest past) ∙ published))
  ]

  points : (guest : ℕ) → HasFound plan.first (point_of world guest)
  points guest = elim (cases_lt guest GUESTS) [
    | inl less ↦ subst (HasFound plan.first) (sym (get_or-replicate GUESTS guest Outside Outside less)) tt
    | inr past ↦
        subst (HasFound plan.first)
        (sym (get_or_past (replicate GUESTS Outside) guest Outside
        (omega (arith, past, length-replicate GUESTS Outside)))) tt
  ]

  guests_agree : GuestsAgree plan world
  guests_agree = record { count = starts.count; fuel = refl; room = refl; quiets = quiets; points = points }

  -- ---- both

  pub start_agrees : WorldAgrees plan modules s
  start_agrees = record {
    world = subst IsWorld (sym starts.world) world_is;
    tables = subst (λ (w : World). TablesAgree plan modules s.state s.aim w.tables) (sym starts.world)
        (tables_agree s.aim starts.aim);
    guests = subst (GuestsAgree plan) (sym starts.world) guests_agree;
  }

  pub start_holds : Holds plan modules s.state s
  start_holds = record { stands = start_stands plan modules s starts; agrees = start_agrees }
