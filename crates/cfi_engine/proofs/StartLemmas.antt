-- Where the guests of a plan start, and with which data.
use Rattle.std.proofs.Common.{◌≡◌, ◌≢◌, ℕ, ◌-◌, ◌*◌, ◌<◌, Bool, true, false, cond, List, [], ◌∷◌, length, map, Option, Some, All, refl, sym, ap, subst, ◌∙◌, arith}
use Rattle.std.specs.List.{slice_get, cons_option, Contains}
use Rattle.std.proofs.Math.Seq.{take-length}
use Rattle.std.proofs.lemmas.List.{length-map, take_all}
use Rattle.std.proofs.lemmas.List.Elements.{All-append}
use Rattle.std.proofs.lemmas.Option.{get_or_from_slice_get, none-some, same_Some, slice_get_within}
use Rattle.cfi_aux.specs.Sound.{IsSoundModule}
use Rattle.cfi_aux.specs.declared.modules.Module.{Module}
use Rattle.cfi_aux.specs.declared.placed.Placed.{Placed}
use Rattle.cfi_guest_run.specs.Runner.{IsOpening}
use Rattle.cfi_graph.proofs.BoundLemmas.{contains_at}
use Rattle.cfi_graph.specs.Named.{entry_among}
use Rattle.cfi_loader.specs.Ledger.{Ledger, IsLedger}
use Rattle.cfi_ledger.specs.Policies.{IsEntryOf}
use Rattle.cfi_ledger.proofs.DueLemmas.{starts_first}
use Rattle.cfi_model.specs.Closed.{IsStartIn}
use Rattle.cfi_model.specs.Data.{LiesInData}
use Rattle.cfi_model.specs.Raw.{raw_opened}
use Rattle.cfi_model.specs.Words.{no_entry}
use Rattle.cfi_model.specs.declared.history.Entry.{Entry as TableEntry}
use Rattle.cfi_plan.specs.Draft.{starts}
use Rattle.cfi_plan.specs.declared.plan.Plan.{Plan}
use Rattle.cfi_plan.specs.declared.plan.PlanModule.{PlanModule}
use Rattle.cfi_modules.specs.Entry.{IsEntryIn}
use Rattle.cfi_modules.specs.Fills.{fills_of}
use Rattle.cfi_modules.specs.Loaded.{AreLoaded, IsLoadedImage}
use Rattle.cfi_modules.specs.Order.{Joins, names_of}
use Rattle.cfi_modules.specs.Room.{room_after}
use Rattle.cfi_modules.proofs.ImageLemmas.{entry_start, function_start}
use Rattle.cfi_modules.proofs.PlacedLemmas.{fits}
use Rattle.cfi_modules.proofs.CellLemmas.{cells_lie}
use Rattle.cfi_modules.proofs.PrefixLemmas.{data_lies}
use Rattle.cfi_tables.specs.Keeping.{last_of}
use Rattle.cfi_tables.specs.Key.{Key}
use Rattle.cfi_tables.specs.Views.{admitted}
use Rattle.cfi_tables.specs.declared.view.PassView.{PassView}
use Rattle.cfi_unit.specs.declared.fill.Fill.{Fill}
use Rattle.cfi_valid.specs.Bare.{is_bare_plan}
use Rattle.cfi_valid.specs.Guests.{EntersAt, GuestBegins}
use Rattle.cfi_valid.specs.Journal.{IsOpeningState, members_of, modules_at, starts_from}
use Rattle.cfi_valid.specs.Loaded.{LoadedModule, Members, placed_modules, loaded_by, live_at, Filled, cells_at, with_cells, start_fills}
use Rattle.cfi_valid.proofs.SeriesLemmas.{journal_series}
use Rattle.cfi_word.specs.declared.map.TheConstants.{FIRST_BASE}
use Rattle.cfi_word.specs.declared.lists.Image.{Image}
use Rattle.cfi_engine.specs.Guests.{HasFirst, HasCode}

-- code that has a start has one at its first word
first_start : (image : Image) (address : ℕ) → IsStartIn image address → IsStartIn image (4 * FIRST_BASE)
first_start image address is = record {
  body = is.body;
  idles = is.idles;
  zeros = is.zeros;
  code = is.code;
  starts = (0, omega (arith, is.starts.1), refl);
}

-- ---- the plan's first module is the first of those that are loaded

first_number : (lines : List PlanModule) (line : PlanModule) → slice_get lines 0 ≡ Some line → line.start ≡ true
    → (later : List ℕ) × (starts_from 0 lines ≡ 0 ∷ later)
first_number [] line is start = absurd (none-some line is)
first_number (one ∷ lines) line is start =
    let same : one.start ≡ true = ap (λ (l : PlanModule). l.start) (same_Some one line is) ∙ start in
    (starts_from 1 lines, ap (λ (b : Bool). cond b (0 ∷ starts_from 1 lines) (starts_from 1 lines)) same)

first_module : (modules : List Module) (numbers later : List ℕ) (first : Module) → numbers ≡ 0 ∷ later
    → slice_get modules 0 ≡ Some first → slice_get (modules_at modules numbers) 0 ≡ Some first
first_module modules numbers later first same is =
    ap (λ (ns : List ℕ). slice_get (modules_at modules ns) 0) same
    ∙ ap (λ (o : Option Module). slice_get (cons_option o (modules_at modules later)) 0) is

-- a list of some has a first
first_of : {X : Type 0} (xs : List X) → 0 < length xs → (x : X) × (slice_get xs 0 ≡ Some x)
first_of [] some = absurd (omega arith)
first_of (x ∷ xs) some = (x, refl)

-- and what is made of each of some are some
mapped_some : {X Y : Type 0} (xs : List X) (ys : List Y) (f : X → Y) → ys ≡ map f xs → 0 < length xs → 0 < length ys
mapped_some xs ys f same some = omega (arith, ap length same, length-map xs f, some)

-- ---- a module that joins has text

words_some : (xs : List ℕ) → xs ≢ [] → 0 < length xs
words_some [] apart = absurd (apart refl)
words_some (x ∷ xs) apart = omega arith

text_some : (code_words : ℕ) (before : List Placed) (m : Module) (p : Placed) → IsSoundModule m
    → Joins code_words before before m p → 0 < length m.object.text
text_some code_words before m p sound joins =
    let f = fits m (room_after code_words before) (names_of before) p sound.object_sound.relocs joins.behind in
    omega (arith, f.words, words_some p.words joins.verified.1.laid.some)

module _ (k : Key) (plan : Plan) (modules : List Module) (l : Ledger) (is : IsLedger k plan modules l)
    (opens : IsOpeningState plan modules l.course.end) where
  abbrev members : Members
  members = members_of l.course.end

  abbrev loaded : List LoadedModule
  loaded = l.course.end.loaded

  abbrev image : Image
  image = (last_of l.keeping.entries).image

  abbrev words : ℕ
  words = l.course.plan.code_words

  abbrev first : List Placed
  first = placed_modules (loaded_by 0 loaded)

  -- ---- the image in force is that of the start modules

  entries_some : 0 < length l.keeping.entries
  entries_some =
      omega (arith, ap length is.told.marks, length-map l.keeping.entries (λ (e : TableEntry). e.mark))

  last_is : IsEntryOf l.course (last_of l.keeping.entries)
  last_is =
      let some = entries_some in
      is.told.images (length l.keeping.entries - 1) no_entry (omega (arith, some))

  policy_is : (last_of l.keeping.entries).policy ≡ 0
  policy_is = sym is.told.policy ∙ opens.policy

  first_loaded : AreLoaded words first
  first_loaded =
      subst (λ (policy : ℕ). AreLoaded words (placed_modules (loaded_by policy loaded))) policy_is
      last_is.is.modules

  first_image : IsLoadedImage words first (placed_modules (live_at 0 members)) image
  first_image =
      subst
      (λ (policy : ℕ).
      IsLoadedImage words (placed_modules (loaded_by policy loaded)) (placed_modules (live_at policy members)) image)
      policy_is last_is.is.image

  -- ---- an entry is a start of it

  named_start : (entry : List ℕ) (address : ℕ) → IsEntryIn first entry address → IsStartIn image address
  named_start entry address enters =
      entry_start words first first_loaded (placed_modules (live_at 0 members)) image first_image (length first) entry
      address (subst (λ (ms : List Placed). IsEntryIn ms entry address) (sym (take-length first)) enters)

  all_first : loaded_by 0 loaded ≡ loaded
  all_first =
      starts_first l.course.plan l.course.end is.policies
      ∙ take_all (starts l.course.plan.modules) loaded
      (omega (arith, is.policies.count, opens.policy, ap length opens.stay))

  first_sound : (has : HasFirst plan modules) → IsSoundModule has.first
  first_sound has =
      let there : slice_get l.course.modules 0 ≡ Some has.first =
      ap (λ (ms : List Module). slice_get ms 0) is.modules_are ∙ has.first_is in
      let same = get_or_from_slice_get l.course.modules 0 has.first has.first there in
      let many = slice_get_within l.course.modules 0 has.first there in
      subst IsSoundModule same (is.can_start.taken 0 has.first many).sound

  bare_start : HasFirst plan modules → IsStartIn image (4 * FIRST_BASE)
  bare_start has =
      let number = first_number plan.modules has.line has.line_is has.starts in
      let there = first_module modules (starts_from 0 plan.modules) number.0 has.first number.1 has.first_is in
      let some : 0 < length (placed_modules loaded) =
      omega (arith, opens.order.count, within (modules_at modules (starts_from 0 plan.modules)) has.first there) in
      let one = first_of (placed_modules loaded) some in
      let joins = opens.order.joins 0 has.first one.0 there one.1 in
      let sound = first_sound has in
      let text = text_some plan.code_words [] has.first one.0 sound joins in
      let function = first_of one.0.functions
      (mapped_some has.first.records.functions one.0.functions _ joins.behind.functions (has.some text)) in
      let has_one : Contains first one.0 =
      subst (λ (ls : List LoadedModule). Contains (placed_modules ls) one.0) (sym all_first)
      (contains_at (placed_modules loaded) 0 one.0 one.1) in
      first_start image _
      (function_start words first first_loaded (placed_modules (live_at 0 members)) image first_image one.0 function.0
      (record { placed = has_one; function = contains_at one.0.functions 0 function.0 function.1 }))
    where
      within : {X : Type 0} (xs : List X) (x : X) → slice_get xs 0 ≡ Some x → 0 < length xs
      within [] x is = absurd (none-some x is)
      within (y ∷ xs) x is = omega arith

  begins_start : (bare : Bool) → is_bare_plan plan ≡ bare → HasCode plan modules → (entry : List ℕ) (address : ℕ)
      → EntersAt bare loaded entry address → IsStartIn image address
  begins_start true same code entry address enters = subst (IsStartIn image) (sym enters) (bare_start (code same))
  begins_start false same code entry address enters = named_start entry address enters

  -- ---- what a guest is given at its start

  -- the data of all that is loaded, and behind it the cells
  abbrev pub given : List Fill
  given = with_cells Filled l.course.end.policy members (fills_of (placed_modules loaded))

  given_first : given ≡ start_fills Filled members
  given_first =
      ap (λ (policy : ℕ). with_cells Filled policy members (fills_of (placed_modules loaded))) opens.policy
      ∙ ap (λ (ls : List LoadedModule). with_cells Filled 0 members (fills_of (placed_modules ls))) (sym all_first)

  -- it lies in private data
  pub given_lies : All LiesInData given
  given_lies =
      let sound : All IsSoundModule l.course.modules = λ at d within. (is.can_start.taken at d within).sound in
      let series = journal_series l.course.plan l.course.modules l.course.journal l.course.end is.can_start.code_words
      sound is.course in
      let lies : All LiesInData (fills_of first) =
      subst (λ (ls : List LoadedModule). All LiesInData (fills_of (placed_modules ls))) (sym all_first)
      (data_lies words (placed_modules loaded) series) in
      subst (All LiesInData) (sym given_first)
      (All-append LiesInData (fills_of first) (cells_at 0 members) lies
      (cells_lie (entry_among (placed_modules (live_at 0 members))) first lies))

  -- ---- a guest that is opened there, with a pass that is admitted

  pub opening : (number : ℕ) (entry : List ℕ) (address : ℕ) (fills : List Fill) (p : PassView) → HasCode plan modules
      → slice_get plan.guests number ≡ Some entry → GuestBegins plan loaded entry address
      → fills ≡ given → p ≡ admitted k l.keeping p.guest → p.guest ≡ number
      → IsOpening k plan modules p (raw_opened number address fills)
  opening number entry address fills p code entry_is begins fills_are pass same = record {
    ledger = l;
    is = is;
    pass = pass;
    guest = record {
      entry = entry;
      entry_is = ap (slice_get plan.guests) same ∙ entry_is;
      address = address;
      begins = begins;
      is =
          ap (λ (n : ℕ). raw_opened n address fills) (sym same)
          ∙ ap (raw_opened p.guest address) (fills_are ∙ given_first);
    };
    starts = begins_start (is_bare_plan plan) refl code entry address begins;
  }
