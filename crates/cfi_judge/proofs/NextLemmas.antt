-- The next place behind modules, some of which are gone.
use Rattle.std.proofs.Common.{◌≡◌, ◌≢◌, ℕ, ◌+◌, ◌-◌, ◌%◌, ◌<◌, ◌≤◌, ◌^◌, ◌==◌, Bool, true, false, cond, List, [], ◌∷◌, ◌++◌, Global, Vec, length, map, replicate, take, get_or, Option, Some, None, Result, Ok, Err, All, refl, sym, ap, subst, ◌∙◌, arith, append_assoc}
use Rattle.std.specs.Prelude.{◌↔◌, IfOk, IsTrue, filter, not, ◌||◌, slice_set}
use Rattle.std.specs.Int.{next_multiple_of}
use Rattle.std.specs.List.{flat_map, list_any, slice_get}
use Rattle.std.specs.Option.{option_map_or}
use Rattle.std.specs.Str.{bytes_eq}
use Rattle.std.proofs.lemmas.Bool.{eq-eqb, eqb-true}
use Rattle.std.proofs.lemmas.List.{append-nil, get_or-set_other, get_or-replicate, get_or-set_same, length-replicate, length-set, map-append, take_all, take_more, take-map}
use Rattle.std.proofs.lemmas.List.Elements.{All-head, All-push, All-tail}
use Rattle.std.proofs.lemmas.List.Folds.{list_any-append}
use Rattle.std.proofs.lemmas.List.Sums.{fold-append}
use Rattle.std.proofs.lemmas.Option.{get_or_from_slice_get, slice_get_within}
use Rattle.std.proofs.lemmas.Slice.Eq.{bytes_eq-Decides}
use Rattle.cfi_aux.specs.Sound.{IsSoundModule}
use Rattle.cfi_aux.specs.declared.modules.Module.{Module}
use Rattle.cfi_aux.specs.declared.placed.Placed.{Placed}
use Rattle.cfi_modules.specs.Order.{IsPlacedBehind, names_of}
use Rattle.cfi_modules.specs.Series.{IsSeries}
use Rattle.cfi_modules.specs.Room.{first_room, room_after, room_behind}
use Rattle.cfi_modules.proofs.LengthLemmas.{ok_not_err}
use Rattle.cfi_modules.proofs.PlacedLemmas.{fits}
use Rattle.cfi_modules.proofs.SeriesLemmas.{code_after, member, room_at}
use Rattle.cfi_place.specs.Names.{Names, find_in, first_in}
use Rattle.cfi_place.specs.Placed.{IsFault, placed_in}
use Rattle.cfi_place.specs.Relocated.{Areas}
use Rattle.cfi_place.specs.declared.fault.PlaceFault.{PlaceFault}
use Rattle.cfi_place.specs.declared.fault.PlaceFault.TheVariants as faults
use Rattle.cfi_place.specs.declared.room.Room.{Room}
use Rattle.cfi_place.specs.declared.symbols.Symbols.{Symbols}
use Rattle.std.specs.declared.alloc.AllocError.{AllocError}
use Rattle.cfi_ledger.specs.Roster.{Roster, loaded_in_roster, origin_of as line_origin}
use Rattle.cfi_plan.specs.declared.journal.ModuleLine.{ModuleLine}
use Rattle.cfi_plan.specs.declared.plan.Plan.{Plan}
use Rattle.cfi_plan.specs.declared.plan.PlanModule.{PlanModule}
use Rattle.cfi_valid.specs.Kept.{Origin, module_from}
use Rattle.cfi_valid.specs.Loaded.{LoadedModule, module_line_of, placed_modules, planned_name}
use Rattle.cfi_valid.specs.Modules.{without}
use Rattle.cfi_valid.proofs.KeptLemmas.{loaded_at, places_are}
use Rattle.cfi_word.specs.Table.{IsSize}
use Rattle.cfi_word.specs.declared.map.TheConstants.{DATA_ALIGNMENT}
use Rattle.cfi_judge.specs.declared.next.Next.{Next}
use Rattle.cfi_judge.specs.declared.next.Stood.{Stood}
use Rattle.cfi_judge.specs.inner.Next.{FitsAt, IsHere, IsNext, IsPast, StandsThere, Takes, TellGone, exports_left, is_gone, line_at, room_of, stood_as}
use Rattle.cfi_judge.specs.inner.Told.{IsToldBy}
use Rattle.cfi_judge.proofs.ItemLemmas.{item_there}
use Rattle.cfi_judge.proofs.ListLemmas.{map_at}
use Rattle.cfi_judge.proofs.PlaceLemmas.{IsMoved, moved, placed_same}

aligned_up : (n : ℕ) → next_multiple_of n DATA_ALIGNMENT % DATA_ALIGNMENT ≡ 0
aligned_up n = omega arith

-- ---- names

abbrev Pairs : Type 0
Pairs = List (List ℕ × ℕ)

-- those of one more
abbrev pub one_left : (flags : List Bool) → Stood → Pairs
one_left flags s = cond (is_gone flags s.number) [] s.exports

pub left_more : (flags : List Bool) (stood : List Stood) (s : Stood)
    → exports_left flags (stood ++ s ∷ []) ≡ exports_left flags stood ++ one_left flags s
left_more flags [] s = by (is_gone flags s.number)
  where
    by : (gone : Bool)
        → flat_map (λ (x : Stood). x.exports) (cond (not gone) (s ∷ []) []) ≡ cond gone [] s.exports
    by true = refl
    by false = append-nil s.exports
left_more flags (t ∷ stood) s = by (is_gone flags t.number) (left_more flags stood s)
  where
    all : List Stood
    all = filter (λ (x : Stood). not (is_gone flags x.number)) (stood ++ s ∷ [])

    first : List Stood
    first = filter (λ (x : Stood). not (is_gone flags x.number)) stood

    exports : List Stood → Pairs
    exports xs = flat_map (λ (x : Stood). x.exports) xs

    by : (gone : Bool) → exports all ≡ exports first ++ one_left flags s
        → exports (cond (not gone) (t ∷ all) all) ≡ exports (cond (not gone) (t ∷ first) first) ++ one_left flags s
    by true rest = rest
    by false rest =
        ap (λ (pairs : Pairs). t.exports ++ pairs) rest
        ∙ sym (append_assoc t.exports (exports first) (one_left flags s))

pub left_one : (flags : List Bool) (stood : List Stood) (s : Stood)
    → exports_left flags stood ++ exports_left flags (s ∷ []) ≡ exports_left flags (stood ++ s ∷ [])
left_one flags stood s =
    ap (λ (pairs : Pairs). exports_left flags stood ++ pairs) (left_more flags [] s) ∙ sym (left_more flags stood s)

-- those of a module that stands behind others, as they are asked for
pub added_one : (given flags : List Bool) → given ≡ flags → (number : ℕ) (made exports : Pairs) → made ≡ exports
    → (before : Pairs)
    → (names : Symbols)
    → ((name : List ℕ) → find_in names name
    ≡ first_in (before ++ exports_left given (record { number = number; exports = made } ∷ [])) name)
    → (name : List ℕ) → find_in names name
    ≡ first_in (before ++ cond (is_gone flags number) [] exports) name
added_one given flags same_flags number made exports same before names are name =
    are name
    ∙ ap (λ (pairs : Pairs). first_in (before ++ pairs) name)
    (ap (λ (bs : List Bool). exports_left bs (record { number = number; exports = made } ∷ [])) same_flags
    ∙ left_more flags [] (record { number = number; exports = made })
    ∙ ap (λ (pairs : Pairs). cond (is_gone flags number) [] pairs) same)

-- those of modules that are not gone, as flags tell
left_are : (count : ℕ) (gone : List ℕ) (flags : List Bool) → TellGone count gone flags → (before : List LoadedModule)
    → All (λ (l : LoadedModule). l.number < count) before
    → exports_left flags (map stood_as before)
    ≡ flat_map (λ (m : Placed). m.exports) (placed_modules (without gone before))
left_are count gone flags tell [] known = refl
left_are count gone flags tell (l ∷ before) known =
    by (is_gone flags l.number) (list_any (λ (n : ℕ). n == l.number) gone)
    (tell.each l.number (All-head (λ (x : LoadedModule). x.number < count) l before known))
    (left_are count gone flags tell before (All-tail (λ (x : LoadedModule). x.number < count) l before known))
  where
    kept : List Stood
    kept = filter (λ (x : Stood). not (is_gone flags x.number)) (map stood_as before)

    those : List LoadedModule
    those = without gone before

    by : (a b : Bool) → a ≡ b
        → flat_map (λ (x : Stood). x.exports) kept ≡ flat_map (λ (m : Placed). m.exports) (placed_modules those)
        → flat_map (λ (x : Stood). x.exports) (cond (not a) (stood_as l ∷ kept) kept)
        ≡ flat_map (λ (m : Placed). m.exports) (placed_modules (cond (not b) (l ∷ those) those))
    by true true same rest = rest
    by true false same rest = absurd (cc)
    by false true same rest = absurd (cc)
    by false false same rest = ap (λ (pairs : Pairs). l.placed.exports ++ pairs) rest

-- ---- a module that goes

ne_true : (a b : ℕ) → (a == b) ≡ false → a ≢ b
ne_true a b other same = let here : (a == b) ≡ true = eq-eqb a b same in absurd (cc)

or_same : (a b : Bool) → b ≡ false → (a || b) ≡ a
or_same true b none = refl
or_same false b none = none

or_yes : (a b : Bool) → b ≡ true → (a || b) ≡ true
or_yes true b some = refl
or_yes false b some = some

among_more : (gone : List ℕ) (number n : ℕ)
    → list_any (λ (k : ℕ). k == n) (gone ++ number ∷ []) ≡ (list_any (λ (k : ℕ). k == n) gone || (number == n))
among_more gone number n =
    list_any-append (λ (k : ℕ). k == n) gone (number ∷ [])
    ∙ ap (λ (b : Bool). list_any (λ (k : ℕ). k == n) gone || b) (or_same (number == n) false refl)

-- flags of so many modules, none of which is gone
pub fresh : (count : ℕ) (items : List Bool) (many : ℕ) (flags : List Bool) → items ≡ [] → many ≡ 0
    → flags ≡ take count items ++ replicate (count - many) false → flags ≡ replicate count false
fresh count items many flags none no_more are =
    are
    ∙ ap (λ (bs : List Bool). take count bs ++ replicate (count - many) false) none
    ∙ ap (λ (bs : List Bool). bs ++ replicate (count - many) false) (take_all count [] (omega arith))
    ∙ ap (λ (n : ℕ). replicate n false) (omega (arith, no_more))

-- none is gone
pub none_gone : (count : ℕ) (flags : List Bool) → flags ≡ replicate count false → TellGone count [] flags
none_gone count flags are = record {
  many = ap (λ (bs : List Bool). length bs) are ∙ length-replicate count false;
  each = λ number within.
      ap (λ (bs : List Bool). is_gone bs number) are ∙ get_or-replicate count number false false within;
}

module _ (count : ℕ) (gone : List ℕ) (flags : List Bool) (tell : TellGone count gone flags) (number : ℕ) where
  -- of which flags tell already, if it is one of so many
  pub still_gone : (number < count → is_gone flags number ≡ true) → TellGone count (gone ++ number ∷ []) flags
  still_gone was = record {
    many = tell.many;
    each = λ n within. by n within (number == n) refl;
  }
    where
      by : (n : ℕ) → n < count → (b : Bool) → (number == n) ≡ b
          → is_gone flags n ≡ list_any (λ (k : ℕ). k == n) (gone ++ number ∷ [])
      by n within false other =
          tell.each n within ∙ sym (or_same (list_any (λ (k : ℕ). k == n) gone) (number == n) other)
          ∙ sym (among_more gone number n)
      by n within true here =
          let same : number ≡ n = eqb-true number n here in
          subst (λ (k : ℕ). is_gone flags k ≡ true) same (was (omega (arith, within, same)))
          ∙ sym (or_yes (list_any (λ (k : ℕ). k == n) gone) (number == n) here)
          ∙ sym (among_more gone number n)

  -- or will tell
  pub now_gone : number < count → TellGone count (gone ++ number ∷ []) (slice_set flags number true)
  now_gone known = record {
    many = length-set flags number true ∙ tell.many;
    each = λ n within. by n within (number == n) refl;
  }
    where
      by : (n : ℕ) → n < count → (b : Bool) → (number == n) ≡ b
          → is_gone (slice_set flags number true) n ≡ list_any (λ (k : ℕ). k == n) (gone ++ number ∷ [])
      by n within false other =
          get_or-set_other flags number n true false (λ same. ne_true number n other (sym same))
          ∙ tell.each n within ∙ sym (or_same (list_any (λ (k : ℕ). k == n) gone) (number == n) other)
          ∙ sym (among_more gone number n)
      by n within true here =
          let same : number ≡ n = eqb-true number n here in
          subst (λ (k : ℕ). is_gone (slice_set flags number true) k ≡ true) same
          (get_or-set_same flags number true false (omega (arith, known, tell.many)))
          ∙ sym (or_yes (list_any (λ (k : ℕ). k == n) gone) (number == n) here)
          ∙ sym (among_more gone number n)

-- ---- the next place

-- a module of another place and other words as long is passed alike
pub past_same : (old new : Next) (number : ℕ) (p q : Placed) → length q.words ≡ length p.words
    → q.branches ≡ p.branches → q.static_data ≡ p.static_data → q.exports ≡ p.exports → IsPast old number p new
    → IsPast old number q new
past_same old new number p q words branches static_data exports past = record {
  words = past.words;
  base = past.base ∙ ap (λ (n : ℕ). old.base + n) (sym words);
  slot = past.slot ∙ ap (λ bs. old.slot + length bs) (sym branches);
  data_base = past.data_base
      ∙ ap (λ (bytes : List ℕ). next_multiple_of (old.data_base + length bytes) DATA_ALIGNMENT) (sym static_data);
  gone = past.gone;
  stood = past.stood
      ∙ ap (λ (pairs : Pairs). old.stood.items ++ record { number = number; exports = pairs } ∷ []) (sym exports);
  names = λ before was name.
      past.names before was name
      ∙ ap (λ (pairs : Pairs). first_in (before ++ cond (is_gone old.gone.items number) [] pairs) name) (sym exports);
}

-- a module begins where the room does
pub record IsAtRoom (room : Room) (p : Placed) : Type 0 where
  pub base : p.base ≡ room.base
  pub slot_base : p.slot_base ≡ room.slot_base
  pub data_base : p.data_base ≡ room.data_base

module _ (code_words count : ℕ) (before : List LoadedModule) (gone : List ℕ) (next : Next)
    (is : IsNext code_words count before gone next) where
  abbrev room : Room
  room = room_after code_words (placed_modules before)

  abbrev live : List Placed
  live = placed_modules (without gone before)

  rooms : room
      ≡ record {
        base = next.base;
        slot_base = room.slot_base;
        data_base = next.data_base;
        code_words = next.code_words;
      }
  rooms =
      let words : room.code_words ≡ next.code_words = code_after code_words (placed_modules before) ∙ sym is.words in
      λ i. record {
        base = sym is.base i;
        slot_base = room.slot_base;
        data_base = sym is.data_base i;
        code_words = words i;
      }

  left_names : exports_left next.gone.items next.stood.items ≡ flat_map (λ (m : Placed). m.exports) live
  left_names =
      ap (exports_left next.gone.items) is.stood ∙ left_are count gone next.gone.items is.flags before is.known

  names_are : find_in next.names ≡ names_of live
  names_are = λ i name. (is.names name ∙ ap (λ (pairs : Pairs). first_in pairs name) left_names) i

  -- ---- a module that is placed there, or is not

  pub stands : (m : Module) (p : Placed) → StandsThere next m (Some p) → IsMoved m room (names_of live) p
  stands m p there =
      subst (λ (names : Names). IsMoved m room names p) names_are
      (subst (λ (r : Room). IsMoved m r (find_in next.names) p) (sym rooms)
      (moved m next.base 0 room.slot_base next.data_base next.code_words (find_in next.names) p there))

  pub never : (m : Module) (p : Placed) → StandsThere next m None
      → ¬ IsPlacedBehind code_words (placed_modules before) live m p
  never m p there behind =
      let asked = subst (λ (names : Names). placed_in m.object room names ≡ Ok behind.bytes) (sym names_are)
      behind.is_placed in
      let roomed = subst (λ (r : Room). placed_in m.object r (find_in next.names) ≡ Ok behind.bytes) rooms asked in
      ok_not_err
      (sym there.1
      ∙ placed_same next.base 0 room.slot_base next.data_base next.code_words m.object (find_in next.names)
      ∙ roomed)

  -- its line
  pub line_same : (plan : Plan) (told : Origin) (m : Module) (p : Placed)
      → IsPlacedBehind code_words (placed_modules before) live m p
      → line_at plan next told ≡ module_line_of plan.modules (module_from told p)
  line_same plan told m p behind =
      let base : next.base ≡ p.base = is.base ∙ sym behind.base in
      let slot : next.slot ≡ p.slot_base = is.slot ∙ sym behind.slot_base in
      let data_base : next.data_base ≡ p.data_base = is.data_base ∙ sym behind.data_base in
      λ i. record {
        number = told.number;
        name = planned_name plan.modules told.number;
        base = base i;
        slot = slot i;
        data_base = data_base i;
        policy = told.policy;
      }

  -- ---- one more

  pub next_more : (told : Origin) (p : Placed) → IsAtRoom room p → told.number < count → (new : Next) → FitsAt next p
      → IsPast next told.number p new → IsNext code_words count (before ++ module_from told p ∷ []) gone new
  next_more told p at within new fit past =
      let l : LoadedModule = module_from told p in
      let after : room_after code_words (placed_modules (before ++ l ∷ [])) ≡ room_behind room p =
      ap (room_after code_words) (map-append (λ (x : LoadedModule). x.placed) before (l ∷ []))
      ∙ fold-append room_behind (first_room code_words) (placed_modules before) (p ∷ []) in
      record {
        words = past.words ∙ is.words;
        base = past.base
            ∙ ap (λ (n : ℕ). n + length p.words) (is.base ∙ sym at.base)
            ∙ sym (ap (λ (r : Room). r.base) after);
        slot = past.slot
            ∙ ap (λ (n : ℕ). n + length p.branches) (is.slot ∙ sym at.slot_base)
            ∙ sym (ap (λ (r : Room). r.slot_base) after);
        data_base = past.data_base
            ∙ ap (λ (n : ℕ). next_multiple_of (n + length p.static_data) DATA_ALIGNMENT)
            (is.data_base ∙ sym at.data_base)
            ∙ sym (ap (λ (r : Room). r.data_base) after);
        room = record {
          size = subst IsSize (sym past.words) is.room.size;
          code = omega (arith, past.base, past.words, fit.words);
          slots = omega arith;
          aligned = subst (λ (n : ℕ). n % DATA_ALIGNMENT ≡ 0) (sym past.data_base)
              (aligned_up (next.data_base + length p.static_data));
          low = omega (arith, past.data_base, is.room.low);
          high = omega (arith, past.data_base, fit.ends);
        };
        known = All-push (λ (x : LoadedModule). x.number < count) before l is.known within;
        stood = past.stood
            ∙ ap (λ (ss : List Stood). ss ++ stood_as l ∷ []) is.stood
            ∙ sym (map-append stood_as before (l ∷ []));
        flags = subst (TellGone count gone) (sym past.gone) is.flags;
        names = λ name.
            past.names (exports_left next.gone.items next.stood.items) is.names name
            ∙ ap (λ (pairs : Pairs). first_in pairs name)
            (sym (left_more next.gone.items next.stood.items (stood_as l))
            ∙ ap (exports_left next.gone.items) (sym past.stood)
            ∙ ap (λ (flags : List Bool). exports_left flags new.stood.items) (sym past.gone));
      }

  -- what is placed there fits
  pub fits_at : (m : Module) (p : Placed) → IsSoundModule m → StandsThere next m (Some p) → next.slot < 2 ^ 32
      → FitsAt next p
  fits_at m p sound there few =
      let f = fits m (room_of next) (find_in next.names) p sound.object_sound.relocs there in
      record {
        words = omega (arith, f.code, there.base);
        ends = omega (arith, f.ends, there.data_base);
        slots = few;
      }

  -- ---- one that goes

  abbrev GoesSo : (numbers : List ℕ) → Next → Type 0
  GoesSo numbers new = IsNext code_words count before numbers new

  -- of which the flags tell already
  pub leaves_same : (number : ℕ) → (number < count → is_gone next.gone.items number ≡ true)
      → GoesSo (gone ++ number ∷ []) next
  leaves_same number was = record {
    words = is.words;
    base = is.base;
    slot = is.slot;
    data_base = is.data_base;
    room = is.room;
    known = is.known;
    stood = is.stood;
    flags = still_gone count gone next.gone.items is.flags number was;
    names = is.names;
  }

  -- or of which they did not, by what tells now
  pub leaves_so : (number : ℕ) → number < count → (flags : Vec Bool Global) → (r : Result Next AllocError)
      → IfOk r (λ (new : Next). new ≡ record next { gone = flags; names = new.names })
      → IfOk r (λ (new : Next). (name : List ℕ)
      → find_in new.names name ≡ first_in (exports_left flags.items next.stood.items) name)
      → flags.items ≡ slice_set next.gone.items number true → IfOk r (GoesSo (gone ++ number ∷ []))
  leaves_so number known flags (Err e) new_is named set = tt
  leaves_so number known flags (Ok new) new_is named set =
      subst (GoesSo (gone ++ number ∷ [])) (sym new_is)
      (record {
        words = is.words;
        base = is.base;
        slot = is.slot;
        data_base = is.data_base;
        room = is.room;
        known = is.known;
        stood = is.stood;
        flags = subst (TellGone count (gone ++ number ∷ [])) (sym set)
            (now_gone count gone next.gone.items is.flags number known);
        names = named;
      })

-- ---- modules of a series

-- each fits behind those before it
module _ (code_words count : ℕ) (loaded : List LoadedModule) (series : IsSeries code_words (placed_modules loaded))
    (n : ℕ) (l : LoadedModule) (is : slice_get loaded n ≡ Some l) (next : Next)
    (is_next : IsNext code_words count (take n loaded) [] next) where
  place_is : slice_get (placed_modules loaded) n ≡ Some l.placed
  place_is = map_at (λ (x : LoadedModule). x.placed) loaded n l is

  -- where it stands
  at_room : IsAtRoom (room_after code_words (placed_modules (take n loaded))) l.placed
  at_room =
      let one = member code_words (placed_modules loaded) series n l.placed place_is in
      subst (λ (ps : List Placed). IsAtRoom (room_after code_words ps) l.placed)
      (take-map (λ (x : LoadedModule). x.placed) n loaded)
      (record {
        base = one.2.2.behind.base;
        slot_base = one.2.2.behind.slot_base;
        data_base = one.2.2.behind.data_base;
      })

  pub series_fits : FitsAt next l.placed
  series_fits =
      let placed : List Placed = placed_modules loaded in
      let one = member code_words placed series n l.placed place_is in
      let room = room_after code_words (take n placed) in
      let f = fits one.0 room (names_of one.2.0) l.placed one.1.object_sound.relocs one.2.2.behind in
      let within = slice_get_within placed n l.placed place_is in
      let here = room_at code_words placed series n (omega (arith, within)) in
      let words = code_after code_words (take n placed) in
      let same : room_after code_words (placed_modules (take n loaded)) ≡ room =
      ap (room_after code_words) (sym (take-map (λ (x : LoadedModule). x.placed) n loaded)) in
      record {
        words = omega (
          arith,
          f.code,
          one.2.2.behind.base,
          is_next.base,
          ap (λ (r : Room). r.base) same,
          is_next.words,
          words,
        );
        ends = omega (arith, f.ends, one.2.2.behind.data_base, is_next.data_base, ap (λ (r : Room). r.data_base) same);
        slots = omega (
          arith,
          here.slots,
          here.code,
          here.size.most,
          is_next.slot,
          ap (λ (r : Room). r.slot_base) same,
        );
      }

  pub series_more : l.number < count → (new : Next) → IsPast next l.number l.placed new
      → IsNext code_words count (take (n + 1) loaded) [] new
  series_more within new past =
      let one : Origin = record { number = l.number; policy = l.policy } in
      subst (λ (ls : List LoadedModule). IsNext code_words count ls [] new)
      (sym (take_more loaded n l (slice_get_within loaded n l is)
      ∙ ap (λ (x : LoadedModule). take n loaded ++ x ∷ []) (get_or_from_slice_get loaded n l l is)))
      (next_more code_words count (take n loaded) [] next is_next one l.placed at_room within new series_fits past)

-- ---- modules of a roster

module _ (r : Roster) (code_words count : ℕ) (words : r.code_words ≡ code_words)
    (lined : length r.lines ≡ length r.placed) (series : IsSeries r.code_words r.placed)
    (lines : List ModuleLine) (lines_are : lines ≡ r.lines) (placed : List Placed) (placed_are : placed ≡ r.placed)
    (n : ℕ) (within : n < length placed) (line : ModuleLine) (line_is : line ≡ get_or lines n line)
    (p : Placed) (p_is : p ≡ get_or placed n p) (next : Next)
    (is_next : IsNext code_words count (take n (loaded_in_roster r)) [] next) where
  abbrev one : LoadedModule
  one = module_from (line_origin line) p

  roster_series : IsSeries code_words (placed_modules (loaded_in_roster r))
  roster_series =
      subst (λ (ps : List Placed). IsSeries code_words ps) (sym (places_are line_origin r.lines r.placed lined))
      (subst (λ (k : ℕ). IsSeries k r.placed) words series)

  one_is : slice_get (loaded_in_roster r) n ≡ Some one
  one_is =
      let many : n < length lines = omega (
        arith,
        within,
        lined,
        ap (λ (ls : List ModuleLine). length ls) lines_are,
        ap (λ (ps : List Placed). length ps) placed_are,
      ) in
      loaded_at line_origin r.lines r.placed n line p
      (subst (λ (ls : List ModuleLine). slice_get ls n ≡ Some line) lines_are (item_there lines n line many line_is))
      (subst (λ (ps : List Placed). slice_get ps n ≡ Some p) placed_are (item_there placed n p within p_is))

  pub roster_fits : FitsAt next p
  roster_fits = series_fits code_words count (loaded_in_roster r) roster_series n one one_is next is_next

  pub roster_more : All (λ (l : LoadedModule). l.number < count) (loaded_in_roster r) → (new : Next)
      → IsPast next line.number p new → IsNext code_words count (take (n + 1) (loaded_in_roster r)) [] new
  roster_more known new past =
      series_more code_words count (loaded_in_roster r) roster_series n one one_is next is_next
      (subst (λ (l : LoadedModule). l.number < count) (get_or_from_slice_get (loaded_in_roster r) n one one one_is)
      (known n one (slice_get_within (loaded_in_roster r) n one one_is))) new past

-- what is refused for another fault than memory is not placed
pub refused_by : (fault : PlaceFault) (due : Result Areas PlaceFault) → fault ≢ faults.Memory → IsFault fault due
    → due ≡ Err fault
refused_by faults.Memory due some is = absurd (some refl)
refused_by (faults.Undefined name) due some is = is
refused_by (faults.Reloc number fault) due some is = is
refused_by faults.CodeFull due some is = is
refused_by faults.DataFull due some is = is

-- ---- a module that is told

-- the name of a line is that of a module of the plan
pub name_told : (plan : Plan) (number : ℕ) (named : List PlanModule) → named ≡ plan.modules → number < length named
    → (m : PlanModule) → m ≡ get_or named number m → (name one other : List ℕ) → one ≡ name → other ≡ m.name
    → (answer : Bool) → answer ≡ bytes_eq one other → IsTrue answer ↔ (name ≡ planned_name plan.modules number)
name_told plan number named same within m is name one other one_is other_is answer exact =
    let there : slice_get plan.modules number ≡ Some m =
    ap (λ (ms : List PlanModule). slice_get ms number) (sym same) ∙ item_there named number m within is in
    let planned : planned_name plan.modules number ≡ m.name =
    ap (λ (o : Option PlanModule). option_map_or (λ (x : PlanModule). x.name) o []) there in
    let decides = bytes_eq-Decides one other in (
      λ yes. sym one_is ∙ decides.0 (sym exact ∙ yes) ∙ other_is ∙ sym planned,
      λ equal. exact ∙ decides.1 (one_is ∙ equal ∙ planned ∙ sym other_is),
    )

pub line_told : (plan : Plan) (next : Next) (told : Origin) (line : ModuleLine) → line.number ≡ told.number
    → line.name ≡ planned_name plan.modules told.number → line.policy ≡ told.policy → IsHere next line
    → line ≡ line_at plan next told
line_told plan next told line number name policy here = λ i. record {
  number = number i;
  name = name i;
  base = here.base i;
  slot = here.slot i;
  data_base = here.data_base i;
  policy = policy i;
}

module _ (plan : Plan) (modules : List Module) (before : List LoadedModule) (gone : List ℕ) (line : ModuleLine)
    (told : Origin) (next : Next) (is : IsNext plan.code_words (length modules) before gone next) where
  abbrev left : List Placed
  left = placed_modules (without gone before)

  pub takes_one : (m : Module) → slice_get modules told.number ≡ Some m → IsSoundModule m
      → line ≡ line_at plan next told → (p : Placed) → StandsThere next m (Some p) → FitsAt next p → (new : Next)
      → IsPast next told.number p new → Takes plan modules before gone line told (Some new)
  takes_one m there sound line_is p stands_there fit new past =
      let one = stands plan.code_words (length modules) before gone next is m p stands_there in
      let room = room_after plan.code_words (placed_modules before) in
      let long = fits m (room_of next) (find_in next.names) p sound.object_sound.relocs stands_there in
      let same = fits m room (names_of left) one.one sound.object_sound.relocs one.is in
      let words : length one.one.words ≡ length p.words = same.words ∙ sym long.words in
      let fit_one : FitsAt next one.one = record {
        words = omega (arith, fit.words, words);
        ends = omega (arith, fit.ends, ap length one.static_data);
        slots = fit.slots;
      } in
      let by : IsToldBy plan modules before gone line told one.one = record {
        unplaced = m;
        is = there;
        behind = one.is;
        line_is = line_is ∙ line_same plan.code_words (length modules) before gone next is plan told m one.one one.is;
      } in (
        one.one,
        by,
        next_more plan.code_words (length modules) before gone next is told one.one (record {
          base = one.is.base;
          slot_base = one.is.slot_base;
          data_base = one.is.data_base;
        }) (slice_get_within modules told.number m there) new fit_one
            (past_same next new told.number p one.one words one.branches one.static_data one.exports past),
      )

  pub takes_no_number : length modules ≤ told.number → Takes plan modules before gone line told None
  takes_no_number past one by = absurd (omega (arith, past, slice_get_within modules told.number by.unplaced by.is))

  pub takes_no_line : line ≢ line_at plan next told → Takes plan modules before gone line told None
  takes_no_line other one by =
      other (by.line_is
      ∙ sym (line_same plan.code_words (length modules) before gone next is plan told by.unplaced one by.behind))

  pub takes_no_place : (m : Module) → slice_get modules told.number ≡ Some m → StandsThere next m None
      → Takes plan modules before gone line told None
  takes_no_place m there nowhere one by =
      let same : by.unplaced ≡ m = cc (by.is, there) in
      never plan.code_words (length modules) before gone next is m one nowhere
      (subst (λ (x : Module). IsPlacedBehind plan.code_words (placed_modules before) left x one) same by.behind)
