-- How far loaded modules reach: their words and their branches follow on.
use Rattle.std.proofs.Common.{◌≡◌, ◌+◌, ◌-◌, ◌≤◌, ◌<◌, ◌^◌, ℕ, zero, suc, List, [], ◌∷◌, length, take, get_or, Some, add-one, refl, sym, ap, subst, arith, ◌∙◌}
use Rattle.std.specs.Prelude.{slice_get, sum_by}
use Rattle.std.proofs.Math.Seq.{take-length}
use Rattle.std.proofs.lemmas.List.Sums.{sum_by_push}
use Rattle.std.proofs.lemmas.Option.{slice_get_read, slice_get_within}
use Rattle.cfi_aux.specs.declared.placed.Placed.{Placed}
use Rattle.cfi_modules.specs.Loaded.{AreLoaded}
use Rattle.cfi_modules.proofs.SeriesLemmas.{item_at, room_is, take_one_more}
use Rattle.cfi_word.specs.declared.map.TheConstants.{FIRST_BASE}
use Rattle.cfi_place.specs.Placed.{IsRoom}
use Rattle.cfi_modules.proofs.RoomLemmas.{after_last}
use Rattle.cfi_modules.specs.Room.{first_room, room_behind}
use Rattle.cfi_gen.specs.inner.Series.{IsOfSeries}
use Rattle.cfi_gen.specs.Measure.{words_in, branches_in}

-- a module begins where those before it end
record BeginsBehind (ms : List Placed) (k : ℕ) (m : Placed) : Type 0 where
  base : m.base ≡ FIRST_BASE + words_in (take k ms)
  slots : m.slot_base ≡ branches_in (take k ms)

-- one module more
one_more : (f : Placed → ℕ) (ms : List Placed) (k : ℕ) (m : Placed) → slice_get ms k ≡ Some m
    → sum_by f (take (k + 1) ms) ≡ sum_by f (take k ms) + f m
one_more f ms k m is = ap (sum_by f) (take_one_more ms k m is) ∙ sum_by_push f (take k ms) m

module _ (code_words : ℕ) (ms : List Placed) (loaded : AreLoaded code_words ms) where
  begins : (k : ℕ) (m : Placed) → slice_get ms k ≡ Some m → BeginsBehind ms k m
  begins zero m is = record { base = (loaded.first m is).0; slots = (loaded.first m is).1 }
  begins (suc k) n is =
      let within : k < length ms = omega (arith, slice_get_within ms (suc k) n is) in
      let m = item_at ms k within in
      let before = begins k m.0 m.1 in
      let next : slice_get ms (k + 1) ≡ Some n = ap (slice_get ms) (add-one k) ∙ is in
      let follows = loaded.next k m.0 n m.1 next in
      record {
        base = subst (λ (i : ℕ). n.base ≡ FIRST_BASE + words_in (take i ms)) (add-one k)
            (omega (arith, follows.words, before.base, one_more (λ (p : Placed). length p.words) ms k m.0 m.1));
        slots = subst (λ (i : ℕ). n.slot_base ≡ branches_in (take i ms)) (add-one k)
            (omega (arith, follows.slots, before.slots, one_more (λ (p : Placed). length p.branches) ms k m.0 m.1));
      }

  -- the last one ends where all of them do
  whole : (f : Placed → ℕ) (k : ℕ) (m : Placed) → slice_get ms k ≡ Some m → length ms ≡ k + 1
      → sum_by f ms ≡ sum_by f (take k ms) + f m
  whole f k m is last =
      ap (sum_by f) (sym (take-length ms)) ∙ ap (λ (n : ℕ). sum_by f (take n ms)) last ∙ one_more f ms k m is

  pub words_end : (k : ℕ) (m : Placed) → slice_get ms k ≡ Some m → length ms ≡ k + 1
      → m.base + length m.words ≡ FIRST_BASE + words_in ms
  words_end k m is last =
      omega (arith, (begins k m is).base, whole (λ (p : Placed). length p.words) k m is last)

  pub branches_end : (k : ℕ) (m : Placed) → slice_get ms k ≡ Some m → length ms ≡ k + 1
      → m.slot_base + length m.branches ≡ branches_in ms
  branches_end k m is last =
      omega (arith, (begins k m is).slots, whole (λ (p : Placed). length p.branches) k m is last)

-- ---- the last one

module _ (ms : List Placed) (m : Placed) (all : IsOfSeries ms) (some : 0 < length ms)
    (is : m ≡ get_or ms (length ms - 1) m) where
  here : slice_get ms (length ms - 1) ≡ Some m
  here = slice_get_read ms (length ms) (length ms - 1) m refl (omega (arith, some)) is

  pub words_last : m.base + length m.words ≡ FIRST_BASE + words_in ms
  words_last = words_end all.0 ms all.1 (length ms - 1) m here (omega (arith, some))

  pub branches_last : m.slot_base + length m.branches ≡ branches_in ms
  branches_last = branches_end all.0 ms all.1 (length ms - 1) m here (omega (arith, some))

  -- there is room for all slots
  pub branches_fit : m.slot_base + length m.branches ≤ 2 ^ 32
  branches_fit =
      let room = subst IsRoom
      (after_last all.0 ms m (omega (arith, some)) ∙ ap (room_behind (first_room all.0)) (sym is))
      (room_is all.0 ms all.2) in
      omega (arith, room.slots, room.code, room.size.most)
