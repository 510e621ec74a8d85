-- A series is verified one after the other at the next free places, and there are few modules and types.
use Rattle.std.proofs.Common.{◌≡◌, ◌≢◌, ℕ, zero, suc, ◌+◌, ◌*◌, ◌≤◌, List, [], ◌∷◌, length, map, take, get_or, Some, All, refl, ap, sym, subst, ◌∙◌, add-one, arith, length-append}
use Rattle.std.specs.List.{flat_map, slice_get, AllByRecursion}
use Rattle.std.proofs.lemmas.List.Elements.{recursion_from_All}
use Rattle.std.proofs.lemmas.Option.{slice_get-get_or}
use Rattle.cfi_type_table.specs.Node.{Node}
use Rattle.cfi_type_table.specs.Spelling.{AreTypes}
use Rattle.cfi_word.specs.declared.limits.TheConstants.{MAX_CODE_WORDS}
use Rattle.cfi_aux.specs.declared.placed.Placed.{Placed}
use Rattle.cfi_graph.specs.Reading.{type_count, HaveGraph}
use Rattle.cfi_graph.specs.Shaped.{AreApart}
use Rattle.cfi_place.specs.declared.room.Room.{Room}
use Rattle.cfi_modules.specs.Loaded.{AreLoaded}
use Rattle.cfi_modules.specs.Room.{room_after}
use Rattle.cfi_modules.specs.Order.{names_of}
use Rattle.cfi_modules.specs.Series.{IsSeries}
use Rattle.cfi_modules.proofs.PlacedLemmas.{fits}
use Rattle.cfi_modules.proofs.SeriesLemmas.{code_after, item_at, member, room_at, room_more}

some_length : (xs : List ℕ) → xs ≢ [] → 1 ≤ length xs
some_length [] some = absurd (some refl)
some_length (x ∷ xs) some = omega arith

-- few types each make few types in all
few_types : (ms : List Placed) → AllByRecursion (λ (m : Placed). AreTypes m.types) ms → type_count ms ≤ 1024 * length ms
few_types [] all = omega arith
few_types (m ∷ ms) all =
    omega (
      arith,
      all.0.count,
      few_types ms all.1,
      length-append m.types (flat_map (λ (types : List Node). types) (map (λ (n : Placed). n.types) ms)),
    )

module _ (code_words : ℕ) (placed : List Placed) (series : IsSeries code_words placed) where
  -- a module ends within the code
  pub ends_within : (k : ℕ) (p : Placed) → slice_get placed k ≡ Some p → p.base + length p.words ≤ code_words
  ends_within k p is =
      let m = member code_words placed series k p is in
      let f = fits m.0 (room_after code_words (take k placed)) (names_of m.2.0) p m.1.object_sound.relocs
      m.2.2.behind in
      omega (arith, f.code, code_after code_words (take k placed))

  pub are_loaded : AreLoaded code_words placed
  are_loaded = record {
    size = series.size;
    first = λ m is.
        let j = member code_words placed series 0 m is in
        (j.2.2.behind.base, j.2.2.behind.slot_base);
    next = λ k m n is there.
        let j = member code_words placed series (k + 1) n there in
        let room = room_more code_words placed k m is in
        record {
          words = j.2.2.behind.base ∙ ap (λ (r : Room). r.base) room;
          slots = j.2.2.behind.slot_base ∙ ap (λ (r : Room). r.slot_base) room;
        };
    ends = λ k d within.
        let p = get_or placed k d in ends_within k p (slice_get-get_or placed k d within);
    verified = λ k m is.
        let j = member code_words placed series k m is in
        (j.2.0, j.2.1, j.2.2.verified);
  }

  -- each module has a word at least
  rises : (k : ℕ) → k ≤ length placed → 16 + k ≤ (room_after code_words (take k placed)).base
  rises zero within = omega arith
  rises (suc k) within =
      let p = item_at placed k (omega (arith, within)) in
      let j = member code_words placed series k p.0 p.1 in
      let next = ap (λ (n : ℕ). (room_after code_words (take n placed)).base) (add-one k) in
      let room = ap (λ (r : Room). r.base) (room_more code_words placed k p.0 p.1) in
      omega (
        arith,
        rises k (omega (arith, within)),
        j.2.2.behind.base,
        some_length p.0.words j.2.2.verified.1.laid.some,
        next,
        room,
      )

  few : 16 + length placed ≤ MAX_CODE_WORDS
  few =
      let room = room_at code_words placed series (length placed) (omega arith) in
      omega (
        arith,
        rises (length placed) (omega arith),
        room.code,
        room.size.most,
      )

  types : All (λ (m : Placed). AreTypes m.types) placed
  types = λ k d within.
      let p = get_or placed k d in
      let j = member code_words placed series k p (slice_get-get_or placed k d within) in
      subst AreTypes (sym j.2.2.behind.types) j.1.table

  -- with what makes them apart
  pub have_graph : AreApart placed → HaveGraph placed
  have_graph apart = record {
    apart = apart;
    types = types;
    few = omega (arith, few);
    nodes = omega (
      arith,
      few,
      few_types placed (recursion_from_All (λ (m : Placed). AreTypes m.types) placed types),
    );
  }
