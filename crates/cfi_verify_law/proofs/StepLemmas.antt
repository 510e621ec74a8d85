-- One of the parts: it stands in the whole behind the parts before it.
use Rattle.std.proofs.Common.{◌≡◌, ◌∙◌, ℕ, ◌+◌, ◌*◌, ◌^◌, ◌<◌, ◌≤◌, List, [], ◌∷◌, ◌++◌, length, map, fold, get_or, refl, sym, ap, subst, ⊎_elim, inl, inr, arith}
use Rattle.std.specs.Prelude.{IsTrue}
use Rattle.std.specs.List.{All, Contains}
use Rattle.std.proofs.lemmas.List.{length-map, map-append}
use Rattle.std.proofs.lemmas.List.Concat.{flat_map-append}
use Rattle.std.proofs.lemmas.List.Elements.{All-map, All-contains, All-append, All-same, filter_map-append, Contains-append_left, Contains-append_right, Contains-append_cases}
use Rattle.std.proofs.lemmas.List.Sums.{fold-append}
use Rattle.std.proofs.lemmas.Option.{slice_get-get_or}
use Rattle.cfi_flow.proofs.Members.{from_map, member_map, no_member}
use Rattle.elf_read.specs.declared.object.Symbol.{Symbol}
use Rattle.cfi_word.specs.declared.limits.TheConstants.{MAX_NODES}
use Rattle.cfi_type_table.specs.Node.{Node}
use Rattle.cfi_type_table.specs.Kind.{is_callable}
use Rattle.cfi_aux.specs.Sound.{IsSoundModule}
use Rattle.cfi_aux.specs.declared.modules.Module.{Module}
use Rattle.cfi_aux.specs.declared.records.Function.{Function}
use Rattle.cfi_aux.specs.declared.records.Kind.{Kind}
use Rattle.cfi_aux.specs.declared.placed.Placed.{Placed}
use Rattle.cfi_aux.specs.declared.placed.PlacedFunction.{PlacedFunction}
use Rattle.cfi_unit.specs.declared.unit.Unit.{Unit as CodeUnit}
use Rattle.cfi_unit.specs.declared.spot.Spot.{Spot}
use Rattle.cfi_unit.specs.Spots.{spots_of, BeginsUnit}
use Rattle.cfi_place.specs.Functions.{placed_functions}
use Rattle.cfi_link.specs.declared.start.Start.{Start}
use Rattle.cfi_link.specs.Joined.{Joined, with_module, start_of, function_at, branch_at}
use Rattle.cfi_link.proofs.JoinedLemmas.{fold-below, with_module-lengths}
use Rattle.cfi_modules.specs.Room.{first_room, room_behind, room_after}
use Rattle.cfi_modules.specs.Order.{IsPlacedBehind, names_of}
use Rattle.cfi_modules.proofs.PlacedLemmas.{fits}
use Rattle.cfi_verify.specs.declared.checks.CheckSpot.{CheckSpot}
use Rattle.cfi_verify.specs.Spots.{check_of, checks_of}
use Rattle.cfi_verify.specs.Target.{entries_in, entries_of, MayLead}
use Rattle.cfi_verify.specs.Fault.{IsVerifiedAs}
use Rattle.cfi_verify_law.proofs.MovedLemmas.{moved, moved_check, words_in, spots-moved, spots-append, spots-high, checks-moved}
use Rattle.cfi_verify_law.proofs.LinkedRowLemmas.{Lie, HaveBranches, lie-rows, lie-append, have-rows, have-append}
use Rattle.cfi_verify_law.proofs.PartLemmas.{IsMoved, AreMoved, StandsIn, node-there, lie, leads, have}
use Rattle.cfi_verify_law.proofs.LinkedPlaceLemmas.{words_in-append, part-has, part-only, part-next, placed_by, AreNear, functions-moved, moved-home}
use Rattle.cfi_verify_law.proofs.JoinedLemmas.{functions_from, branches_from, functions-all, callable-all}

-- some modules are joined and stand in the whole, as these placed ones at the end of `done`, with the units `front`;
-- the others are still to be joined, with the units `rest`
pub record IsSoFar (code_words : ℕ) (whole : Placed) (symbols : List Symbol) (done before : List Placed)
    (joined : Joined) (ms : List Module) (front rest : List CodeUnit) : Type 0 where
  pub text : length joined.text ≡ 4 * words_in front
  pub base : (room_after code_words done).base ≡ whole.base + words_in front
  pub entries : (to : ℕ) → Contains (entries_of done) to → Contains (entries_of (whole ∷ before)) to
  pub size : length whole.words ≡ words_in (front ++ rest)
  pub small : 4 * length whole.words < 2 ^ 32
  pub functions : whole.functions ≡ placed_functions symbols (fold with_module joined ms).functions
  pub types : whole.types ≡ (fold with_module joined ms).types
  pub few : length (fold with_module joined ms).types ≤ MAX_NODES

-- rows of the whole for what stands from the word `n` on
pub record HasRows (whole : Placed) (before : List Placed) (W : List Spot) (n slot : ℕ) (fs : List PlacedFunction)
    (code : List CodeUnit) (bs : List Kind) : Type 0 where
  pub lies : Lie whole W n (length whole.words) fs
  pub checks : HaveBranches whole W slot (checks_of (spots_of n code)) bs
  pub targets : All (λ (s : Spot). MayLead whole before W s.at s.unit) (spots_of n code)

-- the room behind one module more
pub room-more : (code_words : ℕ) (done : List Placed) (p : Placed)
    → room_after code_words (done ++ p ∷ []) ≡ room_behind (room_after code_words done) p
room-more code_words done p = fold-append room_behind (first_room code_words) done (p ∷ [])

-- as many bytes of text as four for each word of the placed module
pub text-size : (code_words : ℕ) (done : List Placed) (m : Module) (p : Placed) → IsSoundModule m
    → IsPlacedBehind code_words done done m p → length m.object.text ≡ 4 * length p.words
text-size code_words done m p sound behind =
    let words = (fits m (room_after code_words done) (names_of done) p sound.object_sound.relocs behind).words in
    omega (arith, words, sound.object_sound.words)

module _ (code_words : ℕ) (whole : Placed) (symbols : List Symbol) (done before : List Placed) (joined : Joined)
    (m : Module) (ms : List Module) (p : Placed) (front code back : List CodeUnit)
    (far : IsSoFar code_words whole symbols done before joined (m ∷ ms) front (code ++ back))
    (sound : IsSoundModule m) (behind : IsPlacedBehind code_words done done m p)
    (rows : IsVerifiedAs p done (spots_of 0 code)) (count : length p.words ≡ words_in code) where
  abbrev W : List Spot
  W = spots_of 0 (front ++ (code ++ back))

  abbrev S : List Spot
  S = spots_of 0 code

  abbrev n : ℕ
  n = words_in front

  abbrev start : Start
  start = start_of joined

  abbrev own : List Function
  own = map (function_at start) m.records.functions

  fill : length whole.words ≡ n + (words_in code + words_in back)
  fill = omega (arith, far.size, words_in-append front (code ++ back), words_in-append code back)

  bytes : length m.object.text ≡ 4 * length p.words
  bytes = text-size code_words done m p sound behind

  table : start.types + length p.types < 2 ^ 32
  table =
      let one = (with_module-lengths joined m).types in
      let all = (fold-below ms (with_module joined m)).types in
      let few = far.few in
      let same : length p.types ≡ length m.types = ap (λ (xs : List Node). length xs) behind.types in
      omega (arith, one, all, few, same)

  -- ---- its functions

  near : AreNear (length p.words) (length p.types) p.functions
  near k d less =
      let fit = rows.laid.functions k (get_or p.functions k d) (slice_get-get_or p.functions k d less) in
      (omega (arith, fit.within, fit.some), node-there p.types (get_or p.functions k d).ty fit.typed)

  pub are-moved : AreMoved n start.types p.functions (placed_functions symbols own)
  are-moved =
      subst (λ (fs : List PlacedFunction). AreMoved n start.types fs (placed_functions symbols own))
      (sym behind.functions)
      (functions-moved m.object.symbols symbols start n (length p.words) (length p.types) far.text
      (omega (arith, far.small, fill, count)) table m.records.functions
      (subst (λ (fs : List PlacedFunction). AreNear (length p.words) (length p.types) fs) behind.functions near))

  among-all : (f : Function) → Contains own f → Contains (fold with_module joined (m ∷ ms)).functions f
  among-all f has =
      subst (λ (fs : List Function). Contains fs f) (sym (functions-all joined (m ∷ ms)))
      (Contains-append_right joined.functions (functions_from joined (m ∷ ms)) f
      (Contains-append_left own (functions_from (with_module joined m) ms) f has))

  among-whole : (g : PlacedFunction) → Contains (placed_functions symbols own) g → Contains whole.functions g
  among-whole g has =
      let found = from_map (placed_by symbols) own g has in
      let there = member_map (placed_by symbols) (fold with_module joined (m ∷ ms)).functions found.0
      (among-all found.0 found.1) in
      let placed = placed_functions symbols (fold with_module joined (m ∷ ms)).functions in
      subst (λ (fs : List PlacedFunction). Contains fs g) (sym far.functions)
      (subst (λ (h : PlacedFunction). Contains placed h) found.2 there)

  home-of : (f : PlacedFunction) → Contains p.functions f
      → (g : PlacedFunction) × Contains whole.functions g × IsMoved n start.types f g
  home-of f has =
      let found = moved-home n start.types p.functions (placed_functions symbols own) are-moved f has in
      (found.0, among-whole found.0 found.1, found.2)

  -- ---- where its jumps lead

  base-of : p.base ≡ whole.base + n
  base-of = behind.base ∙ far.base

  own-entries : (to : ℕ) → Contains (entries_in p) to → Contains (entries_of (whole ∷ before)) to
  own-entries to has =
      let found = from_map (λ (f : PlacedFunction). p.base + f.first) p.functions to has in
      let home = home-of found.0 found.1 in
      let same : whole.base + home.0.first ≡ to = omega (arith, base-of, home.2.first, found.2) in
      subst (λ (k : ℕ). Contains (entries_of (whole ∷ before)) k) same
      (Contains-append_left (entries_in whole) (entries_of before) (whole.base + home.0.first)
      (member_map (λ (f : PlacedFunction). whole.base + f.first) whole.functions home.0 home.1))

  entries-of : (to : ℕ) → Contains (entries_of (p ∷ done)) to → Contains (entries_of (whole ∷ before)) to
  entries-of to has =
      ⊎_elim (λ (own : Contains (entries_in p) to). own-entries to own)
      (λ (other : Contains (entries_of done) to). far.entries to other)
      (Contains-append_cases (entries_in p) (entries_of done) to has)

  pub entries-more : (to : ℕ) → Contains (entries_of (done ++ p ∷ [])) to → Contains (entries_of (whole ∷ before)) to
  entries-more to has =
      ⊎_elim (λ (other : Contains (entries_of done) to). far.entries to other)
      (λ (own : Contains (entries_in p ++ []) to).
      ⊎_elim (λ (here : Contains (entries_in p) to). own-entries to here)
      (λ (none : Contains {X = ℕ} [] to). absurd (no_member to none))
      (Contains-append_cases (entries_in p) [] to own))
      (Contains-append_cases (entries_of done) (entries_in p ++ []) to
      (subst (λ (xs : List ℕ). Contains xs to) (flat_map-append entries_in done (p ∷ [])) has))

  -- ---- it stands in the whole

  pub stands : StandsIn p whole done before S W n start
  stands = record {
    has = part-has front code back n refl;
    inside = λ s has.
        let high : s.at < 0 + words_in code =
        All-contains (λ (x : Spot). x.at < 0 + words_in code) S s (spots-high 0 code) has in
        omega (arith, high, count);
    only = λ w has low high. part-only front code back n refl w has low (omega (arith, high, count));
    next =
        ⊎_elim
        (λ (all : n + words_in code ≡ words_in (front ++ (code ++ back))). inl (omega (arith, all, count, far.size)))
        (λ (more : BeginsUnit W (n + words_in code)). inr (more.0, more.1, omega (arith, more.2, count)))
        (part-next front code back n refl);
    within = omega (arith, fill, count);
    base = base-of;
    text = far.text;
    small = far.small;
    table = table;
    callable = λ k is.
        subst (λ (xs : List Node). IsTrue (is_callable xs (start.types + k))) (sym far.types)
        (callable-all joined m ms p.types k behind.types is);
    homes = home-of;
    entries = entries-of;
  }

  -- ---- its rows

  pub own-lie : Lie whole W n (n + length p.words) (placed_functions symbols own)
  own-lie =
      lie p whole done before S W n start stands 0 (length p.words) n (n + length p.words) p.functions
      (placed_functions symbols own) are-moved (omega arith) refl (omega arith)
      (lie-rows p S rows.laid.functions rows.laid.idle rows.laid.ends)

  abbrev part-spots : List Spot
  part-spots = spots_of n code

  spots-are : part-spots ≡ map (moved n) S
  spots-are = spots-moved n 0 n code (omega arith)

  pub own-checks : HaveBranches whole W p.slot_base (checks_of part-spots) (map (branch_at start) m.records.branches)
  own-checks =
      let have_own : HaveBranches p S p.slot_base (checks_of S) p.branches =
      have-rows p S p.slot_base (checks_of S) p.branches rows.laid.slots rows.kinds rows.switches rows.records in
      let have_whole : HaveBranches whole W p.slot_base (map (moved_check n) (checks_of S))
      (map (branch_at start) p.branches) =
      have p whole done before S W n start stands p.slot_base (checks_of S) p.branches have_own in
      subst (λ (bs : List Kind). HaveBranches whole W p.slot_base (checks_of part-spots) (map (branch_at start) bs))
      behind.branches
      (subst (λ (cs : List CheckSpot). HaveBranches whole W p.slot_base cs (map (branch_at start) p.branches))
      (sym (ap checks_of spots-are ∙ checks-moved n S)) have_whole)

  pub own-targets : All (λ (s : Spot). MayLead whole before W s.at s.unit) part-spots
  own-targets =
      All-same (λ (s : Spot). MayLead whole before W s.at s.unit) part-spots (map (moved n) S) spots-are
      (All-map (λ (s : Spot). MayLead whole before W s.at s.unit) (moved n) S
      (λ k d less.
      leads p whole done before S W n start stands (get_or S k d).at (get_or S k d).unit
      (rows.targets k (get_or S k d) (slice_get-get_or S k d less))))

  -- with those of what stands behind it
  pub rows-more : HasRows whole before W (n + length p.words) (p.slot_base + length p.branches)
      (placed_functions symbols (functions_from (with_module joined m) ms)) back
      (branches_from (with_module joined m) ms)
      → HasRows whole before W n p.slot_base (placed_functions symbols (functions_from joined (m ∷ ms))) (code ++ back)
      (branches_from joined (m ∷ ms))
  rows-more rest =
      let split : spots_of n (code ++ back) ≡ part-spots ++ spots_of (n + length p.words) back =
      spots-append n (n + length p.words) code back (omega (arith, count)) in
      let few : length (map (branch_at start) m.records.branches) ≡ length p.branches =
      length-map m.records.branches (branch_at start) ∙ sym (ap (λ (bs : List Kind). length bs) behind.branches) in
      record {
        lies =
            subst (λ (fs : List PlacedFunction). Lie whole W n (length whole.words) fs)
            (sym (map-append (placed_by symbols) own (functions_from (with_module joined m) ms)))
            (lie-append whole W n (n + length p.words) (length whole.words) (placed_functions symbols own) _ own-lie
            rest.lies);
        checks =
            subst (λ (cs : List CheckSpot). HaveBranches whole W p.slot_base cs (branches_from joined (m ∷ ms)))
            (sym (ap checks_of split ∙ filter_map-append check_of part-spots (spots_of (n + length p.words) back)))
            (have-append whole W p.slot_base (p.slot_base + length p.branches) (checks_of part-spots) _ _ _
            (omega (arith, few)) own-checks rest.checks);
        targets =
            All-same (λ (s : Spot). MayLead whole before W s.at s.unit) _ _ split
            (All-append (λ (s : Spot). MayLead whole before W s.at s.unit) part-spots _ own-targets rest.targets);
      }
