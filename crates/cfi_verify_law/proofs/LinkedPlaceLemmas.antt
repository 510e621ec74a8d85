-- A part among the units of the whole, and its functions among those of the whole.
use Rattle.std.proofs.Common.{◌≡◌, ◌⊎◌, ◌∙◌, ℕ, suc, ◌+◌, ◌*◌, ◌/◌, ◌^◌, ◌<◌, ◌≤◌, List, [], ◌∷◌, ◌++◌, length, map, refl, sym, ap, subst, ⊎_elim, inl, inr, arith, length-append}
use Rattle.std.specs.List.{All, Contains, flat_map}
use Rattle.std.proofs.lemmas.List.Elements.{All-contains, Contains-append_left, Contains-append_right, Contains-append_cases}
use Rattle.std.proofs.lemmas.List.Concat.{flat_map-append}
use Rattle.cfi_flow.proofs.Members.{member_first, member_later, member_cases, member_map, from_map, no_member}
use Rattle.elf_read.specs.declared.object.Symbol.{Symbol}
use Rattle.cfi_aux.specs.Placed.{is_global}
use Rattle.cfi_aux.specs.declared.records.Function.{Function}
use Rattle.cfi_aux.specs.declared.placed.PlacedFunction.{PlacedFunction}
use Rattle.cfi_unit.specs.declared.unit.Unit.{Unit as CodeUnit}
use Rattle.cfi_unit.specs.declared.spot.Spot.{Spot}
use Rattle.cfi_unit.specs.Unit.{words_of}
use Rattle.cfi_unit.specs.Spots.{spots_of, BeginsUnit}
use Rattle.cfi_place.specs.Functions.{make_function, placed_functions}
use Rattle.cfi_link.specs.declared.start.Start.{Start}
use Rattle.cfi_link.specs.Joined.{function_at}
use Rattle.cfi_verify_law.proofs.MovedLemmas.{moved, words_in, spots-moved, spots-append, spots-low, spots-high}
use Rattle.cfi_verify_law.proofs.PartLemmas.{IsMoved, AreMoved, shifted-fits}

-- ---- units

pub words_in-append : (us vs : List CodeUnit) → words_in (us ++ vs) ≡ words_in us + words_in vs
words_in-append us vs =
    ap (λ (ws : List ℕ). length ws) (flat_map-append words_of us vs)
    ∙ length-append (flat_map words_of us) (flat_map words_of vs)

module _ (front code back : List CodeUnit) (n : ℕ) (at : n ≡ words_in front) where
  abbrev whole : List Spot
  whole = spots_of 0 (front ++ (code ++ back))

  abbrev end : ℕ
  end = n + words_in code

  pub whole-parts : whole ≡ spots_of 0 front ++ (map (moved n) (spots_of 0 code) ++ spots_of end back)
  whole-parts =
      spots-append 0 n front (code ++ back) (omega (arith, at))
      ∙ ap (λ (xs : List Spot). spots_of 0 front ++ xs)
      (spots-append n end code back refl
      ∙ ap (λ (xs : List Spot). xs ++ spots_of end back) (spots-moved n 0 n code (omega arith)))

  pub part-has : (s : Spot) → Contains (spots_of 0 code) s → Contains whole (moved n s)
  part-has s has =
      subst (λ (xs : List Spot). Contains xs (moved n s)) (sym whole-parts)
      (Contains-append_right (spots_of 0 front) (map (moved n) (spots_of 0 code) ++ spots_of end back) (moved n s)
      (Contains-append_left (map (moved n) (spots_of 0 code)) (spots_of end back) (moved n s)
      (member_map (moved n) (spots_of 0 code) s has)))

  abbrev IsPart : Spot → Type 0
  IsPart w = (s : Spot) × Contains (spots_of 0 code) s × (w ≡ moved n s)

  part-inner : (w : Spot) → Contains (map (moved n) (spots_of 0 code)) w → IsPart w
  part-inner w has =
      let found = from_map (moved n) (spots_of 0 code) w has in
      (found.0, found.1, sym found.2)

  pub part-only : (w : Spot) → Contains whole w → n ≤ w.at → w.at < end → IsPart w
  part-only w has low high =
      ⊎_elim
      (λ (before : Contains (spots_of 0 front) w).
      let less : w.at < 0 + words_in front =
      All-contains (λ (s : Spot). s.at < 0 + words_in front) (spots_of 0 front) w (spots-high 0 front) before in
      absurd (omega (arith, less, low, at)))
      (λ (rest : Contains (map (moved n) (spots_of 0 code) ++ spots_of end back) w).
      ⊎_elim (λ (here : Contains (map (moved n) (spots_of 0 code)) w). part-inner w here)
      (λ (behind : Contains (spots_of end back) w).
      let more : end ≤ w.at =
      All-contains (λ (s : Spot). end ≤ s.at) (spots_of end back) w (spots-low end back) behind in
      absurd (omega (arith, more, high)))
      (Contains-append_cases (map (moved n) (spots_of 0 code)) (spots_of end back) w rest))
      (Contains-append_cases (spots_of 0 front) (map (moved n) (spots_of 0 code) ++ spots_of end back) w
      (subst (λ (xs : List Spot). Contains xs w) whole-parts has))

  behind-begins : (xs : List CodeUnit) → (words_in xs ≡ 0) ⊎ BeginsUnit (spots_of end xs) end
  behind-begins [] = inl refl
  behind-begins (u ∷ us) = inr (_, member_first _ (spots_of _ us), refl)

  pub part-next : (end ≡ words_in (front ++ (code ++ back))) ⊎ BeginsUnit whole end
  part-next =
      ⊎_elim
      (λ (none : words_in back ≡ 0).
      inl (omega (arith, none, at, words_in-append front (code ++ back), words_in-append code back)))
      (λ (some : BeginsUnit (spots_of end back) end).
      inr (
        some.0,
        subst (λ (xs : List Spot). Contains xs some.0) (sym whole-parts)
            (Contains-append_right (spots_of 0 front) (map (moved n) (spots_of 0 code) ++ spots_of end back) some.0
            (Contains-append_right (map (moved n) (spots_of 0 code)) (spots_of end back) some.0 some.1)),
        some.2,
      ))
      (behind-begins back)

-- ---- functions

-- a function as it is placed
abbrev pub placed_by : List Symbol → Function → PlacedFunction
placed_by symbols f = make_function (is_global symbols f) f

-- where the record of a function begins in few enough bytes, it stands so many words further on
pub function-moved : (symbols all : List Symbol) (start : Start) (n words types : ℕ) (f : Function)
    → start.text ≡ 4 * n → f.offset / 4 < words → f.ty < types → 4 * (n + words) < 2 ^ 32 → start.types + types < 2 ^ 32
    → IsMoved n start.types (placed_by symbols f) (placed_by all (function_at start f))
function-moved symbols all start n words types f text less named small table =
    let fits : start.text + f.offset < 2 ^ 32 = omega (arith, text, less, small) in
    let place = shifted-fits start.text f.offset fits in
    record {
      first = ap (λ (k : ℕ). k / 4) place ∙ omega (arith, text);
      count = refl;
      ty = shifted-fits start.types f.ty (omega (arith, named, table));
    }

-- the record of each function begins within the words, and its type is there
abbrev pub AreNear : (words types : ℕ) → List PlacedFunction → Type 0
AreNear words types fs = All (λ (f : PlacedFunction). (f.first < words) × (f.ty < types)) fs

module _ (symbols all : List Symbol) (start : Start) (n words types : ℕ) (text : start.text ≡ 4 * n)
    (small : 4 * (n + words) < 2 ^ 32) (table : start.types + types < 2 ^ 32) where
  pub functions-moved : (fs : List Function) → AreNear words types (placed_functions symbols fs)
      → AreMoved n start.types (placed_functions symbols fs) (placed_functions all (map (function_at start) fs))
  functions-moved [] near = tt
  functions-moved (f ∷ fs) near =
      let one = near 0 (placed_by symbols f) (omega arith) in
      let rest : AreNear words types (placed_functions symbols fs) =
      λ k d less. near (suc k) d (omega (arith, less)) in
      (function-moved symbols all start n words types f text one.0 one.1 small table, functions-moved fs rest)

-- a function of a list is so in the other
pub moved-home : (n t : ℕ) (fs gs : List PlacedFunction) → AreMoved n t fs gs → (f : PlacedFunction) → Contains fs f
    → (g : PlacedFunction) × Contains gs g × IsMoved n t f g
moved-home n t [] gs are f has = absurd (no_member f has)
moved-home n t (h ∷ fs) [] are f has = absurd are
moved-home n t (h ∷ fs) (g ∷ gs) are f has =
    elim (member_cases h fs f has) [
      | inl same ↦ (g, member_first g gs, subst (λ (x : PlacedFunction). IsMoved n t x g) same are.0)
      | inr later ↦
          let found = moved-home n t fs gs are.1 f later in
          (found.0, member_later g gs found.0 found.1, found.2)
    ]
