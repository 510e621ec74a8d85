-- The units of modules that follow each other, as one list.
use Rattle.std.proofs.Common.{◌≡◌, ℕ, zero, suc, ◌+◌, ◌-◌, ◌*◌, ◌<◌, ◌≤◌, ◌++◌, List, [], ◌∷◌, length, take, Some, refl, ap, sym, subst, ◌∙◌, ⊎_elim, arith, length-append}
use Rattle.std.specs.List.{Contains, flat_map, slice_get, AllByRecursion}
use Rattle.std.proofs.Math.ListN.{get_or-append}
use Rattle.std.proofs.Math.Seq.{take-append-add, get_or-append_right}
use Rattle.std.proofs.lemmas.Bool.{cases_lt}
use Rattle.std.proofs.lemmas.List.{take-append-le, get_or-append-add}
use Rattle.std.proofs.lemmas.List.Concat.{flat_map-append}
use Rattle.std.proofs.lemmas.Option.{slice_get-get_or, slice_get_within, get_or_from_slice_get}
use Rattle.cfi_unit.specs.declared.unit.Unit.{Unit as CodeUnit}
use Rattle.cfi_unit.specs.Unit.{words_of}
use Rattle.cfi_unit.specs.Code.{UnitCode}
use Rattle.cfi_unit.specs.Spots.{place_of}
use Rattle.cfi_aux.specs.declared.placed.Placed.{Placed}
use Rattle.cfi_graph.specs.Shaped.{Follows}
use Rattle.cfi_flow.proofs.Members.{member_first, member_later}

-- the modules begin at these places, in words and in slots, and follow each other
abbrev pub IsChain : (base slot : ℕ) → List Placed → Type 0
IsChain base slot [] = Unit {0}
IsChain base slot (m ∷ ms) =
    (m.base ≡ base) × (m.slot_base ≡ slot) × IsChain (base + length m.words) (slot + length m.branches) ms

pub chain_of : (ms : List Placed) (base slot : ℕ)
    → ((m : Placed) → slice_get ms 0 ≡ Some m → (m.base ≡ base) × (m.slot_base ≡ slot))
    → ((k : ℕ) (m n : Placed) → slice_get ms k ≡ Some m → slice_get ms (k + 1) ≡ Some n → Follows m n)
    → IsChain base slot ms
chain_of [] base slot first next = tt
chain_of (m ∷ ms) base slot first next =
    let here = first m refl in (
      here.0,
      here.1,
      chain_of ms (base + length m.words) (slot + length m.branches)
          (λ n is.
          let follows = next 0 m n refl is in
          (omega (arith, follows.words, here.0), omega (arith, follows.slots, here.1)))
          (λ k a b is is'.
          let same : suc k + 1 ≡ suc (k + 1) = omega arith in
          next (suc k) a b is (ap (slice_get (m ∷ ms)) same ∙ is')),
    )

-- the units of a module
pub record HasUnits (m : Placed) : Type 0 where
  pub code : List CodeUnit
  pub units : UnitCode m.words code

-- the units of all
abbrev pub joined : (ms : List Placed) → AllByRecursion HasUnits ms → List CodeUnit
joined [] all = []
joined (m ∷ ms) all = all.0.code ++ joined ms all.1

-- ---- lists behind each other

pub place_left : (us vs : List CodeUnit) (k : ℕ) → k ≤ length us → place_of (us ++ vs) k ≡ place_of us k
place_left us vs k within = ap (λ (xs : List CodeUnit). length (flat_map words_of xs)) (take-append-le k us vs within)

place_right : (us vs : List CodeUnit) (k : ℕ)
    → place_of (us ++ vs) (length us + k) ≡ length (flat_map words_of us) + place_of vs k
place_right us vs k =
    ap (λ (xs : List CodeUnit). length (flat_map words_of xs)) (take-append-add us vs k)
    ∙ ap (λ (ws : List ℕ). length ws) (flat_map-append words_of us (take k vs))
    ∙ length-append (flat_map words_of us) (flat_map words_of (take k vs))

pub there_left : {X : Type 0} (us vs : List X) (k : ℕ) (u : X) → slice_get us k ≡ Some u → slice_get (us ++ vs) k ≡ Some u
there_left {X} us vs k u is =
    let within = slice_get_within us k u is in
    slice_get-get_or (us ++ vs) k u (omega (arith, within, length-append us vs))
    ∙ ap (λ (x : X). Some x) (get_or-append us vs u k within ∙ get_or_from_slice_get us k u u is)

there_right : {X : Type 0} (us vs : List X) (k : ℕ) (u : X) → slice_get vs k ≡ Some u
    → slice_get (us ++ vs) (length us + k) ≡ Some u
there_right {X} us vs k u is =
    let within = slice_get_within vs k u is in
    slice_get-get_or (us ++ vs) (length us + k) u (omega (arith, within, length-append us vs))
    ∙ ap (λ (x : X). Some x) (get_or-append-add us vs k u ∙ get_or_from_slice_get vs k u u is)

pub from_left : {X : Type 0} (us vs : List X) (k : ℕ) (u : X) → k < length us → slice_get (us ++ vs) k ≡ Some u
    → slice_get us k ≡ Some u
from_left {X} us vs k u within is =
    slice_get-get_or us k u within
    ∙ ap (λ (x : X). Some x)
    (sym (get_or-append us vs u k within) ∙ get_or_from_slice_get (us ++ vs) k u u is)

pub from_right : {X : Type 0} (us vs : List X) (k : ℕ) (u : X) → length us ≤ k → slice_get (us ++ vs) k ≡ Some u
    → slice_get vs (k - length us) ≡ Some u
from_right {X} us vs k u beyond is =
    let within = slice_get_within (us ++ vs) k u is in
    slice_get-get_or vs (k - length us) u (omega (arith, within, beyond, length-append us vs))
    ∙ ap (λ (x : X). Some x)
    (sym (get_or-append_right us vs k u beyond) ∙ get_or_from_slice_get (us ++ vs) k u u is)

-- ---- modules among the units of all

-- the units of the module are these of all, which begin at the base
pub record IsPartOf (base : ℕ) (all : List CodeUnit) (m : Placed) : Type 0 where
  pub code : List CodeUnit
  pub units : UnitCode m.words code
  pub before : ℕ
  pub place : (k : ℕ) → k ≤ length code → base + place_of all (before + k) ≡ m.base + place_of code k
  pub there : (k : ℕ) (u : CodeUnit) → slice_get code k ≡ Some u → slice_get all (before + k) ≡ Some u

-- the unit of a number of all is one of a module's
pub record IsOf (base : ℕ) (ms : List Placed) (all : List CodeUnit) (n : ℕ) (u : CodeUnit) : Type 0 where
  pub owner : Placed
  pub has : Contains ms owner
  pub part : IsPartOf base all owner
  pub k : ℕ
  pub number : n ≡ part.before + k
  pub is : slice_get part.code k ≡ Some u

module _ (base slot : ℕ) (m : Placed) (ms : List Placed) (all : AllByRecursion HasUnits (m ∷ ms))
    (chain : IsChain base slot (m ∷ ms)) where
  abbrev us : List CodeUnit
  us = all.0.code

  abbrev vs : List CodeUnit
  vs = joined ms all.1

  abbrev part_here : IsPartOf base (us ++ vs) m
  part_here = record {
    code = us;
    units = all.0.units;
    before = 0;
    place = λ k within.
        let same : 0 + k ≡ k = omega arith in
        omega (arith, ap (place_of (us ++ vs)) same, place_left us vs k within, chain.0);
    there = λ k u is.
        let same : 0 + k ≡ k = omega arith in ap (slice_get (us ++ vs)) same ∙ there_left us vs k u is;
  }

  abbrev part_behind : (n : Placed) → IsPartOf (base + length m.words) vs n → IsPartOf base (us ++ vs) n
  part_behind n part = record {
    code = part.code;
    units = part.units;
    before = length us + part.before;
    place = λ k within.
        let same : length us + part.before + k ≡ length us + (part.before + k) = omega arith in
        omega (
          arith,
          ap (place_of (us ++ vs)) same,
          place_right us vs (part.before + k),
          part.place k within,
          ap (λ (ws : List ℕ). length ws) all.0.units.spelled,
        );
    there = λ k u is.
        let same : length us + (part.before + k) ≡ length us + part.before + k = omega arith in
        ap (slice_get (us ++ vs)) (sym same) ∙ there_right us vs (part.before + k) u (part.there k u is);
  }

  of_behind : (n : ℕ) (u : CodeUnit) → length us ≤ n → IsOf (base + length m.words) ms vs (n - length us) u
      → IsOf base (m ∷ ms) (us ++ vs) n u
  of_behind n u beyond o = record {
    owner = o.owner;
    has = member_later m ms o.owner o.has;
    part = part_behind o.owner o.part;
    k = o.k;
    number = omega (arith, o.number, beyond);
    is = o.is;
  }

-- a module is a part of all
pub part_of : (base slot : ℕ) (ms : List Placed) (all : AllByRecursion HasUnits ms) → IsChain base slot ms → (j : ℕ)
    (m : Placed) → slice_get ms j ≡ Some m → IsPartOf base (joined ms all) m
part_of base slot [] all chain j m is = absurd (omega (arith, slice_get_within [] j m is))
part_of base slot (n ∷ ms) all chain zero m is =
    subst (IsPartOf base (joined (n ∷ ms) all)) (get_or_from_slice_get (n ∷ ms) 0 m m is)
    (part_here base slot n ms all chain)
part_of base slot (n ∷ ms) all chain (suc j) m is =
    part_behind base slot n ms all chain m
    (part_of (base + length n.words) (slot + length n.branches) ms all.1 chain.2 j m is)

-- each unit of all is one of a module
pub of_module : (base slot : ℕ) (ms : List Placed) (all : AllByRecursion HasUnits ms) → IsChain base slot ms → (n : ℕ)
    (u : CodeUnit) → slice_get (joined ms all) n ≡ Some u → IsOf base ms (joined ms all) n u
of_module base slot [] all chain n u is = absurd (omega (arith, slice_get_within [] n u is))
of_module base slot (m ∷ ms) all chain n u is =
    let us = all.0.code in
    let vs = joined ms all.1 in
    ⊎_elim
    (λ (less : n < length us). record {
      owner = m;
      has = member_first m ms;
      part = part_here base slot m ms all chain;
      k = n;
      number = omega arith;
      is = from_left us vs n u less is;
    })
    (λ (more : length us ≤ n).
    of_behind base slot m ms all chain n u more
    (of_module (base + length m.words) (slot + length m.branches) ms all.1 chain.2 (n - length us) u
    (from_right us vs n u more is)))
    (cases_lt n (length us))

-- ---- their words and slots

-- the words of all
pub words_joined : (ms : List Placed) (all : AllByRecursion HasUnits ms)
    → flat_map words_of (joined ms all) ≡ flat_map (λ (m : Placed). m.words) ms
words_joined [] all = refl
words_joined (m ∷ ms) all =
    flat_map-append words_of all.0.code (joined ms all.1)
    ∙ ap (λ (ws : List ℕ). ws ++ flat_map words_of (joined ms all.1)) (sym all.0.units.spelled)
    ∙ ap (λ (ws : List ℕ). m.words ++ ws) (words_joined ms all.1)

-- where each module has fourteen words for a branch, so have all up to its end
pub few_slots : (base slot : ℕ) (ms : List Placed) → IsChain base slot ms
    → AllByRecursion (λ (m : Placed). 14 * length m.branches ≤ length m.words) ms → (j : ℕ) (m : Placed)
    → slice_get ms j ≡ Some m
    → 14 * (m.slot_base + length m.branches) + base ≤ 14 * slot + m.base + length m.words
few_slots base slot [] chain all j m is = absurd (omega (arith, slice_get_within [] j m is))
few_slots base slot (n ∷ ms) chain all zero m is =
    let same = get_or_from_slice_get (n ∷ ms) 0 m m is in
    subst (λ (p : Placed). 14 * (p.slot_base + length p.branches) + base ≤ 14 * slot + p.base + length p.words) same
    (omega (arith, chain.0, chain.1, all.0))
few_slots base slot (n ∷ ms) chain all (suc j) m is =
    omega (
      arith,
      few_slots (base + length n.words) (slot + length n.branches) ms chain.2 all.1 j m is,
      all.0,
    )
