-- The places of units, and the checks among them.
use Rattle.std.proofs.Common.{◌≡◌, ℕ, ◌+◌, ◌*◌, ◌^◌, ◌<◌, ◌≤◌, List, [], ◌∷◌, length, get_or, Some, ap, sym, subst, ⊎_elim, arith, length-append}
use Rattle.std.specs.List.{All, AllPairs, flat_map, slice_get, cons_option}
use Rattle.std.proofs.lemmas.Bool.{cases_lt}
use Rattle.std.proofs.lemmas.List.Elements.{All-nil, All-cons, All-head, All-tail, All-weaker, All-same}
use Rattle.std.proofs.lemmas.List.Kept.{AllPairs-cons}
use Rattle.std.proofs.lemmas.Option.{get_or_from_slice_get, slice_get_within}
use Rattle.cfi_unit.specs.declared.unit.Unit.{Unit as CodeUnit}
use Rattle.cfi_unit.specs.declared.unit.Unit.TheVariants as units
use Rattle.cfi_unit.specs.Unit.{words_of, size_of}
use Rattle.cfi_unit.proofs.UnitLemmas.{size_pos}
use Rattle.cfi_unit.proofs.CodeLemmas.{length-words_of}
use Rattle.cfi_unit.specs.declared.spot.Spot.{Spot}
use Rattle.cfi_verify.specs.declared.checks.CheckSpot.{CheckSpot}
use Rattle.cfi_unit.specs.Spots.{spots_of, AreSpots}
use Rattle.cfi_verify.specs.Spots.{check_in, checks_of}
use Rattle.cfi_verify.specs.inner.Places.{AreRising, AreSmall, AreSmallChecks}

-- the words of the units
abbrev words_in : List CodeUnit → ℕ
words_in code = length (flat_map words_of code)

words_in-cons : (unit : CodeUnit) (code : List CodeUnit) → words_in (unit ∷ code) ≡ size_of unit + words_in code
words_in-cons unit code =
    omega (arith, length-append (words_of unit) (flat_map words_of code), length-words_of unit)

-- no unit stands before the first
low : (a : ℕ) (code : List CodeUnit) → All (λ (s : Spot). a ≤ s.at) (spots_of a code)
low a [] = All-nil (λ (s : Spot). a ≤ s.at)
low a (u ∷ us) =
    All-cons (λ (s : Spot). a ≤ s.at) _ _ (omega arith)
    (All-weaker (λ (s : Spot). a + size_of u ≤ s.at) (λ (s : Spot). a ≤ s.at) (λ s h. omega (arith, h))
    (spots_of (a + size_of u) us) (low (a + size_of u) us))

-- those after a unit stand after it
above : (a : ℕ) (u : CodeUnit) (us : List CodeUnit) → All (λ (s : Spot). a < s.at) (spots_of (a + size_of u) us)
above a u us =
    All-weaker (λ (s : Spot). a + size_of u ≤ s.at) (λ (s : Spot). a < s.at)
    (λ s h. omega (arith, h, size_pos u)) (spots_of (a + size_of u) us) (low (a + size_of u) us)

rising : (a : ℕ) (code : List CodeUnit) → AreRising (spots_of a code)
rising a [] = λ i j d less within. absurd (omega (arith, within))
rising a (u ∷ us) =
    AllPairs-cons (λ (s t : Spot). s.at < t.at) _ _ (above a u us) (rising (a + size_of u) us)

-- each unit stands within the words
within : (a : ℕ) (code : List CodeUnit) → All (λ (s : Spot). s.at < a + words_in code) (spots_of a code)
within a [] = All-nil (λ (s : Spot). s.at < a + words_in [])
within a (u ∷ us) =
    let total : words_in (u ∷ us) ≡ size_of u + words_in us = words_in-cons u us in
    All-cons (λ (s : Spot). s.at < a + words_in (u ∷ us)) _ _ (omega (arith, total, size_pos u))
    (All-weaker (λ (s : Spot). s.at < a + size_of u + words_in us) (λ (s : Spot). s.at < a + words_in (u ∷ us))
    (λ s h. omega (arith, h, total)) (spots_of (a + size_of u) us) (within (a + size_of u) us))

-- there are no more units than words
few : (a : ℕ) (code : List CodeUnit) → length (spots_of a code) ≤ words_in code
few a [] = omega arith
few a (u ∷ us) = omega (arith, few (a + size_of u) us, words_in-cons u us, size_pos u)

-- ---- checks

check_all : (P : ℕ → Type 0) (at : ℕ) (unit : CodeUnit) (rest : List CheckSpot) → P at →
    All (λ (c : CheckSpot). P c.at) rest → All (λ (c : CheckSpot). P c.at) (cons_option (check_in at unit) rest)
check_all P at (units.Check link rs1 imm slot) rest here all = All-cons (λ (c : CheckSpot). P c.at) _ rest here all
check_all P at (units.Plain insn) rest here all = all
check_all P at (units.Load kind rd rs1 imm) rest here all = all
check_all P at (units.Store kind rs1 rs2 imm) rest here all = all
check_all P at (units.Branch cond rs1 rs2 off) rest here all = all
check_all P at (units.Jump link off) rest here all = all
check_all P at units.Service rest here all = all

checks_all : (P : ℕ → Type 0) (a : ℕ) (code : List CodeUnit) → All (λ (s : Spot). P s.at) (spots_of a code) →
    All (λ (c : CheckSpot). P c.at) (checks_of (spots_of a code))
checks_all P a [] all = All-nil (λ (c : CheckSpot). P c.at)
checks_all P a (u ∷ us) all =
    check_all P a u (checks_of (spots_of (a + size_of u) us)) (All-head (λ (s : Spot). P s.at) _ _ all)
    (checks_all P (a + size_of u) us (All-tail (λ (s : Spot). P s.at) _ _ all))

check_pairs : (at : ℕ) (unit : CodeUnit) (rest : List CheckSpot) → All (λ (c : CheckSpot). at < c.at) rest →
    AllPairs (λ (c e : CheckSpot). c.at < e.at) rest →
    AllPairs (λ (c e : CheckSpot). c.at < e.at) (cons_option (check_in at unit) rest)
check_pairs at (units.Check link rs1 imm slot) rest after pairs =
    AllPairs-cons (λ (c e : CheckSpot). c.at < e.at) _ rest after pairs
check_pairs at (units.Plain insn) rest after pairs = pairs
check_pairs at (units.Load kind rd rs1 imm) rest after pairs = pairs
check_pairs at (units.Store kind rs1 rs2 imm) rest after pairs = pairs
check_pairs at (units.Branch cond rs1 rs2 off) rest after pairs = pairs
check_pairs at (units.Jump link off) rest after pairs = pairs
check_pairs at units.Service rest after pairs = pairs

checks_rising : (a : ℕ) (code : List CodeUnit) →
    AllPairs (λ (c e : CheckSpot). c.at < e.at) (checks_of (spots_of a code))
checks_rising a [] = λ i j d less inside. absurd (omega (arith, inside))
checks_rising a (u ∷ us) =
    check_pairs a u (checks_of (spots_of (a + size_of u) us))
    (checks_all (λ (k : ℕ). a < k) (a + size_of u) us (above a u us)) (checks_rising (a + size_of u) us)

check_few : (at : ℕ) (unit : CodeUnit) (rest : List CheckSpot) →
    length (cons_option (check_in at unit) rest) ≤ length rest + 1
check_few at (units.Check link rs1 imm slot) rest = omega arith
check_few at (units.Plain insn) rest = omega arith
check_few at (units.Load kind rd rs1 imm) rest = omega arith
check_few at (units.Store kind rs1 rs2 imm) rest = omega arith
check_few at (units.Branch cond rs1 rs2 off) rest = omega arith
check_few at (units.Jump link off) rest = omega arith
check_few at units.Service rest = omega arith

checks_few : (a : ℕ) (code : List CodeUnit) → length (checks_of (spots_of a code)) ≤ length (spots_of a code)
checks_few a [] = omega arith
checks_few a (u ∷ us) =
    omega (arith, check_few a u (checks_of (spots_of (a + size_of u) us)), checks_few (a + size_of u) us)

-- ---- of the units of words

module _ (words : List ℕ) (spots : List Spot) (are : AreSpots words spots) where
  -- what holds of the spots of the code holds of these
  here : (P : List Spot → Type 0) → P (spots_of 0 are.code) → P spots
  here P holds = subst P (sym are.places) holds

  count : words_in are.code ≡ length words
  count = ap length (sym are.units.spelled)

  pub spots-rising : AreRising spots
  spots-rising = here AreRising (rising 0 are.code)

  pub spots-within : All (λ (s : Spot). s.at < length words) spots
  spots-within =
      here (λ (xs : List Spot). All (λ (s : Spot). s.at < length words) xs)
      (All-weaker (λ (s : Spot). s.at < 0 + words_in are.code) (λ (s : Spot). s.at < length words)
      (λ s h. omega (arith, h, count)) (spots_of 0 are.code) (within 0 are.code))

  pub spots-small : 4 * length words < 2 ^ 32 → AreSmall spots
  spots-small fits =
      All-weaker (λ (s : Spot). s.at < length words) (λ (s : Spot). 4 * s.at < 2 ^ 32)
      (λ s h. omega (arith, h, fits)) spots spots-within

  pub checks-small : 4 * length words < 2 ^ 32 → AreSmallChecks (checks_of spots)
  checks-small fits =
      here (λ (xs : List Spot). AreSmallChecks (checks_of xs))
      (checks_all (λ (k : ℕ). 4 * k < 2 ^ 32) 0 are.code
      (All-same (λ (s : Spot). 4 * s.at < 2 ^ 32) (spots_of 0 are.code) spots (sym are.places) (spots-small fits)))

  pub checks-within : All (λ (c : CheckSpot). c.at < length words) (checks_of spots)
  checks-within =
      here (λ (xs : List Spot). All (λ (c : CheckSpot). c.at < length words) (checks_of xs))
      (checks_all (λ (k : ℕ). k < length words) 0 are.code
      (All-same (λ (s : Spot). s.at < length words) (spots_of 0 are.code) spots (sym are.places) spots-within))

  pub checks-rising : AllPairs (λ (c e : CheckSpot). c.at < e.at) (checks_of spots)
  checks-rising =
      here (λ (xs : List Spot). AllPairs (λ (c e : CheckSpot). c.at < e.at) (checks_of xs)) (checks_rising 0 are.code)

  pub checks-few : length (checks_of spots) ≤ length words
  checks-few =
      here (λ (xs : List Spot). length (checks_of xs) ≤ length words)
      (omega (arith, checks_few 0 are.code, few 0 are.code, count))

-- places rise along a list
pub rise_from : {T : Type 0} (at : T → ℕ) (xs : List T) → AllPairs (λ (s t : T). at s < at t) xs → (i j : ℕ) (x y : T)
    → slice_get xs i ≡ Some x → slice_get xs j ≡ Some y → i ≤ j → at x ≤ at y
rise_from {T} at xs pairs i j x y first second order =
    let one : get_or xs i x ≡ x = get_or_from_slice_get xs i x x first in
    let other : get_or xs j x ≡ y = get_or_from_slice_get xs j y x second in
    ⊎_elim
    (λ (less : i < j). omega (arith, pairs i j x less (slice_get_within xs j y second), ap at one, ap at other))
    (λ (more : j ≤ i).
    let same : i ≡ j = omega (arith, more, order) in
    omega (arith, ap at one, ap at other, ap (λ (k : ℕ). at (get_or xs k x)) same))
    (cases_lt i j)
