-- Units that stand further on, and the checks among them.
use Rattle.std.proofs.Common.{◌≡◌, ◌∙◌, ℕ, ◌+◌, ◌<◌, ◌≤◌, List, [], ◌∷◌, ◌++◌, length, map, refl, ap, arith, length-append}
use Rattle.std.specs.List.{All, flat_map, cons_option}
use Rattle.std.proofs.lemmas.List.Elements.{All-nil, All-cons, All-weaker}
use Rattle.cfi_unit.specs.declared.unit.Unit.{Unit as CodeUnit}
use Rattle.cfi_unit.specs.declared.unit.Unit.TheVariants as units
use Rattle.cfi_unit.specs.declared.spot.Spot.{Spot}
use Rattle.cfi_unit.specs.Unit.{words_of, size_of}
use Rattle.cfi_unit.specs.Spots.{spots_of}
use Rattle.cfi_unit.proofs.CodeLemmas.{length-words_of}
use Rattle.cfi_unit.proofs.UnitLemmas.{size_pos}
use Rattle.cfi_verify.specs.declared.checks.CheckSpot.{CheckSpot}
use Rattle.cfi_verify.specs.Spots.{check_in, checks_of}

-- a unit and a check so many words further on
abbrev pub spot_of : (at : ℕ) → CodeUnit → Spot
spot_of at unit = record { at = at; unit = unit }

abbrev pub moved : (n : ℕ) → Spot → Spot
moved n s = record { at = n + s.at; unit = s.unit }

abbrev pub moved_check : (n : ℕ) → CheckSpot → CheckSpot
moved_check n c = record { at = n + c.at; link = c.link; slot = c.slot }

-- the words of units
abbrev pub words_in : List CodeUnit → ℕ
words_in code = length (flat_map words_of code)

pub words_in-cons : (unit : CodeUnit) (code : List CodeUnit) → words_in (unit ∷ code) ≡ size_of unit + words_in code
words_in-cons unit code =
    omega (arith, length-append (words_of unit) (flat_map words_of code), length-words_of unit)

-- ---- the places of units

pub spots-moved : (n a b : ℕ) (code : List CodeUnit) → b ≡ n + a → spots_of b code ≡ map (moved n) (spots_of a code)
spots-moved n a b [] is = refl
spots-moved n a b (u ∷ us) is =
    ap (λ (k : ℕ). spot_of k u ∷ spots_of (b + size_of u) us) is
    ∙ ap (λ (xs : List Spot). spot_of (n + a) u ∷ xs)
    (spots-moved n (a + size_of u) (b + size_of u) us (omega (arith, is)))

pub spots-append : (a b : ℕ) (us vs : List CodeUnit) → b ≡ a + words_in us
    → spots_of a (us ++ vs) ≡ spots_of a us ++ spots_of b vs
spots-append a b [] vs is =
    let same : a ≡ b = omega (arith, is) in
    ap (λ (k : ℕ). spots_of k vs) same
spots-append a b (u ∷ us) vs is =
    ap (λ (xs : List Spot). spot_of a u ∷ xs)
    (spots-append (a + size_of u) b us vs (omega (arith, is, words_in-cons u us)))

-- no unit stands before the first, and each stands within the words
pub spots-low : (a : ℕ) (code : List CodeUnit) → All (λ (s : Spot). a ≤ s.at) (spots_of a code)
spots-low a [] = All-nil (λ (s : Spot). a ≤ s.at)
spots-low a (u ∷ us) =
    All-cons (λ (s : Spot). a ≤ s.at) _ _ (omega arith)
    (All-weaker (λ (s : Spot). a + size_of u ≤ s.at) (λ (s : Spot). a ≤ s.at) (λ s h. omega (arith, h))
    (spots_of (a + size_of u) us) (spots-low (a + size_of u) us))

pub spots-high : (a : ℕ) (code : List CodeUnit) → All (λ (s : Spot). s.at < a + words_in code) (spots_of a code)
spots-high a [] = All-nil (λ (s : Spot). s.at < a + words_in [])
spots-high a (u ∷ us) =
    let total : words_in (u ∷ us) ≡ size_of u + words_in us = words_in-cons u us in
    All-cons (λ (s : Spot). s.at < a + words_in (u ∷ us)) _ _ (omega (arith, total, size_pos u))
    (All-weaker (λ (s : Spot). s.at < a + size_of u + words_in us) (λ (s : Spot). s.at < a + words_in (u ∷ us))
    (λ s h. omega (arith, h, total)) (spots_of (a + size_of u) us) (spots-high (a + size_of u) us))

-- ---- the checks among them

check-moved : (n at : ℕ) (unit : CodeUnit) (rest : List CheckSpot)
    → cons_option (check_in (n + at) unit) (map (moved_check n) rest)
    ≡ map (moved_check n) (cons_option (check_in at unit) rest)
check-moved n at (units.Check link rs1 imm slot) rest = refl
check-moved n at (units.Plain insn) rest = refl
check-moved n at (units.Load kind rd rs1 imm) rest = refl
check-moved n at (units.Store kind rs1 rs2 imm) rest = refl
check-moved n at (units.Branch cond rs1 rs2 off) rest = refl
check-moved n at (units.Jump link off) rest = refl
check-moved n at units.Service rest = refl

pub checks-moved : (n : ℕ) (spots : List Spot) → checks_of (map (moved n) spots) ≡ map (moved_check n) (checks_of spots)
checks-moved n [] = refl
checks-moved n (s ∷ spots) =
    ap (cons_option (check_in (n + s.at) s.unit)) (checks-moved n spots) ∙ check-moved n s.at s.unit (checks_of spots)
