-- Units by their numbers and by their places.
use Rattle.std.proofs.Common.{◌≡◌, ℕ, zero, suc, ◌+◌, ◌<◌, ◌≤◌, List, [], ◌∷◌, length, take, get_or, refl, ap, ◌∙◌, sym, arith, length-append}
use Rattle.std.specs.List.{flat_map}
use Rattle.std.proofs.Math.Seq.{take-length}
use Rattle.cfi_unit.specs.declared.unit.Unit.{Unit as CodeUnit}
use Rattle.cfi_unit.specs.declared.spot.Spot.{Spot}
use Rattle.cfi_unit.specs.Unit.{words_of, size_of}
use Rattle.cfi_unit.specs.Spots.{spots_of, place_of, AreSpots, BeginsUnit}
use Rattle.cfi_unit.proofs.CodeLemmas.{length-words_of, UnitCode-one}

-- as many units with their places as units
pub length-spots_of : (at : ℕ) (code : List CodeUnit) → length (spots_of at code) ≡ length code
length-spots_of at [] = refl
length-spots_of at (unit ∷ code) = omega (arith, length-spots_of (at + size_of unit) code)

-- the unit of a number stands at its place
pub spot_place : (at : ℕ) (code : List CodeUnit) (number : ℕ) (d : Spot) → number < length code →
    (get_or (spots_of at code) number d).at ≡ at + place_of code number
spot_place at [] number d within = absurd (omega (arith, within))
spot_place at (unit ∷ code) zero d within = omega arith
spot_place at (unit ∷ code) (suc number) d within =
    omega (
      arith,
      spot_place (at + size_of unit) code number d (omega (arith, within)),
      length-append (words_of unit) (flat_map words_of (take number code)),
      length-words_of unit,
    )

-- words have one list of units
pub AreSpots-one : (words : List ℕ) (s t : List Spot) → AreSpots words s → AreSpots words t → s ≡ t
AreSpots-one words s t p q =
    p.places ∙ ap (spots_of 0) (UnitCode-one words p.code q.code p.units q.units) ∙ sym q.places

-- where a unit begins, the place is that of a unit of the code
pub place_number : (words : List ℕ) (spots : List Spot) (are : AreSpots words spots) (at : ℕ) → BeginsUnit spots at →
    (number : ℕ) × (number < length are.code) × (at ≡ place_of are.code number)
place_number words spots are at b =
    let k : ℕ = b.1.0 in
    let same : get_or spots k b.0 ≡ get_or (spots_of 0 are.code) k b.0 =
    ap (λ (xs : List Spot). get_or xs k b.0) are.places in
    let inside : k < length are.code = omega (arith, b.1.1, ap length are.places, length-spots_of 0 are.code) in (
      k,
      inside,
      omega (
        arith,
        b.2,
        ap (λ (s : Spot). s.at) b.1.2,
        ap (λ (s : Spot). s.at) same,
        spot_place 0 are.code k b.0 inside,
      ),
    )

-- the end of the words is the place after the last unit
pub last_place : (words : List ℕ) (spots : List Spot) (are : AreSpots words spots) →
    length words ≡ place_of are.code (length are.code)
last_place words spots are =
    ap length are.units.spelled
    ∙ ap (λ (us : List CodeUnit). length (flat_map words_of us)) (sym (take-length are.code))

-- places rise
pub place_mono : (code : List CodeUnit) (i j : ℕ) → i ≤ j → place_of code i ≤ place_of code j
place_mono [] zero zero up = omega arith
place_mono [] zero (suc j) up = omega arith
place_mono [] (suc i) zero up = omega arith
place_mono [] (suc i) (suc j) up = omega arith
place_mono (u ∷ us) zero j up = omega arith
place_mono (u ∷ us) (suc i) zero up = absurd (omega (arith, up))
place_mono (u ∷ us) (suc i) (suc j) up =
    omega (
      arith,
      place_mono us i j (omega (arith, up)),
      length-append (words_of u) (flat_map words_of (take i us)),
      length-append (words_of u) (flat_map words_of (take j us)),
    )
