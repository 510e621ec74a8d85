-- What is known after the first units of words were read.
use Rattle.std.proofs.Common.{◌≡◌, ℕ, ◌+◌, ◌-◌, ◌<◌, ◌≤◌, List, [], ◌∷◌, ◌++◌, length, take, drop, refl, ap, sym, subst, ◌∙◌, ⊎_elim, arith, length-append}
use Rattle.std.specs.List.{flat_map}
use Rattle.std.proofs.Math.Seq.{take-add}
use Rattle.std.proofs.lemmas.Bool.{cases_lt}
use Rattle.std.proofs.lemmas.List.{append-nil, length-take-le, take_all}
use Rattle.rv_insn.specs.declared.insn.Insn.TheVariants as insns
use Rattle.cfi_unit.specs.declared.unit.Unit.{Unit as CodeUnit}
use Rattle.cfi_unit.specs.Unit.{words_of, size_of}
use Rattle.cfi_unit.specs.Code.{BeginsAt, UnitCode}
use Rattle.cfi_unit.proofs.CodeLemmas.{length-words_of, BeginsAt-within, BeginsAt-word, UnitCode-append}
use Rattle.cfi_unit.specs.declared.spot.Spot.{Spot}
use Rattle.cfi_unit.specs.Spots.{spots_of, AreSpots, StopsAt, IsInsnAt, InsnsBelow}

-- the words before a place are units, which stand at these places, and each is an instruction
pub record IsReadTo (words : List ℕ) (at : ℕ) (spots : List Spot) : Type 0 where
  pub within : at ≤ length words
  pub body : List CodeUnit
  pub code : UnitCode (take at words) body
  pub places : spots ≡ spots_of 0 body
  pub insns : InsnsBelow words at

-- the places of one unit more
spots_of-more : (a : ℕ) (us : List CodeUnit) (unit : CodeUnit) → spots_of a (us ++ unit ∷ [])
    ≡ spots_of a us ++ record { at = a + length (flat_map words_of us); unit = unit } ∷ []
spots_of-more a [] unit =
    let place : a ≡ a + 0 = omega arith in
    ap (λ (k : ℕ). (record { at = k; unit = unit }) ∷ []) place
spots_of-more a (u ∷ us) unit =
    let place : a + size_of u + length (flat_map words_of us) ≡ a + length (words_of u ++ flat_map words_of us) =
    omega (arith, length-append (words_of u) (flat_map words_of us), length-words_of u) in
    ap (λ (xs : List Spot). (record { at = a; unit = u }) ∷ xs)
    (spots_of-more (a + size_of u) us unit
    ∙ ap (λ (k : ℕ). spots_of (a + size_of u) us ++ record { at = k; unit = unit } ∷ []) place)

-- the next unit's words
one_more_code : (words : List ℕ) (at : ℕ) (unit : CodeUnit) (body : List CodeUnit) →
    UnitCode (take at words) body → BeginsAt words at unit →
    UnitCode (take (at + size_of unit) words) (body ++ unit ∷ [])
one_more_code words at unit body code begins =
    let one : UnitCode (take (size_of unit) (drop at words)) (unit ∷ []) =
    record { fit = (begins.fits, tt); spelled = begins.spelled ∙ sym (append-nil (words_of unit)) } in
    subst (λ (ws : List ℕ). UnitCode ws (body ++ unit ∷ [])) (sym (take-add at (size_of unit) words))
    (UnitCode-append (take at words) (take (size_of unit) (drop at words)) body (unit ∷ []) code one)

-- the next unit's instructions
more_insns : (words : List ℕ) (at : ℕ) (unit : CodeUnit) → InsnsBelow words at → BeginsAt words at unit →
    InsnsBelow words (at + size_of unit)
more_insns words at unit before begins = λ k within.
    ⊎_elim (λ (low : k < at). before k low)
    (λ (high : at ≤ k).
    let j : k - at < size_of unit = omega arith in
    let place : at + (k - at) ≡ k = omega arith in
    subst (IsInsnAt words) place (_, BeginsAt-word words at unit begins (k - at) insns.Ecall j))
    (cases_lt k at)

pub read_none : (words : List ℕ) → IsReadTo words 0 []
read_none words = record {
  within = omega arith;
  body = [];
  code = record { fit = tt; spelled = refl };
  places = refl;
  insns = λ k low. absurd (omega arith);
}

-- one more unit was read
pub read_more : (words : List ℕ) (at : ℕ) (spots : List Spot) (unit : CodeUnit) → IsReadTo words at spots →
    BeginsAt words at unit → IsReadTo words (at + size_of unit) (spots ++ record { at = at; unit = unit } ∷ [])
read_more words at spots unit read begins =
    let place : 0 + length (flat_map words_of read.body) ≡ at =
    omega (arith, length-take-le at words read.within, ap length read.code.spelled) in
    record {
      within = BeginsAt-within words at unit begins;
      body = read.body ++ unit ∷ [];
      code = one_more_code words at unit read.body read.code begins;
      places = ap (λ (xs : List Spot). xs ++ record { at = at; unit = unit } ∷ []) read.places
          ∙ sym (spots_of-more 0 read.body unit
          ∙ ap (λ (k : ℕ). spots_of 0 read.body ++ record { at = k; unit = unit } ∷ []) place);
      insns = more_insns words at unit read.insns begins;
    }

-- all units were read
pub read_all : (words : List ℕ) (at : ℕ) (spots : List Spot) → IsReadTo words at spots → length words ≤ at →
    AreSpots words spots
read_all words at spots read done = record {
  code = read.body;
  units = subst (λ (ws : List ℕ). UnitCode ws read.body) (take_all at words done) read.code;
  places = read.places;
}

-- reading stops where no unit begins
pub read_stops : (words : List ℕ) (at : ℕ) (spots : List Spot) → IsReadTo words at spots → at < length words →
    ((unit : CodeUnit) → ¬ BeginsAt words at unit) → StopsAt words at × InsnsBelow words at
read_stops words at spots read inside stops = (
  record { within = inside; before = record { code = read.body; units = read.code }; stops = stops },
  read.insns,
)
