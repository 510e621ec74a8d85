-- Lists of units, their places, and the bytes of their words.
use Rattle.std.proofs.Common.{◌≡◌, ℕ, zero, suc, ◌+◌, ◌^◌, ◌<◌, ◌≤◌, All, Bool, List, [], ◌∷◌, ◌++◌, map, take, drop, length, get_or, refl, ap, sym, ◌∙◌, arith, length-append}
use Rattle.std.specs.List.{Contains, flat_map, AllByRecursion}
use Rattle.std.proofs.lemmas.List.{take-append-drop, drop_more, map-append}
use Rattle.std.proofs.lemmas.List.Concat.{flat_map-append}
use Rattle.std.proofs.lemmas.List.Elements.{All-nil, All-cons, All-append, All-weaker}
use Rattle.rv_insn.specs.declared.insn.Insn.{Insn}
use Rattle.rv_insn.specs.Insn.{InRange, word_of}
use Rattle.cfi_type_table.specs.Spelling.{word}
use Rattle.cfi_unit.specs.declared.unit.Unit.{Unit as CodeUnit}
use Rattle.cfi_unit.specs.Unit.{IsUnit, insns_of, words_of, size_of}
use Rattle.cfi_unit.proofs.UnitLemmas.{IsUnit-range, size_pos}
use Rattle.cfi_unit.proofs.CodeLemmas.{length-words_of}
use Rattle.cfi_unit.specs.declared.spot.Spot.{Spot}
use Rattle.cfi_unit.specs.Spots.{spots_of}
use Rattle.cfi_instr_law.proofs.SeenLemmas.{seen_spot, seen_from}
use Rattle.cfi_instr_law.proofs.WordLemmas.{word-small}

-- how many words units have
abbrev pub words_in : List CodeUnit → ℕ
words_in code = length (flat_map words_of code)

-- the bytes of units
abbrev pub bytes_of : List CodeUnit → List ℕ
bytes_of code = flat_map word (flat_map words_of code)

abbrev pub AreUnits : List CodeUnit → Type 0
AreUnits code = AllByRecursion IsUnit code

pub words-cons : (unit : CodeUnit) (code : List CodeUnit) → words_in (unit ∷ code) ≡ size_of unit + words_in code
words-cons unit code = omega (arith, length-append (words_of unit) (flat_map words_of code), length-words_of unit)

pub words-append : (code more : List CodeUnit) → words_in (code ++ more) ≡ words_in code + words_in more
words-append code more =
    ap (λ (ws : List ℕ). length ws) (flat_map-append words_of code more)
    ∙ length-append (flat_map words_of code) (flat_map words_of more)

pub bytes-append : (code more : List CodeUnit) → bytes_of (code ++ more) ≡ bytes_of code ++ bytes_of more
bytes-append code more =
    ap (flat_map word) (flat_map-append words_of code more)
    ∙ flat_map-append word (flat_map words_of code) (flat_map words_of more)

pub units-append : (code more : List CodeUnit) → AreUnits code → AreUnits more → AreUnits (code ++ more)
units-append [] more front back = back
units-append (u ∷ us) more front back = (front.0, units-append us more front.1 back)

pub units-left : (code more : List CodeUnit) → AreUnits (code ++ more) → AreUnits code
units-left [] more all = tt
units-left (u ∷ us) more all = (all.0, units-left us more all.1)

pub units-right : (code more : List CodeUnit) → AreUnits (code ++ more) → AreUnits more
units-right [] more all = all
units-right (u ∷ us) more all = units-right us more all.1

-- ---- the words of units have 32 bits

insns-small : (insns : List Insn) → AllByRecursion InRange insns → All (λ n. n < 2 ^ 32) (map word_of insns)
insns-small [] all = All-nil (λ (n : ℕ). n < 2 ^ 32)
insns-small (insn ∷ insns) all =
    All-cons (λ (n : ℕ). n < 2 ^ 32) (word_of insn) (map word_of insns) (word-small insn all.0)
    (insns-small insns all.1)

pub units-small : (code : List CodeUnit) → AreUnits code → All (λ n. n < 2 ^ 32) (flat_map words_of code)
units-small [] all = All-nil (λ (n : ℕ). n < 2 ^ 32)
units-small (u ∷ us) all =
    All-append (λ (n : ℕ). n < 2 ^ 32) (words_of u) (flat_map words_of us)
    (insns-small (insns_of u) (IsUnit-range u all.0)) (units-small us all.1)

-- ---- places

pub spots-append : (at : ℕ) (code more : List CodeUnit)
    → spots_of at (code ++ more) ≡ spots_of at code ++ spots_of (at + words_in code) more
spots-append at [] more =
    let same : at ≡ at + 0 = omega arith in ap (λ (n : ℕ). spots_of n more) same
spots-append at (u ∷ us) more =
    let same : at + size_of u + words_in us ≡ at + words_in (u ∷ us) = omega (arith, words-cons u us) in
    ap (λ (ss : List Spot). record { at = at; unit = u } ∷ ss)
    (spots-append (at + size_of u) us more
    ∙ ap (λ (n : ℕ). spots_of (at + size_of u) us ++ spots_of n more) same)

-- units stand from the place on at which the first does
pub spots-range : (at : ℕ) (code : List CodeUnit)
    → All (λ (s : Spot). (at ≤ s.at) × (s.at < at + words_in code)) (spots_of at code)
spots-range at [] = All-nil (λ (s : Spot). (at ≤ s.at) × (s.at < at + words_in []))
spots-range at (u ∷ us) =
    let total = words-cons u us in
    All-cons (λ (s : Spot). (at ≤ s.at) × (s.at < at + words_in (u ∷ us))) _ _
    (omega arith, omega (arith, total, size_pos u))
    (All-weaker (λ (s : Spot). (at + size_of u ≤ s.at) × (s.at < at + size_of u + words_in us))
    (λ (s : Spot). (at ≤ s.at) × (s.at < at + words_in (u ∷ us)))
    (λ s h. (omega (arith, h.0), omega (arith, h.1, total))) (spots_of (at + size_of u) us)
    (spots-range (at + size_of u) us))

-- the unit of a number stands after those before it
pub spot-place : (at : ℕ) (code : List CodeUnit) (k : ℕ) (d : Spot) (e : CodeUnit) → k < length code
    → get_or (spots_of at code) k d ≡ record { at = at + words_in (take k code); unit = get_or code k e }
spot-place at [] k d e inside = absurd (omega (arith, inside))
spot-place at (u ∷ us) zero d e inside =
    let same : at ≡ at + 0 = omega arith in
    ap (λ (n : ℕ). record { at = n; unit = u }) same
spot-place at (u ∷ us) (suc k) d e inside =
    let same : at + size_of u + words_in (take k us) ≡ at + words_in (u ∷ take k us) =
    omega (arith, words-cons u (take k us)) in
    spot-place (at + size_of u) us k d e (omega (arith, inside))
    ∙ ap (λ (n : ℕ). record { at = n; unit = get_or us k e }) same

-- the one unit of a list of one
one-at : (first s : Spot) (k : ℕ) → k < length (first ∷ []) → get_or (first ∷ []) k s ≡ s → s ≡ first
one-at first s zero inside is = sym is
one-at first s (suc k) inside is = absurd (omega (arith, inside))

pub one-spot : (at : ℕ) (unit : CodeUnit) (s : Spot) → Contains (spots_of at (unit ∷ [])) s
    → s ≡ record { at = at; unit = unit }
one-spot at unit s has = one-at (record { at = at; unit = unit }) s has.0 has.1 has.2

-- the code around the unit of a number
pub code-split : (code : List CodeUnit) (k : ℕ) (e : CodeUnit) → k < length code
    → code ≡ take k code ++ get_or code k e ∷ drop (k + 1) code
code-split code k e inside =
    sym (take-append-drop k code) ∙ ap (λ (us : List CodeUnit). take k code ++ us) (drop_more code k e inside)

-- ---- units that look the same

pub seen-append : (touched : ℕ → Bool) (at : ℕ) (code more : List CodeUnit)
    → seen_from touched at (code ++ more) ≡ seen_from touched at code ++ seen_from touched (at + words_in code) more
seen-append touched at code more =
    ap (map (seen_spot touched)) (spots-append at code more)
    ∙ map-append (seen_spot touched) (spots_of at code) (spots_of (at + words_in code) more)
