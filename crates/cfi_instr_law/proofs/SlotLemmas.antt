-- Code whose checks get their slots.
use Rattle.std.proofs.Common.{◌≡◌, ℕ, zero, suc, ◌+◌, ◌-◌, ◌*◌, ◌≤◌, ℤ, Bool, List, [], ◌∷◌, ◌++◌, map, length, set, refl, ap, sym, ◌∙◌, arith, append_assoc, length-append}
use Rattle.std.specs.List.{flat_map}
use Rattle.std.proofs.lemmas.List.{set-append_right}
use Rattle.rv_insn.specs.Insn.{word_of}
use Rattle.cfi_word.specs.declared.sizes.TheConstants.{SLOTS}
use Rattle.cfi_unit.specs.declared.unit.Unit.{Unit as CodeUnit}
use Rattle.cfi_unit.specs.declared.unit.Unit.TheVariants as units
use Rattle.cfi_unit.specs.Unit.{words_of, size_of, high_insn, low_insn}
use Rattle.cfi_unit.proofs.CodeLemmas.{length-words_of}
use Rattle.cfi_place.specs.Slots.{checks_from, with_slot, with_slots}
use Rattle.cfi_unit.specs.declared.spot.Spot.{Spot}
use Rattle.cfi_verify.specs.declared.checks.CheckSpot.{CheckSpot}
use Rattle.elf_read.specs.Lists.{Each}
use Rattle.cfi_unit.specs.Spots.{spots_of}
use Rattle.cfi_verify.specs.Spots.{checks_of}
use Rattle.cfi_instr_law.proofs.SeenLemmas.{seen, seen_from, bare, same-checks}
use Rattle.cfi_instr_law.proofs.CodeLemmas.{words_in, AreUnits, words-cons}

-- a check names the slot; other units name none
abbrev pub own : (slot : ℕ) → CodeUnit → CodeUnit
own slot (units.Check link rs1 imm was) = units.Check link rs1 imm slot
own slot unit = unit

-- how many slots a unit takes
abbrev pub taken : CodeUnit → ℕ
taken (units.Check link rs1 imm slot) = 1
taken unit = 0

-- the checks name the slots from `slot` on
abbrev pub numbered : (slot : ℕ) → List CodeUnit → List CodeUnit
numbered slot [] = []
numbered slot (unit ∷ code) = own slot unit ∷ numbered (slot + taken unit) code

abbrev pub slots_in : List CodeUnit → ℕ
slots_in [] = 0
slots_in (unit ∷ code) = taken unit + slots_in code

size-own : (slot : ℕ) (unit : CodeUnit) → size_of (own slot unit) ≡ size_of unit
size-own slot (units.Check link rs1 imm was) = refl
size-own slot unit = refl

seen-own : (b : Bool) (slot : ℕ) (unit : CodeUnit) → seen b (own slot unit) ≡ seen b unit
seen-own b slot (units.Check link rs1 imm was) = refl
seen-own b slot unit = refl

taken-size : (unit : CodeUnit) → 14 * taken unit ≤ size_of unit
taken-size (units.Check link rs1 imm slot) = omega arith
taken-size unit = omega arith

-- a check has fourteen words
pub slots-few : (code : List CodeUnit) → 14 * slots_in code ≤ words_in code
slots-few [] = omega arith
slots-few (u ∷ us) = omega (arith, slots-few us, taken-size u, words-cons u us)

pub seen-numbered : (touched : ℕ → Bool) (at slot : ℕ) (code : List CodeUnit)
    → seen_from touched at (numbered slot code) ≡ seen_from touched at code
seen-numbered touched at slot [] = refl
seen-numbered touched at slot (u ∷ us) =
    ap (λ (v : CodeUnit). record { at = at; unit = v } ∷ seen_from touched (at + size_of (own slot u))
    (numbered (slot + taken u) us)) (seen-own (touched at) slot u)
    ∙ ap (λ (n : ℕ). record { at = at; unit = seen (touched at) u } ∷ seen_from touched (at + n)
    (numbered (slot + taken u) us)) (size-own slot u)
    ∙ ap (λ (ss : List Spot). record { at = at; unit = seen (touched at) u } ∷ ss)
    (seen-numbered touched (at + size_of u) (slot + taken u) us)

pub units-numbered : (slot : ℕ) (code : List CodeUnit) → AreUnits code → slot + slots_in code ≤ SLOTS
    → AreUnits (numbered slot code)
units-numbered slot [] all few = tt
units-numbered slot (units.Check link rs1 imm was ∷ us) all few =
    ((all.0.0, all.0.1, omega (arith, few)), units-numbered (slot + 1) us all.1 (omega (arith, few)))
units-numbered slot (u ∷ us) all few = (all.0, units-numbered (slot + 0) us all.1 (omega (arith, few)))

-- ---- the words

set-past : (front rest : List ℕ) (at k y : ℕ) → length front ≡ at
    → set (front ++ rest) (at + k) y ≡ front ++ set rest k y
set-past front rest at k y is =
    let left : at + k - at ≡ k = omega arith in
    set-append_right front rest at (at + k) y is (omega arith)
    ∙ ap (λ (n : ℕ). front ++ set rest n y) left

check-set : (front rest : List ℕ) (at slot : ℕ) (link : Bool) (rs1 : ℕ) (imm : ℤ) (was : ℕ) → length front ≡ at
    → with_slot at slot (front ++ (words_of (units.Check link rs1 imm was) ++ rest))
    ≡ front ++ (words_of (units.Check link rs1 imm slot) ++ rest)
check-set front rest at slot link rs1 imm was is =
    let old = words_of (units.Check link rs1 imm was) ++ rest in
    ap (λ (ws : List ℕ). set ws (at + 4) (word_of (low_insn slot)))
    (set-past front old at 3 (word_of (high_insn slot)) is)
    ∙ set-past front (set old 3 (word_of (high_insn slot))) at 4 (word_of (low_insn slot)) is

-- one unit more before those that get their slots
moved-on : (front : List ℕ) (unit : CodeUnit) (at : ℕ) → length front ≡ at
    → length (front ++ words_of unit) ≡ at + size_of unit
moved-on front unit at is = omega (arith, length-append front (words_of unit), length-words_of unit, is)

pub slots-set : (code : List CodeUnit) (front : List ℕ) (at slot : ℕ) → length front ≡ at
    → with_slots slot (checks_from at code) (front ++ flat_map words_of code)
    ≡ front ++ flat_map words_of (numbered slot code)
slots-set [] front at slot is = refl
slots-set (units.Check link rs1 imm was ∷ us) front at slot is =
    let new = words_of (units.Check link rs1 imm slot) in
    let rest = checks_from (at + 14) us in
    ap (with_slots (slot + 1) rest)
    (check-set front (flat_map words_of us) at slot link rs1 imm was is
    ∙ sym (append_assoc front new (flat_map words_of us)))
    ∙ slots-set us (front ++ new) (at + 14) (slot + 1) (moved-on front (units.Check link rs1 imm slot) at is)
    ∙ append_assoc front new (flat_map words_of (numbered (slot + 1) us))
slots-set (u ∷ us) front at slot is =
    let same : slot + 0 ≡ slot = omega arith in
    ap (with_slots slot (checks_from (at + size_of u) us)) (sym (append_assoc front (words_of u) (flat_map words_of us)))
    ∙ slots-set us (front ++ words_of u) (at + size_of u) slot (moved-on front u at is)
    ∙ append_assoc front (words_of u) (flat_map words_of (numbered slot us))
    ∙ ap (λ (n : ℕ). front ++ (words_of u ++ flat_map words_of (numbered n us))) (sym same)

-- ---- the checks

first-slot : (rest : List CheckSpot) (first : CheckSpot) (slot : ℕ) → first.slot ≡ slot
    → Each rest (λ k c. c.slot ≡ slot + 1 + k) → Each (first ∷ rest) (λ k c. c.slot ≡ slot + k)
first-slot rest first slot here others zero c is =
    let same : first ≡ c = cc in omega (arith, here, ap (λ (x : CheckSpot). x.slot) same)
first-slot rest first slot here others (suc k) c is = omega (arith, others k c is)

-- the checks name their slots in order
pub slots-named : (at slot : ℕ) (code : List CodeUnit)
    → Each (checks_of (spots_of at (numbered slot code))) (λ k c. c.slot ≡ slot + k)
slots-named at slot [] = λ k c is. absurd (cc)
slots-named at slot (units.Check link rs1 imm was ∷ us) = λ k c is.
    first-slot (checks_of (spots_of (at + 14) (numbered (slot + 1) us)))
    (record { at = at; link = link; slot = slot }) slot refl (slots-named (at + 14) (slot + 1) us) k c is
slots-named at slot (u ∷ us) = λ k c is.
    let same : slot + 0 ≡ slot = omega arith in
    slots-named (at + size_of u) (slot + 0) us k c is ∙ ap (λ (n : ℕ). n + k) same

places-in : (at : ℕ) (code : List CodeUnit)
    → checks_from at code ≡ map (λ (c : CheckSpot). c.at) (map bare (checks_of (spots_of at code)))
places-in at [] = refl
places-in at (units.Check link rs1 imm slot ∷ us) = ap (λ (xs : List ℕ). at ∷ xs) (places-in (at + 14) us)
places-in at (u ∷ us) = places-in (at + size_of u) us

pub slots-count : (at : ℕ) (code : List CodeUnit) → slots_in code ≡ length (checks_from at code)
slots-count at [] = refl
slots-count at (units.Check link rs1 imm slot ∷ us) = omega (arith, slots-count (at + 14) us)
slots-count at (u ∷ us) = omega (arith, slots-count (at + size_of u) us)

-- code that looks the same has its checks at the same places
pub same-places : (touched : ℕ → Bool) (code other : List CodeUnit)
    → seen_from touched 0 code ≡ seen_from touched 0 other → checks_from 0 code ≡ checks_from 0 other
same-places touched code other same =
    places-in 0 code
    ∙ ap (map (λ (c : CheckSpot). c.at)) (same-checks touched (spots_of 0 code) (spots_of 0 other) same)
    ∙ sym (places-in 0 other)
