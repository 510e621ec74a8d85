-- A relocation that changes the first word of a unit.
use Rattle.std.proofs.Common.{◌≡◌, ℕ, ◌+◌, ◌*◌, ◌<◌, Bool, true, List, ◌∷◌, ◌++◌, map, take, drop, length, get_or, Ok, ap, sym, subst, ◌∙◌, arith}
use Rattle.std.specs.List.{flat_map}
use Rattle.rv_insn.specs.Insn.{word_of}
use Rattle.cfi_type_table.specs.Spelling.{word}
use Rattle.cfi_unit.specs.declared.unit.Unit.{Unit as CodeUnit}
use Rattle.cfi_unit.specs.declared.unit.Unit.TheVariants as units
use Rattle.cfi_unit.specs.Unit.{insns_of, words_of, size_of}
use Rattle.cfi_unit.proofs.UnitLemmas.{first_insn}
use Rattle.rv_reloc.specs.declared.table.Form.{Form}
use Rattle.rv_reloc.specs.Field.{immediate}
use Rattle.rv_reloc.specs.Bytes.{word_at, with_word}
use Rattle.cfi_unit.specs.declared.spot.Spot.{Spot}
use Rattle.cfi_unit.specs.Spots.{spots_of, BeginsUnit}
use Rattle.cfi_instr_law.proofs.SeenLemmas.{seen, seen_from, size-seen}
use Rattle.cfi_instr_law.proofs.FieldLemmas.{IsBounded, refit, head-word, first-small}
use Rattle.cfi_instr_law.proofs.BytesLemmas.{length-spelled, word-here, word-set}
use Rattle.cfi_instr_law.proofs.CodeLemmas.{words_in, bytes_of, AreUnits, bytes-append, units-append, units-left, units-right, spot-place, code-split, seen-append}
use Rattle.cfi_unit.proofs.SpotLemmas.{length-spots_of}

-- the words of a unit but for the first
abbrev rest_of : CodeUnit → List ℕ
rest_of unit = map word_of (drop 1 (insns_of unit))

-- the bytes of code around the first word of one of its units
bytes-around : (before after : List CodeUnit) (unit : CodeUnit) (first : ℕ) (rest : List ℕ)
    → words_of unit ≡ first ∷ rest
    → bytes_of (before ++ unit ∷ after)
    ≡ bytes_of before ++ (word first ++ flat_map word (rest ++ flat_map words_of after))
bytes-around before after unit first rest is =
    bytes-append before (unit ∷ after)
    ∙ ap (λ (ws : List ℕ). bytes_of before ++ flat_map word (ws ++ flat_map words_of after)) is

-- the units after a word are changed
pub record IsStepped (touched : ℕ → Bool) (code : List CodeUnit) (at new : ℕ) : Type 0 where
  pub next : List CodeUnit
  pub fit : AreUnits next
  pub bytes : with_word (4 * at) new (bytes_of code) ≡ bytes_of next
  pub looks : seen_from touched 0 next ≡ seen_from touched 0 code

module _ (touched : ℕ → Bool) (before after : List CodeUnit) (unit : CodeUnit) (at : ℕ) where
  abbrev code : List CodeUnit
  code = before ++ unit ∷ after

  front : words_in before ≡ at → length (bytes_of before) ≡ 4 * at
  front place = omega (arith, length-spelled (flat_map words_of before), place)

  first-word : AreUnits code → words_in before ≡ at → word_at (4 * at) (bytes_of code) ≡ word_of (first_insn unit)
  first-word fit place =
      let is : AreUnits (unit ∷ after) = units-right before (unit ∷ after) fit in
      ap (word_at (4 * at)) (bytes-around before after unit (word_of (first_insn unit)) (rest_of unit) (head-word unit))
      ∙ word-here (bytes_of before) (flat_map word (rest_of unit ++ flat_map words_of after)) (4 * at)
      (word_of (first_insn unit)) (front place) (first-small unit is.0)

  looks-same : (next : CodeUnit) → words_in before ≡ at → touched at ≡ true → seen true next ≡ seen true unit
      → seen_from touched 0 (before ++ next ∷ after) ≡ seen_from touched 0 code
  looks-same next place here same =
      let where' : 0 + words_in before ≡ at = omega (arith, place) in
      let sees : seen (touched at) next ≡ seen (touched at) unit =
      subst (λ (b : Bool). seen b next ≡ seen b unit) (sym here) same in
      let size : size_of next ≡ size_of unit =
      sym (size-seen true next) ∙ ap size_of same ∙ size-seen true unit in
      let tails : seen_from touched at (next ∷ after) ≡ seen_from touched at (unit ∷ after) =
      ap (λ (u : CodeUnit). record { at = at; unit = u } ∷ seen_from touched (at + size_of next) after) sees
      ∙ ap (λ (n : ℕ). record { at = at; unit = seen (touched at) unit } ∷ seen_from touched (at + n) after) size in
      seen-append touched 0 before (next ∷ after)
      ∙ ap (λ (n : ℕ). seen_from touched 0 before ++ seen_from touched n (next ∷ after)) where'
      ∙ ap (λ (ss : List Spot). seen_from touched 0 before ++ ss) tails
      ∙ ap (λ (n : ℕ). seen_from touched 0 before ++ seen_from touched n (unit ∷ after)) (sym where')
      ∙ sym (seen-append touched 0 before (unit ∷ after))

  around : (form : Form) (number new : ℕ) → AreUnits code → words_in before ≡ at → touched at ≡ true
      → IsBounded form number → immediate form number (word_at (4 * at) (bytes_of code)) ≡ Ok new
      → IsStepped touched code at new
  around form number new fit place here small done =
      let is : AreUnits (unit ∷ after) = units-right before (unit ∷ after) fit in
      let made : immediate form number (word_of (first_insn unit)) ≡ Ok new =
      ap (immediate form number) (sym (first-word fit place)) ∙ done in
      let r = refit form number new unit is.0 small made in
      let rest = flat_map word (rest_of unit ++ flat_map words_of after) in
      record {
        next = before ++ r.next ∷ after;
        fit = units-append before (r.next ∷ after) (units-left before (unit ∷ after) fit) (r.fits, is.1);
        bytes =
            ap (with_word (4 * at) new)
            (bytes-around before after unit (word_of (first_insn unit)) (rest_of unit) (head-word unit))
            ∙ word-set (bytes_of before) rest (4 * at) (word_of (first_insn unit)) new (front place)
            ∙ sym (bytes-around before after r.next new (rest_of unit) r.words);
        looks = looks-same r.next place here r.looks;
      }

-- where a unit begins, its first word may be changed
pub step : (touched : ℕ → Bool) (code : List CodeUnit) (at : ℕ) (form : Form) (number new : ℕ) → AreUnits code
    → BeginsUnit (spots_of 0 code) at → touched at ≡ true → IsBounded form number
    → immediate form number (word_at (4 * at) (bytes_of code)) ≡ Ok new → IsStepped touched code at new
step touched code at form number new fit begins here small done =
    let k : ℕ = begins.1.0 in
    let inside : k < length code = omega (arith, begins.1.1, length-spots_of 0 code) in
    let unit = get_or code k units.Service in
    let place : words_in (take k code) ≡ at =
    omega (
      arith,
      ap (λ (s : Spot). s.at) (spot-place 0 code k begins.0 units.Service inside),
      ap (λ (s : Spot). s.at) begins.1.2,
      begins.2,
    ) in
    let same : code ≡ take k code ++ unit ∷ drop (k + 1) code = code-split code k units.Service inside in
    subst (λ (us : List CodeUnit). IsStepped touched us at new) (sym same)
    (around touched (take k code) (drop (k + 1) code) unit at form number new (subst AreUnits same fit) place here small
    (subst (λ (us : List CodeUnit). immediate form number (word_at (4 * at) (bytes_of us)) ≡ Ok new) same done))
