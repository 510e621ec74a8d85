-- Units of a module that are read one after the other, and whether one of them jumps into another module.
use Rattle.std.proofs.Common.{◌≡◌, ◌⊎◌, ℕ, zero, suc, ◌+◌, ◌-◌, ◌*◌, ◌<◌, ◌≤◌, Bool, ℤ, List, [], ◌∷◌, length, drop, Some, refl, sym, ap, subst, inl, inr, arith, length-drop}
use Rattle.std.specs.Prelude.{slice_get}
use Rattle.std.proofs.lemmas.List.{drop-drop}
use Rattle.std.proofs.lemmas.Option.{none-some, same_Some}
use Rattle.cfi_unit.specs.declared.unit.Unit.{Unit as CodeUnit}
use Rattle.cfi_unit.specs.declared.unit.Unit.TheVariants.{Jump}
use Rattle.cfi_unit.specs.Unit.{size_of}
use Rattle.cfi_unit.specs.Code.{BeginsAt, UnitCode}
use Rattle.cfi_unit.specs.Spots.{place_of}
use Rattle.cfi_unit.proofs.CodeLemmas.{BeginsAt-one, BeginsAt-within, UnitCode-first, UnitCode-one}
use Rattle.cfi_unit.proofs.UnitLemmas.{size_pos}
use Rattle.cfi_aux.specs.declared.placed.Placed.{Placed}
use Rattle.cfi_word.specs.declared.limits.TheConstants.{MAX_CODE_WORDS}
use Rattle.cfi_graph.specs.Code.{code_address, Leads}
use Rattle.cfi_graph.specs.Facts.{LeadsToWord}
use Rattle.cfi_graph.specs.Live.{IsJumpInto, JumpsInto}
use Rattle.cfi_graph.proofs.BoundLemmas.{place_next}

-- one of the units, the first of which stands at a word, is such a one
abbrev pub SomeFrom : (P : (at : ℕ) → CodeUnit → Type 0) → (at : ℕ) → List CodeUnit → Type 0
SomeFrom P at [] = ⊥
SomeFrom P at (unit ∷ code) = P at unit ⊎ SomeFrom P (at + size_of unit) code

-- the unit that begins is the first of what is left, and further ones are left behind it
begins_first : (words : List ℕ) (at : ℕ) (rest : List CodeUnit) (unit : CodeUnit) → UnitCode (drop at words) rest
    → BeginsAt words at unit
    → (others : List CodeUnit) × (rest ≡ unit ∷ others) × UnitCode (drop (at + size_of unit) words) others
begins_first words at [] unit units begins =
    let none : length (drop at words) ≡ 0 = ap length units.spelled in
    absurd (omega (arith, none, length-drop at words, BeginsAt-within words at unit begins, size_pos unit))
begins_first words at (first ∷ others) unit units begins =
    let parts = UnitCode-first (drop at words) first others units in
    let same : first ≡ unit = BeginsAt-one (drop at words) 0 first unit parts.0 begins in
    let behind : UnitCode (drop (at + size_of first) words) others =
    subst (λ ws. UnitCode ws others) (drop-drop (size_of first) at words) parts.1 in
    (others, ap (λ u. u ∷ others) same, subst (λ u. UnitCode (drop (at + size_of u) words) others) same behind)

-- what is left of the code behind the units before a word: one of the whole is such a one where one that is left is
pub record IsLeft (P : (at : ℕ) → CodeUnit → Type 0) (words : List ℕ) (code : List CodeUnit) (at : ℕ) : Type 0 where
  pub within : at ≤ length words
  pub rest : List CodeUnit
  pub units : UnitCode (drop at words) rest
  pub on : SomeFrom P 0 code → SomeFrom P at rest
  pub back : SomeFrom P at rest → SomeFrom P 0 code

module _ (P : (at : ℕ) → CodeUnit → Type 0) (words : List ℕ) (code : List CodeUnit) where
  pub left_all : UnitCode words code → IsLeft P words code 0
  left_all units = record { within = omega arith; rest = code; units = units; on = λ s. s; back = λ s. s }

  pub left_here : (at : ℕ) (unit : CodeUnit) → IsLeft P words code at → BeginsAt words at unit → P at unit
      → SomeFrom P 0 code
  left_here at unit left begins holds =
      let first = begins_first words at left.rest unit left.units begins in
      left.back (subst (SomeFrom P at) (sym first.1) (inl holds))

  pub left_more : (at : ℕ) (unit : CodeUnit) → IsLeft P words code at → BeginsAt words at unit → ¬ P at unit
      → IsLeft P words code (at + size_of unit)
  left_more at unit left begins fails =
      let first = begins_first words at left.rest unit left.units begins in
      record {
        within = BeginsAt-within words at unit begins;
        rest = first.0;
        units = first.2;
        on = λ some. elim (subst (SomeFrom P at) first.1 (left.on some)) [
          | inl holds ↦ absurd (fails holds)
          | inr later ↦ later
        ];
        back = λ later. left.back (subst (SomeFrom P at) (sym first.1) (inr later));
      }

  none_left : (at : ℕ) (rest : List CodeUnit) → UnitCode (drop at words) rest
      → ((unit : CodeUnit) → BeginsAt words at unit → ⊥) → ¬ SomeFrom P at rest
  none_left at [] units none = λ some. some
  none_left at (first ∷ others) units none =
      absurd (none first (UnitCode-first (drop at words) first others units).0)

  pub left_none : (at : ℕ) → IsLeft P words code at → ((unit : CodeUnit) → BeginsAt words at unit → ⊥)
      → ¬ SomeFrom P 0 code
  left_none at left none = λ some. none_left at left.rest left.units none (left.on some)

-- ---- words of the other module

module _ (m n : Placed) (at : ℕ) (off : ℤ) where
  pub word_inside : (link : Bool) (word : ℕ) → LeadsToWord (m.base + at) off word → n.base ≤ word
      → word < n.base + length n.words → IsJumpInto m at (Jump link off) n
  word_inside link word leads from before =
      let same : word ≡ n.base + (word - n.base) = omega (arith, from) in (
        word - n.base,
        omega (arith, from, before),
        subst (λ w. Leads (code_address m at) off (4 * w)) same leads.leads,
      )

  pub inside_word : (link : Bool) → n.base + length n.words ≤ MAX_CODE_WORDS
      → (into : IsJumpInto m at (Jump link off) n) → LeadsToWord (m.base + at) off (n.base + into.0)
  inside_word link ends into = record { leads = into.2; within = omega (arith, ends, into.1) }

-- ---- units by their numbers

module _ (P : (at : ℕ) → CodeUnit → Type 0) where
  from_number : (a : ℕ) (code : List CodeUnit) (k : ℕ) (unit : CodeUnit) → slice_get code k ≡ Some unit
      → P (a + place_of code k) unit → SomeFrom P a code
  from_number a [] k unit is holds = absurd (none-some unit is)
  from_number a (first ∷ code) zero unit is holds =
      let here : a + 0 ≡ a = omega arith in
      inl (subst (λ n. P n first) here (subst (P (a + 0)) (sym (same_Some first unit is)) holds))
  from_number a (first ∷ code) (suc k) unit is holds =
      let place : a + place_of (first ∷ code) (suc k) ≡ a + size_of first + place_of code k =
      omega (arith, place_next first code k) in
      inr (from_number (a + size_of first) code k unit is (subst (λ n. P n unit) place holds))

  to_number : (a : ℕ) (code : List CodeUnit) → SomeFrom P a code
      → (k : ℕ) × (unit : CodeUnit) × (slice_get code k ≡ Some unit) × P (a + place_of code k) unit
  to_number a [] some = absurd some
  to_number a (first ∷ code) (inl holds) =
      let here : a ≡ a + 0 = omega arith in
      (0, first, refl, subst (λ n. P n first) here holds)
  to_number a (first ∷ code) (inr later) =
      let found = to_number (a + size_of first) code later in
      let place : a + size_of first + place_of code found.0 ≡ a + place_of (first ∷ code) (suc found.0) =
      omega (arith, place_next first code found.0) in
      (suc found.0, found.1, found.2, subst (λ n. P n found.1) place found.3)

-- the unit at a word of the one module jumps into the other
abbrev pub Jumps : (m n : Placed) → (at : ℕ) → CodeUnit → Type 0
Jumps m n at unit = IsJumpInto m at unit n

module _ (m n : Placed) (code : List CodeUnit) (units : UnitCode m.words code) where
  pub some_jumps : SomeFrom (Jumps m n) 0 code → JumpsInto m n
  some_jumps some =
      let found = to_number (Jumps m n) 0 code some in
      let place : 0 + place_of code found.0 ≡ place_of code found.0 = omega arith in
      record {
        at = 0 + place_of code found.0;
        unit = found.1;
        stands = record { code = code; units = units; number = found.0; is = found.2; place = place };
        jumps = found.3;
      }

  pub jumps_some : JumpsInto m n → SomeFrom (Jumps m n) 0 code
  jumps_some into =
      let stands = into.stands in
      let same : stands.code ≡ code = UnitCode-one m.words stands.code code stands.units units in
      let is : slice_get code stands.number ≡ Some into.unit =
      subst (λ us. slice_get us stands.number ≡ Some into.unit) same stands.is in
      let place : into.at ≡ place_of code stands.number =
      subst (λ us. into.at ≡ place_of us stands.number) same stands.place in
      let from_first : into.at ≡ 0 + place_of code stands.number = omega (arith, place) in
      from_number (Jumps m n) 0 code stands.number into.unit is
      (subst (λ at. IsJumpInto m at into.unit n) from_first into.jumps)
