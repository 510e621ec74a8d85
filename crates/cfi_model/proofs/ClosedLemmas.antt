-- An image that is closed: code of the one word `j .`, and tables in which no address has a class. In each closed
-- image word 0 and the places past the code have none.
use Rattle.std.proofs.Common.{◌≡◌, ◌≢◌, ℕ, zero, suc, ◌+◌, ◌-◌, ◌≤◌, false, pos, List, [], ◌∷◌, ◌++◌, length, replicate, slice_index, Some, refl, ap, subst, ◌∙◌, arith, inl, inr}
use Rattle.std.specs.Prelude.{slice_get}
use Rattle.std.proofs.lemmas.Bool.{cases_lt}
use Rattle.std.proofs.lemmas.List.{length-replicate, get_or-replicate, get_or_past}
use Rattle.std.proofs.lemmas.Option.{slice_get_within, same_Some}
use Rattle.cfi_unit.specs.declared.unit.Unit.{Unit as CodeUnit}
use Rattle.cfi_unit.specs.declared.unit.Unit.TheVariants as units
use Rattle.cfi_word.specs.declared.lists.Image.{Image}
use Rattle.cfi_word.specs.declared.ids.TheConstants.{FIELD_MAX}
use Rattle.cfi_word.specs.declared.map.TheConstants.{FIRST_BASE}
use Rattle.cfi_word.specs.declared.limits.TheConstants.{MIN_CODE_WORDS}
use Rattle.cfi_word.specs.Table.{IsSize, slots_of}
use Rattle.cfi_model.specs.Closed.{code_of, unit_address, idle, StandsIn, StaysInside, IsStartOf, IsReadAs, HasClasses, IsClosed}

-- the one unit
abbrev jump : CodeUnit
jump = units.Jump false (pos 0)

abbrev body : List CodeUnit
body = jump ∷ []

abbrev pub image_of : (code_words : ℕ) → Image
image_of code_words = record {
  tary = replicate code_words 0;
  bary = replicate (slots_of code_words) FIELD_MAX;
  code = replicate FIRST_BASE 0 ++ code_of body ++ replicate (code_words - (FIRST_BASE + 1)) 0;
}

-- no place of a list of equal numbers holds more
at_most : (count most k : ℕ) → slice_index (replicate count most) k ≤ most
at_most zero most k = omega arith
at_most (suc count) most zero = omega arith
at_most (suc count) most (suc k) = at_most count most k

code_length : (code_words : ℕ) → MIN_CODE_WORDS ≤ code_words → length (image_of code_words).code ≡ code_words
code_length code_words least = omega (arith, length-replicate {A = ℕ} (code_words - (FIRST_BASE + 1)) 0)

classes : (code_words : ℕ) → IsSize code_words → HasClasses code_words (image_of code_words)
classes code_words size = record {
  tary_length = length-replicate code_words 0;
  bary_length = length-replicate (slots_of code_words) FIELD_MAX;
  code_length = code_length code_words size.least;
  tary_most = λ k. (let none = at_most code_words 0 k in omega arith);
  bary_most = at_most (slots_of code_words) FIELD_MAX;
  bary_least = λ slot within zero.
      (let most = get_or-replicate (slots_of code_words) slot FIELD_MAX 0 within in omega arith);
}

-- a jump is no idle unit
IsJump : CodeUnit → Type 0
IsJump (units.Jump link off) = Unit {0}
IsJump _ = ⊥

busy : Some jump ≢ Some idle
unfolding IsJump
busy same = subst IsJump (same_Some jump idle same) tt

read_as : (code_words : ℕ) → IsReadAs (image_of code_words).code body 0 (code_words - (FIRST_BASE + 1))
read_as code_words = record {
  fit = ((omega arith, refl), tt);
  spelled = refl;
  busy = busy;
}

-- the address of the one unit is the one start
starts : (address : ℕ) → address ≡ unit_address body 0 → IsStartOf body address
starts address here = (0, omega arith, here)

only_jump : (number : ℕ) (unit : CodeUnit) → slice_get body number ≡ Some unit → (number ≡ 0) × (jump ≡ unit)
only_jump number unit at =
    let within = slice_get_within body number unit at in
    let first : number ≡ 0 = omega (arith, within) in
    (first, same_Some jump unit (subst (λ k. slice_get body k ≡ Some unit) first at))

stays : (slots address : ℕ) (unit : CodeUnit) → StandsIn body address unit → StaysInside body slots address unit
stays slots address unit stands =
    let only = only_jump stands.0 unit stands.1 in
    let here : address ≡ unit_address body 0 = stands.2 ∙ ap (unit_address body) only.0 in
    let same : address + 0 ≡ address = omega arith in
    let P : CodeUnit → Type 0 = λ u. StaysInside body slots address u in
    subst P only.1 (tt, starts (address + 0) (same ∙ here))

pub closed : (code_words : ℕ) → IsSize code_words → IsClosed code_words (image_of code_words)
closed code_words size = (
  body,
  record {
    classes = classes code_words size;
    idles = 0;
    zeros = code_words - (FIRST_BASE + 1);
    code = read_as code_words;
    inside = stays (length (image_of code_words).bary);
    targets = λ k held. (let none = at_most code_words 0 k in absurd (held (omega arith)));
  },
)

-- code word 0 is no target, nor is a place past the code
pub none_first : (c : ℕ) (image : Image) → IsClosed c image → slice_index image.tary 0 ≡ 0
none_first c image closed = elim (cases_lt 0 (slice_index image.tary 0)) [
  | inl some ↦ (let start = closed.1.targets 0 (λ none. absurd (omega (arith, some, none))) in
      absurd (omega (arith, start.2)))
  | inr none ↦ omega (arith, none)
]

pub none_past : (c : ℕ) (image : Image) → IsClosed c image → (place : ℕ) → c ≤ place
    → slice_index image.tary place ≡ 0
none_past c image closed place past =
    get_or_past image.tary place 0 (omega (arith, past, closed.1.classes.tary_length))
