-- Two images that are closed: code of the one word `j .`, and code of two.
use Rattle.std.proofs.Common.{◌≡◌, ◌≢◌, inl, inr, ℕ, zero, suc, ◌+◌, ◌-◌, ◌≤◌, ◌⊎◌, false, pos, List, [], ◌∷◌, ◌++◌, length, replicate, slice_index, Some, refl, sym, subst, ◌∙◌, arith}
use Rattle.std.specs.Prelude.{slice_get}
use Rattle.std.proofs.lemmas.List.{length-replicate}
use Rattle.std.proofs.lemmas.Option.{slice_get_within, same_Some}
use Rattle.cfi_unit.specs.declared.unit.Unit.{Unit as CodeUnit}
use Rattle.cfi_unit.specs.declared.unit.Unit.TheVariants as units
use Rattle.cfi_word.specs.declared.lists.Image.{Image}
use Rattle.cfi_word.specs.declared.ids.TheConstants.{FIELD_MAX}
use Rattle.cfi_word.specs.declared.map.TheConstants.{FIRST_BASE}
use Rattle.cfi_word.specs.declared.limits.TheConstants.{MIN_CODE_WORDS}
use Rattle.cfi_word.specs.Table.{IsSize, slots_of}
use Rattle.cfi_model.specs.Closed.{idle, StandsIn, StaysInside, IsReadAs, HasClasses, IsClosed}
use Rattle.cfi_model.proofs.ClosedLemmas.{closed}
use Rattle.cfi_runner.proofs.CallLemmas.{no_class}

abbrev jump : CodeUnit
jump = units.Jump false (pos 0)

abbrev body : List CodeUnit
body = jump ∷ jump ∷ []

-- the code of `j .` and of this word behind it
abbrev pub jumps : (code_words next : ℕ) → List ℕ
jumps code_words next = (replicate FIRST_BASE 0 ++ 111 ∷ next ∷ []) ++ replicate (code_words - 18) 0

abbrev pub jumps_image : (code_words next : ℕ) → Image
jumps_image code_words next = record {
  tary = replicate code_words 0;
  bary = replicate (slots_of code_words) FIELD_MAX;
  code = jumps code_words next;
}

-- ---- two words

jumps_length : (code_words : ℕ) → MIN_CODE_WORDS ≤ code_words → length (jumps code_words 111) ≡ code_words
jumps_length code_words least = omega (arith, length-replicate {A = ℕ} (code_words - 18) 0)

classes : (code_words : ℕ) → IsSize code_words → HasClasses code_words (jumps_image code_words 111)
classes code_words size =
    let one = (closed code_words size).1.classes in
    record {
      tary_length = one.tary_length;
      bary_length = one.bary_length;
      code_length = jumps_length code_words size.least;
      tary_most = one.tary_most;
      bary_most = one.bary_most;
      bary_least = one.bary_least;
    }

IsJump : CodeUnit → Type 0
IsJump (units.Jump link off) = Unit {0}
IsJump _ = ⊥

busy : Some jump ≢ Some idle
unfolding IsJump
busy same = subst IsJump (same_Some jump idle same) tt

read_as : (code_words : ℕ) → IsReadAs (jumps code_words 111) body 0 (code_words - 18)
read_as code_words = record {
  fit = ((omega arith, refl), ((omega arith, refl), tt));
  spelled = refl;
  busy = busy;
}

all_jump : (number : ℕ) (unit : CodeUnit) → slice_get body number ≡ Some unit → jump ≡ unit
all_jump zero unit at = same_Some jump unit at
all_jump (suc zero) unit at = same_Some jump unit at
all_jump (suc (suc number)) unit at =
    let within = slice_get_within body (suc (suc number)) unit at in
    let none : ⊥ = omega (arith, within) in
    absurd none

stays : (slots address : ℕ) (unit : CodeUnit) → StandsIn body address unit → StaysInside body slots address unit
stays slots address unit stands =
    let within = slice_get_within body stands.0 unit stands.1 in
    let same : address + 0 ≡ address = omega arith in
    let P : CodeUnit → Type 0 = λ u. StaysInside body slots address u in
    subst P (all_jump stands.0 unit stands.1) (tt, (stands.0, within, same ∙ stands.2))

two_closed : (code_words : ℕ) → IsSize code_words → IsClosed code_words (jumps_image code_words 111)
two_closed code_words size = (
  body,
  record {
    classes = classes code_words size;
    idles = 0;
    zeros = code_words - 18;
    code = read_as code_words;
    inside = stays (length (jumps_image code_words 111).bary);
    targets = λ k held. absurd (held (no_class code_words k));
  },
)

-- ---- one or two

one_closed : (code_words : ℕ) → IsSize code_words → IsClosed code_words (jumps_image code_words 0)
one_closed code_words size =
    let least : MIN_CODE_WORDS ≤ code_words = size.least in
    let count : code_words - 17 ≡ suc (code_words - 18) = omega (arith, least) in
    let rest : List ℕ → List ℕ = λ xs. (replicate FIRST_BASE 0 ++ 111 ∷ []) ++ xs in
    let image : List ℕ → Image = λ xs. record {
      tary = replicate code_words 0;
      bary = replicate (slots_of code_words) FIELD_MAX;
      code = rest xs;
    } in
    subst (λ m. IsClosed code_words (image (replicate m 0))) count (closed code_words size)

pub jumps_closed : (code_words next : ℕ) → IsSize code_words → ((next ≡ 0) ⊎ (next ≡ 111))
    → IsClosed code_words (jumps_image code_words next)
jumps_closed code_words next size (inl is) =
    subst (λ w. IsClosed code_words (jumps_image code_words w)) (sym is) (one_closed code_words size)
jumps_closed code_words next size (inr is) =
    subst (λ w. IsClosed code_words (jumps_image code_words w)) (sym is) (two_closed code_words size)
