-- A closed image with a masked load, a call, two services and a return.
use Rattle.std.proofs.Common.{◌≡◌, ◌≢◌, ℕ, zero, suc, ◌+◌, ◌-◌, ◌*◌, ◌≤◌, ◌<◌, true, false, pos, List, [], ◌∷◌, ◌++◌, length, length-set, replicate, slice_index, slice_set, Some, refl, subst, ◌∙◌, arith}
use Rattle.std.specs.Prelude.{slice_get}
use Rattle.std.proofs.lemmas.List.{length-replicate, get_or-set_other}
use Rattle.std.proofs.lemmas.Option.{same_Some}
use mathlib.Core.Logic.{dite}
use native.Mathlib.Decide.{ℕ_discrete}
use Rattle.rv_insn.specs.declared.insn.ImmOp.TheVariants.{Addi}
use Rattle.rv_insn.specs.declared.insn.Insn.TheVariants as insns
use Rattle.rv_insn.specs.declared.insn.LoadKind.TheVariants.{Lw}
use Rattle.cfi_unit.specs.declared.unit.Unit.{Unit as CodeUnit}
use Rattle.cfi_unit.specs.declared.unit.Unit.TheVariants as units
use Rattle.cfi_word.specs.declared.lists.Image.{Image}
use Rattle.cfi_word.specs.declared.ids.TheConstants.{FIELD_MAX}
use Rattle.cfi_word.specs.declared.map.TheConstants.{FIRST_BASE}
use Rattle.cfi_word.specs.declared.limits.TheConstants.{MIN_CODE_WORDS}
use Rattle.cfi_word.specs.Table.{IsSize, slots_of}
use Rattle.cfi_model.specs.Closed.{idle, unit_address, StaysInside, IsReadAs, IsStartOf, IsStartIn, HasClasses, IsClosed}
use Rattle.cfi_model.proofs.ClosedLemmas.{closed}

-- its units
abbrev load : CodeUnit
load = units.Load Lw 6 10 (pos 0)

abbrev upper : CodeUnit
upper = units.Plain (insns.Lui 5 0)

abbrev lower : CodeUnit
lower = units.Plain (insns.OpImm Addi 5 5 (pos 172))

abbrev call : CodeUnit
call = units.Check true 5 (pos 0) 0

abbrev quiet : CodeUnit
quiet = units.Plain (insns.OpImm Addi 17 0 (pos 3))

abbrev exit : CodeUnit
exit = units.Plain (insns.OpImm Addi 17 0 (pos 1))

abbrev stay : CodeUnit
stay = units.Jump false (pos 0)

abbrev return : CodeUnit
return = units.Check false 1 (pos 0) 1

abbrev body : List CodeUnit
body = load ∷ upper ∷ lower ∷ call ∷ quiet ∷ units.Service ∷ exit ∷ units.Service ∷ stay ∷ return ∷ []

-- their words
abbrev pub call_words : List ℕ
call_words =
    331667 ∷ 13606803 ∷ 13623187 ∷ 1073745719 ∷ 32501683 ∷ 1024771 ∷ 695 ∷ 180519571 ∷ 167827 ∷ 19914515 ∷
    34542691 ∷ 536874551 ∷ 929411 ∷ 268439351 ∷ 33492787 ∷ 995075 ∷ 32410211 ∷ 31412019 ∷ 17768211 ∷
    4262400227 ∷ 1048691 ∷ 1016039 ∷ 3147923 ∷ 115 ∷ 1050771 ∷ 115 ∷ 111 ∷ 36755 ∷ 19914515 ∷ 34542691 ∷
    536874551 ∷ 5123715 ∷ 268439351 ∷ 33492787 ∷ 995075 ∷ 32410211 ∷ 31412019 ∷ 17768211 ∷ 4262400227 ∷
    1048691 ∷ 1015911 ∷ []

abbrev pub call_code : (code_words : ℕ) → List ℕ
call_code code_words = (replicate FIRST_BASE 0 ++ call_words) ++ replicate (code_words - 57) 0

-- the call may go to the function, at word 43, and the return behind the call, to word 38
abbrev pub call_tary : (code_words : ℕ) → List ℕ
call_tary code_words = slice_set (slice_set (replicate code_words 0) 38 2) 43 1

abbrev pub call_bary : (code_words : ℕ) → List ℕ
call_bary code_words = slice_set (slice_set (replicate (slots_of code_words) FIELD_MAX) 0 1) 1 2

abbrev pub call_image : (code_words : ℕ) → Image
call_image code_words =
    record { tary = call_tary code_words; bary = call_bary code_words; code = call_code code_words }

-- ---- its classes

-- one item is another
set_most : (xs : List ℕ) (i value most : ℕ) → value ≤ most → ((k : ℕ) → slice_index xs k ≤ most)
    → (k : ℕ) → slice_index (slice_set xs i value) k ≤ most
set_most [] i value most fits all k = all k
set_most (x ∷ xs) zero value most fits all zero = fits
set_most (x ∷ xs) zero value most fits all (suc k) = all (suc k)
set_most (x ∷ xs) (suc i) value most fits all zero = all zero
set_most (x ∷ xs) (suc i) value most fits all (suc k) = set_most xs i value most fits (λ n. all (suc n)) k

set_some : (xs : List ℕ) (i value : ℕ) → value ≢ 0 → (k : ℕ) → slice_index xs k ≢ 0
    → slice_index (slice_set xs i value) k ≢ 0
set_some [] i value fits k all = all
set_some (x ∷ xs) zero value fits zero all = fits
set_some (x ∷ xs) zero value fits (suc k) all = all
set_some (x ∷ xs) (suc i) value fits zero all = all
set_some (x ∷ xs) (suc i) value fits (suc k) all = set_some xs i value fits k all

set_held : (xs : List ℕ) (i value k : ℕ) → slice_index (slice_set xs i value) k ≢ 0 → k ≢ i → slice_index xs k ≢ 0
set_held xs i value k held apart none = held (get_or-set_other xs i k value 0 apart ∙ none)

pub no_class : (count k : ℕ) → slice_index (replicate count 0) k ≡ 0
no_class zero k = refl
no_class (suc count) zero = refl
no_class (suc count) (suc k) = no_class count k

classes : (code_words : ℕ) → IsSize code_words → HasClasses code_words (call_image code_words)
classes code_words size =
    let one = (closed code_words size).1.classes in
    let least : MIN_CODE_WORDS ≤ code_words = size.least in
    let zeros : List ℕ = replicate code_words 0 in
    let tops : List ℕ = replicate (slots_of code_words) FIELD_MAX in
    record {
      tary_length = length-set (slice_set zeros 38 2) 43 1 ∙ (length-set zeros 38 2 ∙ one.tary_length);
      bary_length = length-set (slice_set tops 0 1) 1 2 ∙ (length-set tops 0 1 ∙ one.bary_length);
      code_length = omega (arith, least, length-replicate {A = ℕ} (code_words - 57) 0);
      tary_most = set_most (slice_set zeros 38 2) 43 1 FIELD_MAX (omega arith)
          (set_most zeros 38 2 FIELD_MAX (omega arith) one.tary_most);
      bary_most = set_most (slice_set tops 0 1) 1 2 FIELD_MAX (omega arith)
          (set_most tops 0 1 FIELD_MAX (omega arith) one.bary_most);
      bary_least = λ slot within.
          set_some (slice_set tops 0 1) 1 2 (λ e. absurd (omega (arith, e))) slot
          (set_some tops 0 1 (λ e. absurd (omega (arith, e))) slot (one.bary_least slot within));
    }

-- ---- its code

-- a check is no idle unit
IsCheck : CodeUnit → Type 0
IsCheck (units.Check link rs1 imm slot) = Unit {0}
IsCheck _ = ⊥

busy : Some return ≢ Some idle
unfolding IsCheck
busy same = subst IsCheck (same_Some return idle same) tt

read_as : (code_words : ℕ) → IsReadAs (call_code code_words) body 0 (code_words - 57)
read_as code_words = record {
  fit = ((omega arith, omega arith, omega arith), ((omega arith, omega arith), ((omega arith, omega arith, omega arith), ((omega arith, omega arith, omega arith), ((omega arith, omega arith, omega arith), (tt, ((omega arith, omega arith, omega arith), (tt, ((omega arith, refl), ((omega arith, omega arith, omega arith), tt))))))))));
  spelled = refl;
  busy = busy;
}

start : (number address : ℕ) → number < 10 → address ≡ unit_address body number → IsStartOf body address
start number address within here = (number, within, here)

module _ (slots address : ℕ) (two : 2 ≤ slots) where
  abbrev Stays : CodeUnit → Type 0
  Stays unit = StaysInside body slots address unit

  stays_at : (number : ℕ) (unit : CodeUnit) → slice_get body number ≡ Some unit → address ≡ unit_address body number
      → Stays unit
  stays_at zero unit at here =
      subst Stays (same_Some load unit at) (start 1 (address + 24) (omega arith) (omega (arith, here)))
  stays_at (suc zero) unit at here =
      subst Stays (same_Some upper unit at) (start 2 (address + 4) (omega arith) (omega (arith, here)))
  stays_at (suc (suc zero)) unit at here =
      subst Stays (same_Some lower unit at) (start 3 (address + 4) (omega arith) (omega (arith, here)))
  stays_at (suc (suc (suc zero))) unit at here =
      subst Stays (same_Some call unit at)
      (start 4 (address + 56) (omega arith) (omega (arith, here)), omega (arith, two))
  stays_at (suc (suc (suc (suc zero)))) unit at here =
      subst Stays (same_Some quiet unit at) (start 5 (address + 4) (omega arith) (omega (arith, here)))
  stays_at (suc (suc (suc (suc (suc zero))))) unit at here =
      subst Stays (same_Some units.Service unit at) (start 6 (address + 4) (omega arith) (omega (arith, here)))
  stays_at (suc (suc (suc (suc (suc (suc zero)))))) unit at here =
      subst Stays (same_Some exit unit at) (start 7 (address + 4) (omega arith) (omega (arith, here)))
  stays_at (suc (suc (suc (suc (suc (suc (suc zero))))))) unit at here =
      subst Stays (same_Some units.Service unit at) (start 8 (address + 4) (omega arith) (omega (arith, here)))
  stays_at (suc (suc (suc (suc (suc (suc (suc (suc zero)))))))) unit at here =
      subst Stays (same_Some stay unit at) (tt, start 8 (address + 0) (omega arith) (omega (arith, here)))
  stays_at (suc (suc (suc (suc (suc (suc (suc (suc (suc zero))))))))) unit at here = subst Stays (same_Some return unit at) (tt, omega (arith, two))
  stays_at (suc (suc (suc (suc (suc (suc (suc (suc (suc (suc number)))))))))) unit at here =
      absurd (cc)

starts_at : (code_words k : ℕ) → slice_index (call_tary code_words) k ≢ 0 → IsStartOf body (4 * k)
starts_at code_words k held = dite (ℕ_discrete k 43)
    (λ here. start 9 (4 * k) (omega arith) (omega (arith, here)))
    (λ other. dite (ℕ_discrete k 38)
    (λ here. start 4 (4 * k) (omega arith) (omega (arith, here)))
    (λ apart. absurd (set_held (replicate code_words 0) 38 2 k
    (set_held (slice_set (replicate code_words 0) 38 2) 43 1 k held other) apart (no_class code_words k))))

pub call_closed : (code_words : ℕ) → IsSize code_words → IsClosed code_words (call_image code_words)
call_closed code_words size =
    let many = (classes code_words size).bary_length in
    let two : 2 ≤ length (call_bary code_words) = omega (arith, many, size.least) in (
      body,
      record {
        classes = classes code_words size;
        idles = 0;
        zeros = code_words - 57;
        code = read_as code_words;
        inside = λ address unit stands.
            stays_at (length (call_bary code_words)) address two stands.0 unit stands.1 stands.2;
        targets = starts_at code_words;
      },
    )

-- its units' addresses are starts
pub call_starts : (code_words number : ℕ) → number < 10 → IsStartIn (call_image code_words) (unit_address body number)
call_starts code_words number within = record {
  body = body;
  idles = 0;
  zeros = code_words - 57;
  code = read_as code_words;
  starts = (number, within, refl);
}
