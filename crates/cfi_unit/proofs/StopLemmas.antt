-- Words that are units have no word that is no instruction, and reading them does not stop.
use Rattle.std.proofs.Common.{◌≡◌, ℕ, ◌+◌, ◌-◌, ◌<◌, ◌≤◌, List, [], ◌∷◌, length, take, drop, ap, sym, subst, ◌∙◌, ⊎_elim, arith, length-take, length-drop, get_or-drop}
use Rattle.std.proofs.lemmas.Bool.{cases_lt}
use Rattle.std.proofs.lemmas.List.{take-take, drop-drop, drop-take}
use Rattle.rv_insn.specs.declared.insn.Insn.TheVariants as insns
use Rattle.rv_insn.specs.Insn.{IsWord}
use Rattle.cfi_unit.specs.declared.unit.Unit.{Unit as CodeUnit}
use Rattle.cfi_unit.specs.Unit.{size_of, Spells}
use Rattle.cfi_unit.specs.Code.{BeginsAt, UnitCode}
use Rattle.cfi_unit.proofs.CodeLemmas.{BeginsAt-one, BeginsAt-within, BeginsAt-word, UnitCode-first}
use Rattle.cfi_unit.specs.Spots.{IsInsnAt, StopsAt, InsnsBelow}

-- each word of units is an instruction
pub code_insns : (words : List ℕ) (body : List CodeUnit) → UnitCode words body → InsnsBelow words (length words)
code_insns words [] code = λ k within. absurd (omega (arith, ap length code.spelled))
code_insns words (u ∷ us) code = λ k within.
    let first = UnitCode-first words u us code in
    ⊎_elim
    (λ (low : k < size_of u).
    let place : 0 + k ≡ k = omega arith in
    subst (IsInsnAt words) place (_, BeginsAt-word words 0 u first.0 k insns.Ecall low))
    (λ (high : size_of u ≤ k).
    let rest = drop (size_of u) words in
    let inside : k - size_of u < length rest = omega (arith, length-drop (size_of u) words) in
    let there = code_insns rest us first.1 (k - size_of u) inside in
    let place : size_of u + (k - size_of u) ≡ k = omega arith in
    subst (IsInsnAt words) place
    (there.0, subst (λ (w : ℕ). IsWord there.0 w) (get_or-drop (size_of u) words (k - size_of u) 0) there.1))
    (cases_lt k (size_of u))

-- a unit that begins in the first words begins in all
begins_in_all : (words : List ℕ) (at : ℕ) (unit : CodeUnit) → BeginsAt (take at words) 0 unit → BeginsAt words 0 unit
begins_in_all words at unit begins =
    let short : size_of unit ≤ at =
    omega (arith, BeginsAt-within (take at words) 0 unit begins, length-take at words) in
    record { fits = begins.fits; spelled = sym (take-take (size_of unit) at words short) ∙ begins.spelled }

-- where words are units, and the first of them are units, one begins after those
pub goes_on : (words : List ℕ) (us vs : List CodeUnit) (at : ℕ) → UnitCode words us → UnitCode (take at words) vs →
    at < length words → (unit : CodeUnit) × BeginsAt words at unit
goes_on words [] vs at code front within = absurd (omega (arith, ap length code.spelled))
goes_on words (u ∷ us) [] at code front within =
    let none : length (take at words) ≡ 0 = ap length front.spelled in
    let start : 0 ≡ at = omega (arith, length-take at words) in
    (u, subst (λ (k : ℕ). BeginsAt words k u) start (UnitCode-first words u us code).0)
goes_on words (u ∷ us) (v ∷ vs) at code front within =
    let one = UnitCode-first words u us code in
    let other = UnitCode-first (take at words) v vs front in
    let same : u ≡ v = BeginsAt-one words 0 u v one.0 (begins_in_all words at v other.0) in
    let size = size_of u in
    let equal : size_of v ≡ size = ap size_of (sym same) in
    let short : size ≤ at =
    omega (arith, BeginsAt-within (take at words) 0 v other.0, length-take at words, equal) in
    let rest = drop size words in
    let whole : size + (at - size) ≡ at = omega arith in
    let cut : drop size (take at words) ≡ take (at - size) rest =
    subst (λ (n : ℕ). drop size (take n words) ≡ take (at - size) rest) whole (drop-take size (at - size) words) in
    let front' : UnitCode (take (at - size) rest) vs =
    subst (λ (ws : List ℕ). UnitCode ws vs) cut
    (subst (λ (n : ℕ). UnitCode (drop n (take at words)) vs) equal other.1) in
    let inside : at - size < length rest = omega (arith, length-drop size words) in
    let next = goes_on rest us vs (at - size) one.1 front' inside in
    let after : drop (at - size) rest ≡ drop at words =
    drop-drop (at - size) size words ∙ ap (λ (n : ℕ). drop n words) whole in
    (next.0, subst (λ (ws : List ℕ). Spells next.0 (take (size_of next.0) ws)) after next.1)

-- a unit that begins in the first words, at any of them, begins in all
begins_further : (words : List ℕ) (end at : ℕ) (unit : CodeUnit) → at < end → BeginsAt (take end words) at unit →
    BeginsAt words at unit
begins_further words end at unit less begins =
    let whole : at + (end - at) ≡ end = omega (arith, less) in
    let cut : drop at (take end words) ≡ take (end - at) (drop at words) =
    subst (λ (n : ℕ). drop at (take n words) ≡ take (end - at) (drop at words)) whole
    (drop-take at (end - at) words) in
    let rest : BeginsAt (take (end - at) (drop at words)) 0 unit =
    subst (λ (ws : List ℕ). Spells unit (take (size_of unit) ws)) cut begins in
    begins_in_all (drop at words) (end - at) unit rest

-- reading stops at one place
pub one_stop : (words : List ℕ) (a b : ℕ) → StopsAt words a → StopsAt words b → a ≤ b
one_stop words a b p q =
    ⊎_elim
    (λ (less : b < a).
    let short : take b (take a words) ≡ take b words = take-take b a words (omega (arith, less)) in
    let front : UnitCode (take b (take a words)) q.before.code =
    subst (λ (ws : List ℕ). UnitCode ws q.before.code) (sym short) q.before.units in
    let inside : b < length (take a words) = omega (arith, length-take a words, p.within, less) in
    let next = goes_on (take a words) p.before.code q.before.code b p.before.units front inside in
    absurd (q.stops next.0 (begins_further words a b next.0 less next.1)))
    (λ (more : a ≤ b). more)
    (cases_lt b a)

-- reading words that are units does not stop
pub no_stop : (words : List ℕ) (code : List CodeUnit) (at : ℕ) → UnitCode words code → ¬ StopsAt words at
no_stop words code at units = λ stops.
    let next = goes_on words code stops.before.code at units stops.before.units stops.within in
    stops.stops next.0 next.1
