-- Where units begin, and the code of a list of units.
use Rattle.std.proofs.Common.{◌≡◌, ℕ, ◌<◌, ◌+◌, ◌≤◌, List, [], ◌∷◌, ◌++◌, map, length, take, drop, get_or, Some, refl, ap, sym, subst, ◌∙◌, arith, length-take, length-drop, get_or-drop, get_or-take}
use Rattle.std.specs.List.{flat_map, AllByRecursion}
use Rattle.std.proofs.lemmas.List.{take-append-drop}
use Rattle.std.proofs.lemmas.List.Concat.{flat_map-append}
use Rattle.std.proofs.Math.Seq.{drop-append_seam, take-append_seam}
use Rattle.rv_insn.specs.declared.insn.Insn.{Insn}
use Rattle.rv_insn.specs.declared.insn.Insn.TheVariants as insns
use Rattle.rv_insn.specs.Insn.{word_of, IsWord}
use Rattle.cfi_unit.specs.declared.unit.Unit.{Unit as CodeUnit}
use Rattle.cfi_unit.specs.Unit.{IsUnit, insns_of, words_of, size_of}
use Rattle.cfi_unit.specs.Code.{BeginsAt, UnitCode}
use Rattle.rv_insn.specs.InsnOf.{insn_of}
use Rattle.rv_insn.proofs.InsnOfLemmas.{insn_of-IsWord}
use Rattle.cfi_unit.proofs.InsnLemmas.{IsWord-get}
use Rattle.cfi_unit.proofs.UnitLemmas.{unit_at, unit_at-append, size_pos, IsUnit-range, first_insn}

-- there are as many words as instructions
length-map : {X Y : Type 0} (f : X → Y) (xs : List X) → length (map f xs) ≡ length xs
length-map f [] = refl
length-map f (x ∷ xs) = omega (arith, length-map f xs)

pub length-words_of : (unit : CodeUnit) → length (words_of unit) ≡ size_of unit
length-words_of unit = length-map word_of (insns_of unit)

-- where a unit begins its words stand, and then the rest
pub BeginsAt-split : (words : List ℕ) (at : ℕ) (unit : CodeUnit) → BeginsAt words at unit →
    drop at words ≡ words_of unit ++ drop (size_of unit) (drop at words)
BeginsAt-split words at unit begins =
    sym (take-append-drop (size_of unit) (drop at words)) ∙ ap (λ ws. ws ++ drop (size_of unit) (drop at words))
    begins.spelled

-- the unit that begins at a place is the one that its words can begin
pub BeginsAt-unit_at : (words : List ℕ) (at : ℕ) (unit : CodeUnit) → BeginsAt words at unit →
    unit_at (drop at words) ≡ Some unit
BeginsAt-unit_at words at unit begins =
    ap unit_at (BeginsAt-split words at unit begins)
    ∙ unit_at-append unit (drop (size_of unit) (drop at words)) begins.fits

-- at most one unit begins at a place
pub BeginsAt-one : (words : List ℕ) (at : ℕ) (u v : CodeUnit) → BeginsAt words at u → BeginsAt words at v → u ≡ v
BeginsAt-one words at u v p q =
    let one = BeginsAt-unit_at words at u p in
    let other = BeginsAt-unit_at words at v q in
    cc

-- a unit ends within the words
pub BeginsAt-within : (words : List ℕ) (at : ℕ) (unit : CodeUnit) → BeginsAt words at unit →
    at + size_of unit ≤ length words
BeginsAt-within words at unit begins =
    let size = length-words_of unit in
    let whole = ap length begins.spelled in
    let some = size_pos unit in
    omega (arith, length-take (size_of unit) (drop at words), length-drop at words)

-- where a unit begins, its instructions stand one after the other
pub BeginsAt-word : (words : List ℕ) (at : ℕ) (unit : CodeUnit) → BeginsAt words at unit → (k : ℕ) (d : Insn) →
    k < size_of unit → IsWord (get_or (insns_of unit) k d) (get_or words (at + k) 0)
BeginsAt-word words at unit begins k d h =
    let word : get_or words (at + k) 0 ≡ get_or (words_of unit) k 0 =
    sym (get_or-drop at words k 0) ∙ sym (get_or-take (size_of unit) (drop at words) k 0 h)
    ∙ ap (λ ws. get_or ws k 0) begins.spelled in
    subst (IsWord (get_or (insns_of unit) k d)) (sym word)
    (IsWord-get (insns_of unit) (IsUnit-range unit begins.fits) k d h)

pub BeginsAt-insn : (words : List ℕ) (at : ℕ) (unit : CodeUnit) → BeginsAt words at unit → (k : ℕ) (d : Insn) →
    k < size_of unit → insn_of (get_or words (at + k) 0) ≡ Some (get_or (insns_of unit) k d)
BeginsAt-insn words at unit begins k d h =
    insn_of-IsWord (get_or (insns_of unit) k d) (get_or words (at + k) 0) (BeginsAt-word words at unit begins k d h)

pub BeginsAt-first : (words : List ℕ) (at : ℕ) (unit : CodeUnit) → BeginsAt words at unit →
    IsWord (first_insn unit) (get_or words at 0)
BeginsAt-first words at unit begins =
    let place : at + 0 ≡ at = omega arith in
    subst (λ k. IsWord (first_insn unit) (get_or words k 0)) place
    (BeginsAt-word words at unit begins 0 insns.Ecall (size_pos unit))

-- the code of no unit, and of one more before the others
pub UnitCode-cons : (words : List ℕ) (unit : CodeUnit) (code : List CodeUnit) → BeginsAt words 0 unit →
    UnitCode (drop (size_of unit) words) code → UnitCode words (unit ∷ code)
UnitCode-cons words unit code begins rest = record {
  fit = (begins.fits, rest.fit);
  spelled = BeginsAt-split words 0 unit begins ∙ ap (λ ws. words_of unit ++ ws) rest.spelled;
}

pub UnitCode-first : (words : List ℕ) (unit : CodeUnit) (code : List CodeUnit) → UnitCode words (unit ∷ code) →
    BeginsAt words 0 unit × UnitCode (drop (size_of unit) words) code
UnitCode-first words unit code h =
    let size = length-words_of unit in
    let front : take (size_of unit) (words_of unit ++ flat_map words_of code) ≡ words_of unit =
    subst (λ n. take n (words_of unit ++ flat_map words_of code) ≡ words_of unit) size
    (take-append_seam (words_of unit) (flat_map words_of code)) in
    let back : drop (size_of unit) (words_of unit ++ flat_map words_of code) ≡ flat_map words_of code =
    subst (λ n. drop n (words_of unit ++ flat_map words_of code) ≡ flat_map words_of code) size
    (drop-append_seam (words_of unit) (flat_map words_of code)) in (
      record { fits = h.fit.0; spelled = ap (take (size_of unit)) h.spelled ∙ front },
      record { fit = h.fit.1; spelled = ap (drop (size_of unit)) h.spelled ∙ back },
    )

-- code before code is code
pub AllByRecursion-append : (us vs : List CodeUnit) → AllByRecursion IsUnit us → AllByRecursion IsUnit vs →
    AllByRecursion IsUnit (us ++ vs)
AllByRecursion-append [] vs p q = q
AllByRecursion-append (u ∷ us) vs p q = (p.0, AllByRecursion-append us vs p.1 q)

pub UnitCode-append : (xs ys : List ℕ) (us vs : List CodeUnit) → UnitCode xs us → UnitCode ys vs →
    UnitCode (xs ++ ys) (us ++ vs)
UnitCode-append xs ys us vs p q = record {
  fit = AllByRecursion-append us vs p.fit q.fit;
  spelled = (let a = p.spelled in let b = q.spelled in let e = flat_map-append words_of us vs in cc);
}

-- words are the code of at most one list of units
pub UnitCode-one : (words : List ℕ) (us vs : List CodeUnit) → UnitCode words us → UnitCode words vs → us ≡ vs
UnitCode-one words [] [] p q = refl
UnitCode-one words [] (v ∷ vs) p q =
    let first = BeginsAt-within words 0 v (UnitCode-first words v vs q).0 in
    let none : length words ≡ 0 = ap length p.spelled in
    absurd (omega (arith, size_pos v))
UnitCode-one words (u ∷ us) [] p q =
    let first = BeginsAt-within words 0 u (UnitCode-first words u us p).0 in
    let none : length words ≡ 0 = ap length q.spelled in
    absurd (omega (arith, size_pos u))
UnitCode-one words (u ∷ us) (v ∷ vs) p q =
    let a = UnitCode-first words u us p in
    let b = UnitCode-first words v vs q in
    let same : u ≡ v = BeginsAt-one words 0 u v a.0 b.0 in
    let rest : UnitCode (drop (size_of u) words) vs = subst (λ w. UnitCode (drop (size_of w) words) vs) (sym same) b.1
    in
    let others = UnitCode-one (drop (size_of u) words) us vs a.1 rest in
    cc
