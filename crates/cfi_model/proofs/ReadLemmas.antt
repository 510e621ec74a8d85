-- Code is read as one list of units.
use Rattle.std.proofs.Common.{◌≡◌, ◌≢◌, ℕ, zero, suc, ◌+◌, ◌-◌, ◌<◌, ◌≤◌, Some, None, List, [], ◌∷◌, ◌++◌, length, take, drop, replicate, slice_get, get_or, refl, sym, ◌∙◌, ap, subst, arith, inl, inr}
use Rattle.std.specs.List.{AllByRecursion}
use Rattle.std.proofs.lemmas.Bool.{cases_lt}
use Rattle.std.proofs.lemmas.List.{append_assoc, length-replicate, length-append, get_or-replicate}
use Rattle.std.proofs.lemmas.List.Concat.{flat_map-append}
use Rattle.std.proofs.lemmas.Option.{slice_get-get_or}
use Rattle.std.proofs.Math.Seq.{drop-append_seam, take-append_seam, get_or-append_right}
use Rattle.std.proofs.Math.ListN.{get_or-append}
use Rattle.rv_insn.specs.declared.insn.Insn.TheVariants as insns
use Rattle.rv_insn.specs.InsnOf.{insn_of}
use Rattle.cfi_unit.specs.declared.unit.Unit.{Unit as CodeUnit}
use Rattle.cfi_unit.specs.Unit.{IsUnit, insns_of, words_of, size_of}
use Rattle.cfi_unit.specs.Code.{BeginsAt}
use Rattle.cfi_unit.proofs.CodeLemmas.{BeginsAt-insn, BeginsAt-one, length-words_of, AllByRecursion-append}
use Rattle.cfi_unit.proofs.UnitLemmas.{size_pos}
use Rattle.cfi_model.specs.Closed.{code_of, idle, IsReadAs}

-- a unit has no word 0
pub no_zero : (words : List ℕ) (at : ℕ) (u : CodeUnit) → BeginsAt words at u → (k : ℕ) → k < size_of u
    → get_or words (at + k) 0 ≢ 0
unfolding insn_of
no_zero words at u begins k h none =
    let is = BeginsAt-insn words at u begins k insns.Ebreak h in
    let never : insn_of 0 ≡ None = refl in
    let some : insn_of 0 ≡ Some (get_or (insns_of u) k insns.Ebreak) = sym (ap insn_of none) ∙ is in
    absurd (cc)

-- zeros are zero at each place
all_zero : (zeros k : ℕ) → ◌≡◌ {A = ℕ} (get_or (replicate zeros 0) k 0) 0
all_zero zero k = refl
all_zero (suc n) zero = refl
all_zero (suc n) (suc k) = all_zero n k

-- zeros begin no unit
no_unit : (zeros : ℕ) (u : CodeUnit) → BeginsAt (replicate zeros 0) 0 u → ⊥
no_unit zeros u begins = no_zero (replicate zeros 0) 0 u begins 0 (size_pos u) (all_zero zeros (0 + 0))

-- a list that begins with a unit's words
begins_with : (u : CodeUnit) (tail : List ℕ) → IsUnit u → BeginsAt (words_of u ++ tail) 0 u
begins_with u tail fits = record {
  fits = fits;
  spelled = subst (λ k. take k (words_of u ++ tail) ≡ words_of u) (length-words_of u)
      (take-append_seam (words_of u) tail);
}

-- the words of units and then zeros are those of one list of units
same_units : (us vs : List CodeUnit) (n m : ℕ) → AllByRecursion IsUnit us → AllByRecursion IsUnit vs
    → code_of us ++ replicate n 0 ≡ code_of vs ++ replicate m 0 → us ≡ vs
same_units [] [] n m p q same = refl
same_units [] (v ∷ vs) n m p q same =
    let e : replicate n 0 ≡ words_of v ++ (code_of vs ++ replicate m 0) =
    same ∙ append_assoc (words_of v) (code_of vs) (replicate m 0) in
    absurd (no_unit n v (subst (λ xs. BeginsAt xs 0 v) (sym e) (begins_with v _ q.0)))
same_units (u ∷ us) [] n m p q same =
    let e : replicate m 0 ≡ words_of u ++ (code_of us ++ replicate n 0) =
    sym same ∙ append_assoc (words_of u) (code_of us) (replicate n 0) in
    absurd (no_unit m u (subst (λ xs. BeginsAt xs 0 u) (sym e) (begins_with u _ p.0)))
same_units (u ∷ us) (v ∷ vs) n m p q same =
    let e : words_of u ++ (code_of us ++ replicate n 0) ≡ words_of v ++ (code_of vs ++ replicate m 0) =
    sym (append_assoc (words_of u) (code_of us) (replicate n 0)) ∙ same
    ∙ append_assoc (words_of v) (code_of vs) (replicate m 0) in
    let first : u ≡ v = BeginsAt-one _ 0 u v (begins_with u _ p.0)
    (subst (λ xs. BeginsAt xs 0 v) (sym e) (begins_with v _ q.0)) in
    let seam : length (words_of u) ≡ length (words_of v) = ap (λ x. length (words_of x)) first in
    let rest : code_of us ++ replicate n 0 ≡ code_of vs ++ replicate m 0 =
    sym (drop-append_seam (words_of u) _) ∙ ap (drop (length (words_of u))) e
    ∙ ap (λ k. drop k (words_of v ++ (code_of vs ++ replicate m 0))) seam ∙ drop-append_seam (words_of v) _ in
    let others = same_units us vs n m p.1 q.1 rest in
    ap (λ x. x ∷ us) first ∙ ap (λ xs. v ∷ xs) others

-- idle units are units
idles_fit : (n : ℕ) → AllByRecursion IsUnit (replicate n idle)
idles_fit zero = tt
idles_fit (suc n) = ((omega arith, omega arith, omega arith), idles_fit n)

-- a body that is followed by idle units is no longer than another one
not_shorter : (a b : List CodeUnit) (i j : ℕ) → a ++ replicate i idle ≡ b ++ replicate j idle
    → slice_get b (length b - 1) ≢ Some idle → length b ≤ length a
not_shorter a b i j same busy =
    elim (cases_lt (length a) (length b)) [
      | inl less ↦
          let k : ℕ = length b - 1 in
          let sizes : length a + i ≡ length b + j =
          omega (
            arith,
            ap length same,
            length-append a (replicate i idle),
            length-append b (replicate j idle),
            length-replicate i idle,
            length-replicate j idle,
          ) in
          let left : get_or (a ++ replicate i idle) k idle ≡ idle =
          get_or-append_right a (replicate i idle) k idle (omega arith)
          ∙ get_or-replicate i (k - length a) idle idle (omega arith) in
          let right : get_or (b ++ replicate j idle) k idle ≡ get_or b k idle =
          get_or-append b (replicate j idle) idle k (omega arith) in
          let last : get_or b k idle ≡ idle = sym right ∙ ap (λ xs. get_or xs k idle) (sym same) ∙ left in
          absurd (busy (slice_get-get_or b k idle (omega arith) ∙ ap (λ u. Some u) last))
      | inr more ↦ more
    ]

-- the body is one
pub read_once : (code : List ℕ) (a b : List CodeUnit) (i j n m : ℕ) → IsReadAs code a i n → IsReadAs code b j m → a ≡ b
read_once code a b i j n m p q =
    let us : List CodeUnit = a ++ replicate i idle in
    let vs : List CodeUnit = b ++ replicate j idle in
    let words : code_of us ++ replicate n 0 ≡ code_of vs ++ replicate m 0 =
    ap (λ xs. xs ++ replicate n 0) (flat_map-append words_of a (replicate i idle))
    ∙ sym p.spelled ∙ q.spelled
    ∙ sym (ap (λ xs. xs ++ replicate m 0) (flat_map-append words_of b (replicate j idle))) in
    let same : us ≡ vs = same_units us vs n m (AllByRecursion-append a _ p.fit (idles_fit i))
    (AllByRecursion-append b _ q.fit (idles_fit j))
    words in
    let least = not_shorter a b i j same q.busy in
    let most = not_shorter b a j i (sym same) p.busy in
    let sizes : length a ≡ length b = omega arith in
    sym (take-append_seam a (replicate i idle)) ∙ ap (take (length a)) same
    ∙ ap (λ k. take k (b ++ replicate j idle)) sizes ∙ take-append_seam b (replicate j idle)
