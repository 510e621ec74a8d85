-- The checks of an instrumented module: one for each indirect jump, in order.
use Rattle.std.proofs.Common.{◌≡◌, ℕ, zero, suc, ◌-◌, ◌<◌, ◌≤◌, ◌⊎◌, Bool, true, false, List, [], ◌∷◌, ◌++◌, length, Option, Some, None, refl, ap, sym, subst, ◌∙◌, inl, inr, ⊎_elim, arith, length-append}
use Rattle.std.specs.List.{slice_get}
use Rattle.std.proofs.lemmas.Bool.{cases_Bool, false≢true, both_ways, and_parts, and_cases, and_from, not_from_false, lt-ltb}
use Rattle.std.proofs.lemmas.List.Elements.{filter_map-append}
use Rattle.std.proofs.lemmas.Option.{none-some, same_Some, slice_get_within}
use Rattle.elf_read.specs.declared.object.Symbol.{Symbol}
use Rattle.rv_insn.specs.declared.insn.Insn.{Insn}
use Rattle.rv_insn.specs.declared.insn.Insn.TheVariants as insns
use Rattle.cfi_instr.specs.Words.{Words, insn_at, count_of}
use Rattle.cfi_instr.specs.Insns.{is_auipc, is_jalr, is_linked}
use Rattle.cfi_values.specs.Some.{holds}
use Rattle.cfi_instr.specs.Items.{is_inner, is_pair, is_item, is_indirect}
use Rattle.cfi_instr.specs.Jumps.{ordinal_of}
use Rattle.cfi_instr.specs.Sizes.{is_long, words_before}
use Rattle.cfi_instr.specs.Units.{insn_units, units_at}
use Rattle.cfi_verify.specs.declared.checks.CheckSpot.{CheckSpot}
use Rattle.cfi_unit.specs.declared.spot.Spot.{Spot}
use Rattle.cfi_unit.specs.Spots.{spots_of}
use Rattle.cfi_verify.specs.Spots.{check_of, checks_of}
use Rattle.cfi_instr_law.proofs.BoundLemmas.{item-parts}
use Rattle.cfi_instr_law.proofs.ItemLemmas.{item_spots, spots_to, spots-more, apart, single-from}

-- of two lists joined, the first has the number, or the second has what is left of it
get-joined : (xs ys : List CheckSpot) (k : ℕ) (c : CheckSpot) → slice_get (xs ++ ys) k ≡ Some c
    → (slice_get xs k ≡ Some c) ⊎ ((length xs ≤ k) × (slice_get ys (k - length xs) ≡ Some c))
get-joined [] ys k c is =
    let same : k ≡ k - 0 = omega arith in inr (omega arith, subst (λ (n : ℕ). slice_get ys n ≡ Some c) same is)
get-joined (x ∷ xs) ys zero c is = inl is
get-joined (x ∷ xs) ys (suc k) c is =
    ⊎_elim
    (λ (front : slice_get xs k ≡ Some c). inl front)
    (λ (back : (length xs ≤ k) × (slice_get ys (k - length xs) ≡ Some c)).
    let same : k - length xs ≡ suc k - length (x ∷ xs) = omega arith in
    inr (omega (arith, back.0), subst (λ (n : ℕ). slice_get ys n ≡ Some c) same back.1))
    (get-joined xs ys k c is)

jalr-no-auipc : (i : Insn) → is_jalr i ≡ true → is_auipc i ≡ false
jalr-no-auipc (insns.Auipc rd imm) h = absurd (false≢true h)
jalr-no-auipc i h = refl

module _ (t : Words) (symbols : List Symbol) (long : List Bool) (offsets : List ℕ) where
  abbrev item_checks : (w : ℕ) → List CheckSpot
  item_checks w = checks_of (item_spots t symbols long offsets w)

  -- an indirect jump is one check
  pub record IsOneCheck (w : ℕ) (checks : List CheckSpot) : Type 0 where
    pub check : CheckSpot
    pub only : checks ≡ check ∷ []
    pub at : check.at ≡ words_before t long w
    pub link : check.link ≡ holds is_linked (insn_at t w)

  jalr-check : (w : ℕ) (insn : Option Insn) → insn ≡ insn_at t w → holds is_jalr insn ≡ true
      → IsOneCheck w (checks_of (spots_of (words_before t long w) (insn_units t symbols long offsets w insn)))
  jalr-check w None is h = absurd (false≢true h)
  jalr-check w (Some (insns.Jalr rd rs1 imm)) is h = elim (cases_Bool (is_long long w)) [
    | inl e ↦ rw e (record { check = _; only = refl; at = refl; link = ap (holds is_linked) is })
    | inr e ↦ rw e (record { check = _; only = refl; at = refl; link = ap (holds is_linked) is })
  ]
  jalr-check w (Some insn) is h = absurd (false≢true h)

  no-check : (at w : ℕ) (insn : Option Insn) → holds is_jalr insn ≡ false
      → checks_of (spots_of at (insn_units t symbols long offsets w insn)) ≡ []
  no-check at w None h = refl
  no-check at w (Some (insns.Jalr rd rs1 imm)) h = absurd (false≢true (sym h))
  no-check at w (Some insn) h = elim (cases_Bool (is_long long w)) [
    | inl e ↦ rw e refl
    | inr e ↦ rw e refl
  ]

  one-check : (w : ℕ) → is_indirect t w ≡ true → IsOneCheck w (item_checks w)
  unfolding units_at
  one-check w h =
      let parts = and_parts (is_item t w) (holds is_jalr (insn_at t w)) h in
      let outer = (item-parts t w parts.0).1 in
      let single = single-from t w (apart is_jalr is_auipc (insn_at t w) jalr-no-auipc parts.1) in
      rw (outer, single) (jalr-check w (insn_at t w) refl parts.1)

  none-else : (w : ℕ) → w < count_of t → is_indirect t w ≡ false → item_checks w ≡ []
  unfolding units_at
  none-else w inside h = elim (cases_Bool (is_inner t w)) [
    | inl inner ↦ rw inner refl
    | inr outer ↦ elim (cases_Bool (is_pair t w)) [
      | inl pair ↦ rw (outer, pair) refl
      | inr single ↦
          let item_is : is_item t w ≡ true =
          and_from _ _ (lt-ltb w (count_of t) inside) (not_from_false (is_inner t w) outer) in
          let plain : holds is_jalr (insn_at t w) ≡ false =
          ⊎_elim (λ (other : is_item t w ≡ false). absurd (both_ways (is_item t w) other item_is))
          (λ (p : holds is_jalr (insn_at t w) ≡ false). p)
          (and_cases (is_item t w) (holds is_jalr (insn_at t w)) h) in
          rw (outer, single) (no-check (words_before t long w) w (insn_at t w) plain)
    ]
  ]

  abbrev checks_to : (n : ℕ) → List CheckSpot
  checks_to n = checks_of (spots_to t symbols long offsets n)

  checks-more : (n : ℕ) → checks_to (suc n) ≡ checks_to n ++ item_checks n
  checks-more n =
      ap (λ (ss : List Spot). checks_of ss) (spots-more t symbols long offsets n)
      ∙ filter_map-append check_of (spots_to t symbols long offsets n) (item_spots t symbols long offsets n)

  -- there are as many as indirect jumps
  pub count-checks : (n : ℕ) → n ≤ count_of t → length (checks_to n) ≡ ordinal_of t n
  count-checks zero within = refl
  count-checks (suc n) within =
      let inside : n < count_of t = omega (arith, within) in
      let before = count-checks n (omega (arith, within)) in
      let total = ap (λ (cs : List CheckSpot). length cs) (checks-more n) ∙ length-append (checks_to n) (item_checks n) in
      elim (cases_Bool (is_indirect t n)) [
        | inl here ↦
            let one = ap (λ (cs : List CheckSpot). length cs) (one-check n here).only in
            rw here (omega (arith, total, before, one))
        | inr other ↦
            let none = ap (λ (cs : List CheckSpot). length cs) (none-else n inside other) in
            rw other (omega (arith, total, before, none))
      ]

  -- the check of a number is that of an indirect jump
  pub record IsCheckOf (n k : ℕ) (check : CheckSpot) : Type 0 where
    pub word : ℕ
    pub inside : word < n
    pub indirect : is_indirect t word ≡ true
    pub number : k ≡ ordinal_of t word
    pub at : check.at ≡ words_before t long word
    pub link : check.link ≡ holds is_linked (insn_at t word)

  further : (n k : ℕ) (check : CheckSpot) → IsCheckOf n k check → IsCheckOf (suc n) k check
  further n k check is = record {
    word = is.word;
    inside = omega (arith, is.inside);
    indirect = is.indirect;
    number = is.number;
    at = is.at;
    link = is.link;
  }

  first-of : (n k : ℕ) (check : CheckSpot) → n < count_of t → k ≡ ordinal_of t n → is_indirect t n ≡ true
      → slice_get (item_checks n) 0 ≡ Some check → IsCheckOf (suc n) k check
  first-of n k check inside number here is =
      let one = one-check n here in
      let same : one.check ≡ check =
      same_Some one.check check (ap (λ (cs : List CheckSpot). slice_get cs 0) (sym one.only) ∙ is) in
      record {
        word = n;
        inside = omega arith;
        indirect = here;
        number = number;
        at = ap (λ (c : CheckSpot). c.at) (sym same) ∙ one.at;
        link = ap (λ (c : CheckSpot). c.link) (sym same) ∙ one.link;
      }

  pub check-of : (n : ℕ) → n ≤ count_of t → (k : ℕ) (check : CheckSpot) → slice_get (checks_to n) k ≡ Some check
      → IsCheckOf n k check
  check-of zero within k check is = absurd (none-some check is)
  check-of (suc n) within k check is =
      let inside : n < count_of t = omega (arith, within) in
      let before = count-checks n (omega (arith, within)) in
      ⊎_elim
      (λ (front : slice_get (checks_to n) k ≡ Some check).
      further n k check (check-of n (omega (arith, within)) k check front))
      (λ (back : (length (checks_to n) ≤ k) × (slice_get (item_checks n) (k - length (checks_to n)) ≡ Some check)).
      let left : ℕ = k - length (checks_to n) in
      elim (cases_Bool (is_indirect t n)) [
        | inl here ↦
            let one = ap (λ (cs : List CheckSpot). length cs) (one-check n here).only in
            let fits = slice_get_within (item_checks n) left check back.1 in
            let zeroth : left ≡ 0 = omega (arith, fits, one) in
            first-of n k check inside (omega (arith, zeroth, back.0, before)) here
            (ap (slice_get (item_checks n)) (sym zeroth) ∙ back.1)
        | inr other ↦
            let none : slice_get [] left ≡ Some check =
            ap (λ (cs : List CheckSpot). slice_get cs left) (sym (none-else n inside other)) ∙ back.1 in
            absurd (none-some check none)
      ])
      (get-joined (checks_to n) (item_checks n) k check
      (ap (λ (cs : List CheckSpot). slice_get cs k) (sym (checks-more n)) ∙ is))
