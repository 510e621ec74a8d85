-- The units of the items of a text, and where they stand.
use Rattle.std.proofs.Common.{◌≡◌, ◌≢◌, ℕ, zero, suc, ◌+◌, ◌-◌, ◌<◌, ◌≤◌, not, Bool, true, false, cond, eqb, List, [], ◌∷◌, ◌++◌, get_or, Option, Some, None, refl, ap, sym, subst, ◌∙◌, inl, inr, ⊎_elim, arith}
use Rattle.std.specs.Prelude.{is_none}
use Rattle.std.specs.List.{Contains}
use Rattle.std.proofs.lemmas.Bool.{cases_Bool, cases_lt, false≢true, both_ways, and_parts, not-true, eqb-false}
use Rattle.std.proofs.lemmas.List.Elements.{All-contains, Contains-append_left, Contains-append_right, Contains-append_cases}
use Rattle.elf_read.specs.declared.object.Symbol.{Symbol}
use Rattle.elf_read.specs.Places.{joined}
use Rattle.rv_insn.specs.declared.insn.Insn.{Insn}
use Rattle.rv_insn.specs.declared.insn.Insn.TheVariants as insns
use Rattle.cfi_unit.specs.declared.unit.Unit.{Unit as CodeUnit}
use Rattle.cfi_unit.specs.Unit.{size_of}
use Rattle.cfi_unit.proofs.UnitLemmas.{size_pos}
use Rattle.cfi_instr.specs.Words.{Words, insn_at}
use Rattle.cfi_instr.specs.Insns.{is_auipc, is_jalr, is_branch}
use Rattle.cfi_values.specs.Some.{holds}
use Rattle.cfi_instr.specs.Items.{is_inner, is_pair, item_of}
use Rattle.cfi_instr.specs.inner.Flaws.{is_illegal_at}
use Rattle.cfi_instr.specs.Sizes.{is_long, size_by, size_at, words_before}
use Rattle.cfi_instr.specs.Units.{is_wide, insn_units, units_at}
use Rattle.cfi_instr.proofs.SizeLemmas.{place-more}
use Rattle.cfi_unit.specs.declared.spot.Spot.{Spot}
use Rattle.cfi_unit.specs.Spots.{spots_of, BeginsUnit}
use Rattle.cfi_instr_law.proofs.CodeLemmas.{words_in, words-append, words-cons, spots-append, spots-range}

-- a pair is an AUIPC and a JALR
pub pair-parts : (t : Words) (w : ℕ) → is_pair t w ≡ true
    → (holds is_auipc (insn_at t w) ≡ true) × (holds is_jalr (insn_at t (w + 1)) ≡ true)
pair-parts t w h =
    let both = and_parts _ _ h in
    let front = and_parts _ _ both.0 in
    (front.1, both.1)

-- the second word of a pair is a JALR after the pair's first word
pub inner-parts : (t : Words) (w : ℕ) → is_inner t w ≡ true
    → (0 < w) × (is_pair t (w - 1) ≡ true) × (holds is_jalr (insn_at t w) ≡ true)
inner-parts t w h =
    let both = and_parts (not (eqb w 0)) (is_pair t (w - 1)) h in
    let some : w ≢ 0 = eqb-false w 0 (not-true (eqb w 0) both.0) in
    let back : w - 1 + 1 ≡ w = omega (arith, some) in (
      omega (arith, some),
      both.1,
      ap (λ (k : ℕ). holds is_jalr (insn_at t k)) (sym back) ∙ (pair-parts t (w - 1) both.1).1,
    )

-- an instruction that is no JALR is not inside a pair, and one that is no AUIPC begins none
pub apart : (test other : Insn → Bool) (insn : Option Insn)
    → ((i : Insn) → test i ≡ true → other i ≡ false) → holds test insn ≡ true → holds other insn ≡ false
apart test other None differ h = refl
apart test other (Some i) differ h = differ i h

outer-from : (t : Words) (w : ℕ) → holds is_jalr (insn_at t w) ≡ false → is_inner t w ≡ false
outer-from t w h = elim (cases_Bool (is_inner t w)) [
  | inl inner ↦ absurd (both_ways (holds is_jalr (insn_at t w)) h (inner-parts t w inner).2)
  | inr outer ↦ outer
]

pub single-from : (t : Words) (w : ℕ) → holds is_auipc (insn_at t w) ≡ false → is_pair t w ≡ false
single-from t w h = elim (cases_Bool (is_pair t w)) [
  | inl pair ↦ absurd (both_ways (holds is_auipc (insn_at t w)) h (pair-parts t w pair).0)
  | inr single ↦ single
]

branch-no-jalr : (i : Insn) → is_branch i ≡ true → is_jalr i ≡ false
branch-no-jalr (insns.Branch cond rs1 rs2 off) h = refl
branch-no-jalr i h = absurd (false≢true h)

branch-no-auipc : (i : Insn) → is_branch i ≡ true → is_auipc i ≡ false
branch-no-auipc (insns.Branch cond rs1 rs2 off) h = refl
branch-no-auipc i h = absurd (false≢true h)

auipc-no-jalr : (i : Insn) → is_auipc i ≡ true → is_jalr i ≡ false
auipc-no-jalr (insns.Auipc rd imm) h = refl
auipc-no-jalr i h = absurd (false≢true h)

-- a branch is an item by itself
pub branch-alone : (t : Words) (w : ℕ) → holds is_branch (insn_at t w) ≡ true
    → (is_inner t w ≡ false) × (is_pair t w ≡ false)
branch-alone t w h = (
  outer-from t w (apart is_branch is_jalr (insn_at t w) branch-no-jalr h),
  single-from t w (apart is_branch is_auipc (insn_at t w) branch-no-auipc h),
)

-- a pair is an item
pub pair-outer : (t : Words) (w : ℕ) → is_pair t w ≡ true → is_inner t w ≡ false
pair-outer t w h =
    outer-from t w (apart is_auipc is_jalr (insn_at t w) auipc-no-jalr (pair-parts t w h).0)

-- the first word of an item is not inside a pair
pub item-outer : (t : Words) (w : ℕ) → is_inner t (item_of t w) ≡ false
item-outer t w = elim (cases_Bool (is_inner t w)) [
  | inl inner ↦ rw inner (pair-outer t (w - 1) (inner-parts t w inner).1)
  | inr outer ↦ rw outer outer
]

module _ (t : Words) (symbols : List Symbol) (long : List Bool) (offsets : List ℕ) where
  -- the units of the item at a word
  abbrev pub item : (w : ℕ) → List CodeUnit
  item w = units_at t symbols long offsets w

  -- where they stand
  abbrev pub item_spots : (w : ℕ) → List Spot
  item_spots w = spots_of (words_before t long w) (item w)

  -- where all units before a word stand
  abbrev pub spots_to : (n : ℕ) → List Spot
  spots_to n = spots_of 0 (joined item n)

  long-size : (w : ℕ) (insn : Insn) → is_long long w ≡ true
      → words_in (insn_units t symbols long offsets w (Some insn)) ≡ size_by (is_long long w) (Some insn)
  long-size w (insns.Branch cond rs1 rs2 off) e = rw e refl
  long-size w insn e = rw e refl

  short-size : (w : ℕ) (insn : Insn) → is_long long w ≡ false
      → words_in (insn_units t symbols long offsets w (Some insn)) ≡ size_by (is_long long w) (Some insn)
  short-size w (insns.Branch cond rs1 rs2 off) e = rw e refl
  short-size w insn e = rw e refl

  insn-size : (w : ℕ) (insn : Option Insn)
      → words_in (insn_units t symbols long offsets w insn) ≡ size_by (is_long long w) insn
  insn-size w None = refl
  insn-size w (Some insn) = elim (cases_Bool (is_long long w)) [
    | inl e ↦ long-size w insn e
    | inr e ↦ short-size w insn e
  ]

  pair-size : (b : Bool) (insn : Option Insn) → holds is_auipc insn ≡ true → size_by b insn ≡ 1
  pair-size b None h = absurd (false≢true h)
  pair-size b (Some (insns.Auipc rd imm)) h = refl
  pair-size b (Some insn) h = absurd (false≢true h)

  size-item : (w : ℕ) → words_in (item w) ≡ size_at t long w
  unfolding units_at size_at
  size-item w = elim (cases_Bool (is_inner t w)) [
    | inl inner ↦ rw inner refl
    | inr outer ↦ elim (cases_Bool (is_pair t w)) [
      | inl pair ↦ rw (outer, pair) (sym (pair-size (is_long long w) (insn_at t w) (pair-parts t w pair).0))
      | inr single ↦ rw (outer, single) (insn-size w (insn_at t w))
    ]
  ]

  -- ---- places

  pub place-item : (n : ℕ) → words_in (joined item n) ≡ words_before t long n
  place-item zero = refl
  place-item (suc n) = omega (arith, words-append (joined item n) (item n), place-item n, size-item n)

  pub spots-more : (n : ℕ) → spots_to (suc n) ≡ spots_to n ++ item_spots n
  spots-more n =
      let place : 0 + words_in (joined item n) ≡ words_before t long n = omega (arith, place-item n) in
      spots-append 0 (joined item n) (item n) ∙ ap (λ (k : ℕ). spots_to n ++ spots_of k (item n)) place

  -- a unit of an item is one of all
  pub in-item : (n w : ℕ) (s : Spot) → w < n → Contains (item_spots w) s → Contains (spots_to n) s
  in-item zero w s less has = absurd (omega (arith, less))
  in-item (suc n) w s less has =
      subst (λ (ss : List Spot). Contains ss s) (sym (spots-more n))
      (⊎_elim
      (λ (below : w < n). Contains-append_left (spots_to n) (item_spots n) s (in-item n w s below has))
      (λ (above : n ≤ w).
      let same : w ≡ n = omega (arith, above, less) in
      Contains-append_right (spots_to n) (item_spots n) s (subst (λ (k : ℕ). Contains (item_spots k) s) same has))
      (cases_lt w n))

  -- and each unit is one of an item
  pub of-item : (n : ℕ) (s : Spot) → Contains (spots_to n) s → (w : ℕ) × (w < n) × Contains (item_spots w) s
  of-item zero s has = absurd (omega (arith, has.1))
  of-item (suc n) s has =
      ⊎_elim
      (λ (below : Contains (spots_to n) s).
      let there = of-item n s below in (there.0, omega (arith, there.1), there.2))
      (λ (here : Contains (item_spots n) s). (n, omega arith, here))
      (Contains-append_cases (spots_to n) (item_spots n) s
      (subst (λ (ss : List Spot). Contains ss s) (spots-more n) has))

  -- a unit stands within its item
  pub item-range : (w : ℕ) (s : Spot) → Contains (item_spots w) s
      → (words_before t long w ≤ s.at) × (s.at < words_before t long (w + 1))
  item-range w s has =
      let range = spots-range (words_before t long w) (item w) in
      let here = All-contains (λ (o : Spot). (words_before t long w ≤ o.at) × (o.at < words_before t long w + words_in (item w)))
      (item_spots w) s range has in
      (here.0, omega (arith, here.1, size-item w, place-more t long w))

  -- ---- the first unit of an item

  insn-head : (w : ℕ) (insn : Option Insn) → is_none insn ≡ false
      → (u : CodeUnit) × (rest : List CodeUnit) × (insn_units t symbols long offsets w insn ≡ u ∷ rest)
  insn-head w None h = absurd (false≢true (sym h))
  insn-head w (Some insn) h = elim (cases_Bool (is_wide long w insn)) [
    | inl wide ↦ rw wide (_, _, refl)
    | inr narrow ↦ rw narrow (_, _, refl)
  ]

  item-head : (w : ℕ) → is_inner t w ≡ false → is_illegal_at t w ≡ false
      → (u : CodeUnit) × (rest : List CodeUnit) × (item w ≡ u ∷ rest)
  unfolding units_at
  item-head w outer legal = elim (cases_Bool (is_pair t w)) [
    | inl pair ↦ rw (outer, pair) (_, _, refl)
    | inr single ↦ rw (outer, single) (insn-head w (insn_at t w) legal)
  ]

  -- a unit begins at an item
  pub item-begins : (w : ℕ) → is_inner t w ≡ false → is_illegal_at t w ≡ false
      → BeginsUnit (item_spots w) (words_before t long w)
  item-begins w outer legal =
      let head = item-head w outer legal in
      let s : Spot = record { at = words_before t long w; unit = head.0 } in
      let here : Contains (item_spots w) s =
      subst (λ (us : List CodeUnit). Contains (spots_of (words_before t long w) us) s) (sym head.2) (0, omega arith, refl) in
      (s, here, refl)

  wide-two : (w : ℕ) (insn : Option Insn) → holds is_branch insn ≡ true → is_long long w ≡ true
      → (u v : CodeUnit) × (insn_units t symbols long offsets w insn ≡ u ∷ v ∷ []) × (size_of u ≡ 1)
  wide-two w None h is = absurd (false≢true h)
  wide-two w (Some (insns.Branch cond rs1 rs2 off)) h is = rw is (_, _, refl, refl)
  wide-two w (Some insn) h is = absurd (false≢true h)

  -- a second unit begins where a branch is long
  pub second-begins : (w : ℕ) → is_inner t w ≡ false → is_pair t w ≡ false → holds is_branch (insn_at t w) ≡ true
      → is_long long w ≡ true → BeginsUnit (item_spots w) (words_before t long w + 1)
  unfolding units_at
  second-begins w outer single branch is =
      let two = wide-two w (insn_at t w) branch is in
      let units : item w ≡ two.0 ∷ two.1 ∷ [] = rw (outer, single) two.2 in
      let at : ℕ = words_before t long w + 1 in
      let s : Spot = record { at = at; unit = two.1 } in
      let next : at ≡ words_before t long w + size_of two.0 = omega (arith, two.3) in
      let there : get_or (spots_of (words_before t long w) (two.0 ∷ two.1 ∷ [])) 1 s ≡ s =
      ap (λ (k : ℕ). record { at = k; unit = two.1 }) (sym next) in
      let here : Contains (item_spots w) s =
      subst (λ (us : List CodeUnit). Contains (spots_of (words_before t long w) us) s) (sym units) (1, omega arith, there)
      in
      (s, here, refl)

  -- an item has words
  pub item-some : (w : ℕ) → is_inner t w ≡ false → is_illegal_at t w ≡ false
      → words_before t long w < words_before t long (w + 1)
  item-some w outer legal =
      let head = item-head w outer legal in
      omega (
        arith,
        size-item w,
        place-more t long w,
        ap (λ (us : List CodeUnit). words_in us) head.2,
        words-cons head.0 head.1,
        size_pos head.0,
      )

  -- what begins in an item begins in all
  pub begins-in-all : (n w at : ℕ) → w < n → BeginsUnit (item_spots w) at → BeginsUnit (spots_to n) at
  begins-in-all n w at less b = (b.0, in-item n w b.0 less b.1, b.2)

  -- and within the item's words
  pub begins-within : (w at : ℕ) → BeginsUnit (item_spots w) at
      → (words_before t long w ≤ at) × (at < words_before t long (w + 1))
  begins-within w at b =
      let range = item-range w b.0 b.1 in (omega (arith, range.0, b.2), omega (arith, range.1, b.2))
