-- Branches that others push out of their reach.
use Rattle.std.proofs.Common.{◌≡◌, ℕ, ◌+◌, ◌-◌, ◌*◌, ◌<◌, ◌≤◌, Bool, true, false, cond, leb, List, length, All, get_or, get_or-set_same, get_or-set_other, Result, Ok, Err, OnOk, sym, ap, subst, ◌∙◌, inl, inr, ⊎_elim, arith}
use Rattle.std.proofs.lemmas.Bool.{cases_Bool, cases_lt, cases_eq, false≢true, false_from_ne_true, leb-true, leb-false, ltb-true}
use Rattle.std.proofs.Math.ListN.{set, length-set}
use Rattle.elf_read.specs.declared.object.Symbol.{Symbol}
use Rattle.cfi_instr.specs.Words.{Words, count_of}
use Rattle.cfi_instr.specs.declared.hops.Hop.{Hop}
use Rattle.cfi_instr.specs.Sizes.{is_long, size_at, words_before, offsets_of}
use Rattle.cfi_instr.specs.Reach.{is_near, word_reaches, IsEnough, IsWithin}
use Rattle.cfi_instr.specs.inner.Hops.{is_over, after_growth, StaysOrLoses, IsHop, HasLeft, IsMeasured, AreReady}
use Rattle.cfi_instr.proofs.SizeLemmas.{place-part, place-more, offset-read}
use Rattle.cfi_instr.proofs.ReachLemmas.{near-is, word-shrinks}

-- ---- one branch more is long

pub set-within : (long : List Bool) (at : ℕ) → at < length long → IsWithin long (set long at true)
set-within long at inside w is = elim (cases_eq w at) [
  | inl same ↦ ap (is_long (set long at true)) same ∙ get_or-set_same long at true false inside
  | inr other ↦ get_or-set_other long at w true false other ∙ is
]

pub within-more : (t : Words) (symbols : List Symbol) (long : List Bool) (at : ℕ) → at < count_of t
    → ((other : List Bool) → IsEnough t symbols other → IsWithin long other)
    → word_reaches t symbols (offsets_of t long) at ≡ false
    → (other : List Bool) → IsEnough t symbols other → IsWithin (set long at true) other
within-more t symbols long at inside within far other enough w is = elim (cases_eq w at) [
  | inr else ↦ within other enough w (sym (get_or-set_other long at w true false else) ∙ is)
  | inl same ↦ elim (cases_Bool (is_long other at)) [
    | inl held ↦ ap (is_long other) same ∙ held
    | inr short ↦
        let near = word-shrinks t symbols long other (within other enough) at inside (enough at inside short) in
        absurd (false≢true (sym far ∙ near))
  ]
]

-- ---- a branch while another gets long

-- a unit that gets a word more takes all that it is between apart by one
words-apart : (t : Words) (old new : List Bool) → IsWithin old new → (x u v : ℕ)
    → size_at t old x + 1 ≤ size_at t new x → u ≤ x → x < v
    → words_before t old v + words_before t new u + 1 ≤ words_before t new v + words_before t old u
words-apart t old new within x u v more low high =
    let first = place-part t old new within u x low in
    let last = place-part t old new within (x + 1) v (omega (arith, high)) in
    omega (arith, first, last, more, place-more t old x, place-more t new x)

module _ (t : Words) (symbols : List Symbol) (old new : List Bool) (within : IsWithin old new) (hop : Hop)
    (is : IsHop t symbols hop) (has : HasLeft (offsets_of t old) hop) where
  at_old : get_or (offsets_of t old) hop.at 0 ≡ 4 * words_before t old hop.at
  at_old = offset-read t old hop.at (omega (arith, is.inside))

  at_new : get_or (offsets_of t new) hop.at 0 ≡ 4 * words_before t new hop.at
  at_new = offset-read t new hop.at (omega (arith, is.inside))

  to_old : get_or (offsets_of t old) hop.to 0 ≡ 4 * words_before t old hop.to
  to_old = offset-read t old hop.to is.target

  to_new : get_or (offsets_of t new) hop.to 0 ≡ 4 * words_before t new hop.to
  to_new = offset-read t new hop.to is.target

  -- it keeps what is left, or more is left than needed
  pub left-kept : HasLeft (offsets_of t new) hop
  left-kept = record {
    on = λ order.
        omega (arith, has.on order, place-part t old new within hop.at hop.to order, at_old, at_new, to_old, to_new);
    back = λ order.
        omega (
          arith,
          has.back order,
          place-part t old new within hop.to hop.at (omega (arith, order)),
          at_old,
          at_new,
          to_old,
          to_new,
        );
  }

  module _ (x : ℕ) (more : size_at t old x + 1 ≤ size_at t new x) where
    left-less : is_over hop x ≡ true → HasLeft (offsets_of t new) (record hop { left = hop.left - 1 })
    left-less over = elim (cases_Bool (leb hop.at x)) [
      | inl low ↦
          let below : hop.at ≤ x = leb-true hop.at x low in
          let above : x < hop.to = ltb-true x hop.to (rw low at over) in
          let apart = words-apart t old new within x hop.at hop.to more below above in
          record {
            on = λ order. omega (arith, has.on order, apart, at_old, at_new, to_old, to_new);
            back = λ order. absurd (omega (arith, order, below, above));
          }
      | inr high ↦
          let above : x < hop.at = leb-false hop.at x high in
          let below : hop.to ≤ x = leb-true hop.to x (rw high at over) in
          let apart = words-apart t old new within x hop.to hop.at more below above in
          record {
            on = λ order. absurd (omega (arith, order, below, above));
            back = λ order. omega (arith, has.back order, apart, at_old, at_new, to_old, to_new);
          }
    ]

    pub after-stands : IsMeasured t symbols (offsets_of t new) (after_growth hop x)
    after-stands = elim (cases_Bool (is_over hop x)) [
      | inl over ↦
          rw over
          (record {
            hop_is = record { inside = is.inside; target = is.target; leads = is.leads; grows = is.grows };
            left = left-less over;
          })
      | inr not_over ↦ rw not_over (record { hop_is = is; left = left-kept })
    ]

    pub stands-next : (next : Hop) → StaysOrLoses x hop next → IsMeasured t symbols (offsets_of t new) next
    stands-next next how =
        ⊎_elim
        (λ (stays : next ≡ hop). subst (λ (h : Hop). IsMeasured t symbols (offsets_of t new) h) (sym stays)
        (record { hop_is = is; left = left-kept }))
        (λ (loses : next ≡ after_growth hop x). subst (λ (h : Hop). IsMeasured t symbols (offsets_of t new) h) (sym loses)
        after-stands)
        how

-- where nothing is left, the branch does not reach its target
pub out-far : (t : Words) (symbols : List Symbol) (offsets : List ℕ) (hop : Hop) → IsMeasured t symbols offsets hop
    → hop.left ≡ 0 → word_reaches t symbols offsets hop.at ≡ false
out-far t symbols offsets hop stands none =
    stands.hop_is.leads offsets
    ∙ false_from_ne_true (is_near (get_or offsets hop.at 0) (get_or offsets hop.to 0)) (λ near.
    let far = near-is (get_or offsets hop.at 0) (get_or offsets hop.to 0) near in
    ⊎_elim (λ (after : hop.at < hop.to). omega (arith, far.0, none, stands.left.on (omega (arith, after))))
    (λ (before : hop.to ≤ hop.at).
    ⊎_elim (λ (less : hop.to < hop.at). omega (arith, far.1, none, stands.left.back less))
    (λ (same : hop.at ≤ hop.to). omega (arith, far.0, none, stands.left.on same))
    (cases_lt hop.to hop.at))
    (cases_lt hop.at hop.to))

-- ---- all branches

-- a branch that is out of its reach gets long, and those that go over it lose a word
pub ready-next : (t : Words) (symbols : List Symbol) (hops next : List Hop) (long new : List Bool) (number : ℕ)
    (hop : Hop) → AreReady t symbols hops long → number < length hops → hop ≡ get_or hops number hop → hop.left ≡ 0
    → is_long long hop.at ≡ false → new ≡ set long hop.at true → length next ≡ length hops
    → ((k : ℕ) (d : Hop) → k < length hops → StaysOrLoses hop.at (get_or hops k d) (get_or next k d))
    → AreReady t symbols next new
ready-next t symbols hops next long new number hop ready inside here none short new_is same each =
    let stands : IsMeasured t symbols (offsets_of t long) hop =
    subst (λ (h : Hop). IsMeasured t symbols (offsets_of t long) h) (sym here) (ready.each number hop inside) in
    let at_inside : hop.at < length long = omega (arith, ready.size, stands.hop_is.inside) in
    let grown : IsWithin long new =
    subst (λ (xs : List Bool). IsWithin long xs) (sym new_is) (set-within long hop.at at_inside) in
    let now_long : is_long new hop.at ≡ true =
    ap (λ (xs : List Bool). is_long xs hop.at) new_is ∙ get_or-set_same long hop.at true false at_inside in
    let before : size_at t long hop.at ≡ 1 =
    stands.hop_is.grows long ∙ ap (λ (b : Bool). cond b 2 1) short in
    let after : size_at t new hop.at ≡ 2 = stands.hop_is.grows new ∙ ap (λ (b : Bool). cond b 2 1) now_long in
    let more : size_at t long hop.at + 1 ≤ size_at t new hop.at = omega (arith, before, after) in
    record {
      size = ap (λ (xs : List Bool). length xs) new_is ∙ length-set long hop.at true ∙ ready.size;
      each = λ k d less.
          let old = ready.each k d (omega (arith, less, same)) in
          stands-next t symbols long new grown (get_or hops k d) old.hop_is old.left hop.at more (get_or next k d)
          (each k d (omega (arith, less, same)));
      within =
          subst (λ (xs : List Bool). (other : List Bool) → IsEnough t symbols other → IsWithin xs other) (sym new_is)
          (within-more t symbols long hop.at stands.hop_is.inside ready.within
          (out-far t symbols (offsets_of t long) hop stands none));
    }

-- what follows from two facts of a result does so of it
pub both-ok : {T E : Type 0} {P Q R : Type 0} (result : Result T E) → OnOk result P → OnOk result Q → (P → Q → R)
    → OnOk result R
both-ok (Ok x) p q f = f p q
both-ok (Err e) p q f = tt

-- the branches as they are read
pub ready-first : (t : Words) (symbols : List Symbol) (hops : List Hop) (long : List Bool) (offsets : List ℕ)
    → length long ≡ count_of t → offsets ≡ offsets_of t long → All (IsMeasured t symbols offsets) hops
    → ((other : List Bool) → IsEnough t symbols other → IsWithin long other) → AreReady t symbols hops long
ready-first t symbols hops long offsets size placed each within = record {
  size = size;
  each = subst (λ (xs : List ℕ). All (IsMeasured t symbols xs) hops) placed each;
  within = within;
}
