-- What the tests of functions decide.
use Rattle.std.proofs.Common.{◌≡◌, ◌≢◌, ℕ, ◌+◌, ◌-◌, ◌*◌, ◌/◌, ◌%◌, ◌<◌, ◌≤◌, ◌∙◌, ◌&&◌, not, Bool, true, false, eqb, ltb, leb, pos, List, length, get_or, Option, Some, None, refl, ap, sym, subst, inl, inr, ⊎_elim, arith}
use Rattle.std.specs.List.{list_any, range_with_len}
use Rattle.std.proofs.lemmas.Bool.{cases_Bool, both_ways, false≢true, and_parts, and_from, and_cases, and_left, or_cases, or_left, or_right, not-true, not-false, not_from_true, not_from_false, false_from_ne_true, eqb-true, eqb-false, eq-eqb, ne_eqb, ltb-true, lt-ltb, leb-true, le-leb}
use Rattle.std.proofs.lemmas.List.Folds.{list_any_at}
use Rattle.std.proofs.lemmas.List.FromFn.{length-range_with_len, get_or-range_with_len}
use Rattle.std.proofs.lemmas.Option.{slice_get_past}
use Rattle.rv_insn.specs.declared.insn.Insn.{Insn}
use Rattle.rv_insn.specs.declared.insn.Insn.TheVariants as insns
use Rattle.rv_insn.specs.declared.insn.ImmOp.TheVariants as ops
use Rattle.cfi_aux.specs.declared.records.Function.{Function}
use Rattle.cfi_aux.specs.Extent.{byte_end, Covers, IsCovered}
use Rattle.cfi_values.specs.Lists.{HasWith}
use Rattle.cfi_instr.specs.Words.{Words, insn_at, count_of}
use Rattle.cfi_instr.specs.Insns.{is_unlinked}
use Rattle.cfi_values.specs.Some.{holds}
use Rattle.cfi_instr.specs.Items.{is_item, BeginsItem, IsItemBound}
use Rattle.cfi_instr.specs.Functions.{IsOwnItem, byte_end_before, IsPadding, IsWellFormed, IsFormedBehind, EndsInPadding, EndsInJump}
use Rattle.cfi_instr.specs.inner.Insns.{is_nop}
use Rattle.cfi_instr.specs.inner.Items.{is_item_at, is_bound_at}
use Rattle.cfi_instr.specs.inner.Functions.{covers, is_covered, are_together, is_entry, is_own_item, is_code, has_code, is_well_formed, is_formed_at, is_malformed, runs_off_at, falls_through}
use Rattle.cfi_instr.proofs.DecideLemmas.{Decides, some-from, from-some}
use Rattle.cfi_instr.proofs.WordTests.{holds-nop}

-- ---- items at offsets

module _ (t : Words) (offset : ℕ) where
  pub item-holds : is_item_at t offset ≡ true → BeginsItem t offset
  item-holds h =
      let both = and_parts (eqb (offset % 4) 0) (is_item t (offset / 4)) h in
      let whole = eqb-true (offset % 4) 0 both.0 in
      (offset / 4, omega (arith, whole), both.1)

  pub item-clear : BeginsItem t offset → is_item_at t offset ≡ true
  item-clear b =
      let rest : offset % 4 ≡ 0 = omega (arith, b.1) in
      let word : offset / 4 ≡ b.0 = omega (arith, b.1) in
      and_from _ _ (eq-eqb (offset % 4) 0 rest) (ap (is_item t) word ∙ b.2)

  pub bound-holds : is_bound_at t offset ≡ true → IsItemBound t offset
  bound-holds h =
      ⊎_elim (λ (item : is_item_at t offset ≡ true). inl (item-holds item))
      (λ (end : eqb offset (4 * count_of t) ≡ true). inr (eqb-true offset (4 * count_of t) end))
      (or_cases (is_item_at t offset) (eqb offset (4 * count_of t)) h)

  pub bound-clear : IsItemBound t offset → is_bound_at t offset ≡ true
  bound-clear b =
      ⊎_elim (λ (item : BeginsItem t offset). or_left (is_item_at t offset) _ (item-clear item))
      (λ (end : offset ≡ 4 * count_of t).
      or_right (is_item_at t offset) (eqb offset (4 * count_of t)) (eq-eqb offset (4 * count_of t) end)) b

-- ---- functions that have an offset

pub covers-holds : (offset : ℕ) (f : Function) → covers offset f ≡ true → Covers f offset
covers-holds offset f h =
    let both = and_parts (leb f.offset offset) (ltb offset (byte_end f)) h in
    (leb-true f.offset offset both.0, ltb-true offset (byte_end f) both.1)

covers-clear : (offset : ℕ) (f : Function) → Covers f offset → covers offset f ≡ true
covers-clear offset f c =
    and_from (leb f.offset offset) (ltb offset (byte_end f)) (le-leb f.offset offset c.0)
    (lt-ltb offset (byte_end f) c.1)

module _ (functions : List Function) (offset : ℕ) where
  pub covered-holds : is_covered functions offset ≡ true → IsCovered functions offset
  covered-holds h =
      let some = some-from (covers offset) functions h in
      (some.0, some.1, covers-holds offset some.0 some.2)

  pub covered-clear : IsCovered functions offset → is_covered functions offset ≡ true
  covered-clear c = from-some (covers offset) functions c.0 c.1 (covers-clear offset c.0 c.2)

  pub entry-holds : is_entry functions offset ≡ true → HasWith (λ (f : Function). f.offset) functions offset
  entry-holds h =
      let some = some-from (λ (f : Function). eqb f.offset offset) functions h in
      (some.0, some.1, eqb-true some.0.offset offset some.2)

  pub entry-clear : HasWith (λ (f : Function). f.offset) functions offset → is_entry functions offset ≡ true
  entry-clear b = from-some (λ (f : Function). eqb f.offset offset) functions b.0 b.1 (eq-eqb b.0.offset offset b.2)

module _ (t : Words) (functions : List Function) (at offset : ℕ) where
  abbrev both_in : Function → Bool
  both_in f = covers at f && covers offset f

  pub own-holds : is_own_item t functions at offset ≡ true → IsOwnItem t functions at offset
  own-holds h =
      let both = and_parts (is_item_at t offset) (are_together functions at offset) h in
      let some = some-from both_in functions both.1 in
      let two = and_parts (covers at some.0) (covers offset some.0) some.2 in
      record {
        home = some.0;
        has = some.1;
        from = covers-holds at some.0 two.0;
        lies = covers-holds offset some.0 two.1;
        item = item-holds t offset both.0;
      }

  pub own-clear : IsOwnItem t functions at offset → is_own_item t functions at offset ≡ true
  own-clear o =
      and_from (is_item_at t offset) (are_together functions at offset) (item-clear t offset o.item)
      (from-some both_in functions o.home o.has
      (and_from (covers at o.home) (covers offset o.home) (covers-clear at o.home o.from)
      (covers-clear offset o.home o.lies)))

-- ---- padding

pub range-none : (test : ℕ → Bool) (a n : ℕ) → list_any test (range_with_len a n) ≡ false → (w : ℕ) → a ≤ w → w < a + n
    → test w ≡ false
range-none test a n h w low high =
    false_from_ne_true (test w) (λ here.
    let k : ℕ = w - a in
    let is : a + k ≡ w = omega (arith, low) in
    let inside : k < n = omega (arith, low, high) in
    let at : get_or (range_with_len a n) k 0 ≡ w = get_or-range_with_len a n k 0 inside ∙ is in
    both_ways _ h
    (list_any_at test (range_with_len a n) k 0 (omega (arith, inside, length-range_with_len a n)) (ap test at ∙ here)))

none-range : (test : ℕ → Bool) (a n : ℕ) → ((w : ℕ) → a ≤ w → w < a + n → test w ≡ false)
    → list_any test (range_with_len a n) ≡ false
none-range test a n none =
    false_from_ne_true (list_any test (range_with_len a n)) (λ any.
    let some = some-from test (range_with_len a n) any in
    let k : ℕ = some.1.0 in
    let inside : k < n = omega (arith, some.1.1, length-range_with_len a n) in
    let is : a + k ≡ some.0 = sym (get_or-range_with_len a n k some.0 inside) ∙ some.1.2 in
    both_ways (test some.0) (none some.0 (omega (arith, is)) (omega (arith, is, inside))) some.2)

module _ (t : Words) where
  code-holds : (w : ℕ) → is_code t w ≡ false → is_item t w ≡ true
      → insn_at t w ≡ Some (insns.OpImm ops.Addi 0 0 (pos 0))
  code-holds w none item =
      ⊎_elim (λ (outside : is_item t w ≡ false). absurd (both_ways (is_item t w) outside item))
      (λ (pad : not (holds is_nop (insn_at t w)) ≡ false). holds-nop (insn_at t w) (not-false _ pad))
      (and_cases (is_item t w) (not (holds is_nop (insn_at t w))) none)

  code-clear : (w : ℕ) → (is_item t w ≡ true → insn_at t w ≡ Some (insns.OpImm ops.Addi 0 0 (pos 0)))
      → is_code t w ≡ false
  code-clear w pad = elim (cases_Bool (is_item t w)) [
    | inl item ↦
        let nop : holds is_nop (insn_at t w) ≡ true = ap (holds is_nop) (pad item) in
        ap (λ (b : Bool). is_item t w && not b) nop ∙ ap (λ (b : Bool). b && false) item
    | inr outside ↦ and_left (is_item t w) _ outside
  ]

  padding-holds : (a b : ℕ) → has_code t a b ≡ false → IsPadding t (a / 4) (b / 4)
  padding-holds a b h w low high item =
      code-holds w (range-none (is_code t) (a / 4) (b / 4 - a / 4) h w low (omega (arith, low, high))) item

  padding-clear : (a b : ℕ) → IsPadding t (a / 4) (b / 4) → has_code t a b ≡ false
  padding-clear a b pad =
      none-range (is_code t) (a / 4) (b / 4 - a / 4)
      (λ w low high. code-clear w (λ item. pad w low (omega (arith, low, high)) item))

  -- ---- well formed functions

  formed-holds : (before : ℕ) (f : Function) → is_well_formed t before f ≡ true → IsWellFormed t before f
  formed-holds before f h =
      let six = and_parts _ _ h in
      let five = and_parts _ _ six.0 in
      let four = and_parts _ _ five.0 in
      let three = and_parts _ _ four.0 in
      let two = and_parts _ _ three.0 in
      let some : f.length ≢ 0 = eqb-false f.length 0 (not-true (eqb f.length 0) two.0) in
      record {
        some = omega (arith, some);
        order = leb-true before f.offset two.1;
        within = leb-true (byte_end f) (4 * count_of t) three.1;
        begins = item-holds t f.offset four.1;
        ends = bound-holds t (byte_end f) five.1;
        idle = padding-holds before f.offset (not-true (has_code t before f.offset) six.1);
      }

  formed-clear : (before : ℕ) (f : Function) → IsWellFormed t before f → is_well_formed t before f ≡ true
  formed-clear before f w =
      let some : eqb f.length 0 ≡ false = ne_eqb f.length 0 (λ e. omega (arith, w.some, e)) in
      and_from _ _
      (and_from _ _
      (and_from _ _
      (and_from _ _
      (and_from _ _ (not_from_false _ some) (le-leb before f.offset w.order))
      (le-leb (byte_end f) (4 * count_of t) w.within))
      (item-clear t f.offset w.begins))
      (bound-clear t (byte_end f) w.ends))
      (not_from_false _ (padding-clear before f.offset w.idle))

  module _ (functions : List Function) where
    pub formed : Decides functions (is_malformed t functions) (IsFormedBehind t functions)
    formed = record {
      holds = λ k f is h.
          formed-holds (byte_end_before functions k) f
          (ap (is_formed_at t (byte_end_before functions k)) (sym is) ∙ not-false _ h);
      clear = λ k f is good.
          not_from_true _
          (ap (is_formed_at t (byte_end_before functions k)) is
          ∙ formed-clear (byte_end_before functions k) f good);
    }

    -- after the last function
    end-is : is_malformed t functions (length functions)
        ≡ not (not (has_code t (byte_end_before functions (length functions)) (4 * count_of t)))
    end-is =
        ap (λ (f : Option Function). not (is_formed_at t (byte_end_before functions (length functions)) f))
        (slice_get_past functions (length functions) (omega arith))

    same-end : 4 * count_of t / 4 ≡ count_of t
    same-end = omega arith

    pub end-holds : is_malformed t functions (length functions) ≡ false → EndsInPadding t functions
    end-holds h =
        let none : has_code t (byte_end_before functions (length functions)) (4 * count_of t) ≡ false =
        not-true _ (not-false _ (sym end-is ∙ h)) in
        subst (λ (n : ℕ). IsPadding t (byte_end_before functions (length functions) / 4) n) same-end
        (padding-holds (byte_end_before functions (length functions)) (4 * count_of t) none)

    pub end-clear : EndsInPadding t functions → is_malformed t functions (length functions) ≡ false
    end-clear pad =
        let none =
        padding-clear (byte_end_before functions (length functions)) (4 * count_of t)
        (subst (λ (n : ℕ). IsPadding t (byte_end_before functions (length functions) / 4) n) (sym same-end) pad) in
        end-is ∙ not_from_true _ (not_from_false _ none)

  -- ---- the ends of functions

  jump-holds : (x : Option Insn) → holds is_unlinked x ≡ true
      → (insn : Insn) × (x ≡ Some insn) × (is_unlinked insn ≡ true)
  jump-holds None h = absurd (false≢true h)
  jump-holds (Some insn) h = (insn, refl, h)

  pub ends : (functions : List Function) → Decides functions (falls_through t functions) (EndsInJump t)
  ends functions = record {
    holds = λ k f is h.
        jump-holds (insn_at t (byte_end f / 4 - 1)) (not-false _ (ap (runs_off_at t) (sym is) ∙ h));
    clear = λ k f is good.
        ap (runs_off_at t) is ∙ not_from_true _ (ap (holds is_unlinked) good.1 ∙ good.2);
  }
