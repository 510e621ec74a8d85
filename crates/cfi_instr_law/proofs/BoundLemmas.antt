-- Functions that are well formed: they begin and end at items, one after the other.
use Rattle.std.proofs.Common.{◌≡◌, ◌≢◌, ℕ, zero, suc, ◌+◌, ◌-◌, ◌*◌, ◌/◌, ◌%◌, ◌<◌, ◌≤◌, not, true, false, eqb, ltb, List, [], length, get_or, Some, refl, ap, sym, subst, ◌∙◌, inl, inr, ⊎_elim, arith}
use Rattle.std.specs.List.{slice_get}
use Rattle.std.proofs.lemmas.Bool.{cases_Bool, cases_lt, and_parts, or_cases, not-true, not-false, eqb-true, eqb-false, ne_eqb, ltb-true, leb-true}
use Rattle.std.proofs.lemmas.Option.{slice_get-get_or, slice_get_past}
use Rattle.cfi_aux.specs.declared.records.Function.{Function}
use Rattle.cfi_instr.specs.Words.{Words, count_of}
use Rattle.cfi_instr.specs.Insns.{is_jalr}
use Rattle.cfi_instr.specs.Items.{is_inner, is_item, item_of}
use Rattle.cfi_instr.specs.inner.Items.{is_item_at, is_bound_at}
use Rattle.cfi_aux.specs.Extent.{byte_end}
use Rattle.cfi_instr.specs.Functions.{byte_end_in, byte_end_before}
use Rattle.cfi_instr.specs.inner.Functions.{is_code, has_code, is_well_formed, is_formed_at, is_malformed}
use Rattle.cfi_instr.proofs.FunctionTests.{range-none}
use Rattle.cfi_instr.proofs.WordTests.{holds-within}
use Rattle.cfi_instr.specs.Sizes.{words_before, offsets_of, moved}
use Rattle.cfi_instr.proofs.SizeLemmas.{offset-read}
use Rattle.cfi_instr_law.proofs.ItemLemmas.{inner-parts}

-- ---- bounds

-- an offset is that of a word at which an item begins, or at which the text ends
pub record IsBound (t : Words) (offset : ℕ) : Type 0 where
  pub whole : offset ≡ 4 * (offset / 4)
  pub within : offset / 4 ≤ count_of t
  pub outer : is_inner t (offset / 4) ≡ false

pub item-parts : (t : Words) (w : ℕ) → is_item t w ≡ true → (w < count_of t) × (is_inner t w ≡ false)
item-parts t w h =
    let both = and_parts (ltb w (count_of t)) (not (is_inner t w)) h in
    (ltb-true w (count_of t) both.0, not-true (is_inner t w) both.1)

pub item-bound : (t : Words) (offset : ℕ) → is_item_at t offset ≡ true
    → IsBound t offset × (offset / 4 < count_of t)
item-bound t offset h =
    let both = and_parts _ (is_item t (offset / 4)) h in
    let whole = eqb-true (offset % 4) 0 both.0 in
    let item = item-parts t (offset / 4) both.1 in
    (record { whole = omega (arith, whole); within = omega (arith, item.0); outer = item.1 }, item.0)

end-outer : (t : Words) → is_inner t (count_of t) ≡ false
end-outer t = elim (cases_Bool (is_inner t (count_of t))) [
  | inl inner ↦ absurd (omega (arith, holds-within t (count_of t) is_jalr (inner-parts t (count_of t) inner).2))
  | inr outer ↦ outer
]

pub end-bound : (t : Words) → IsBound t (4 * count_of t)
end-bound t =
    let word : 4 * count_of t / 4 ≡ count_of t = omega arith in record {
      whole = omega (arith, word);
      within = omega (arith, word);
      outer = ap (is_inner t) word ∙ end-outer t;
    }

bound-is : (t : Words) (offset : ℕ) → is_bound_at t offset ≡ true → IsBound t offset
bound-is t offset h =
    ⊎_elim
    (λ (here : is_item_at t offset ≡ true). (item-bound t offset here).0)
    (λ (last : eqb offset (4 * count_of t) ≡ true).
    let same : offset ≡ 4 * count_of t = eqb-true offset (4 * count_of t) last in
    subst (IsBound t) (sym same) (end-bound t))
    (or_cases (is_item_at t offset) (eqb offset (4 * count_of t)) h)

-- where a bound goes
pub bound-moved : (t : Words) (long : _) (offset : ℕ) → IsBound t offset
    → moved t (offsets_of t long) offset ≡ 4 * words_before t long (offset / 4)
bound-moved t long offset b =
    let same : item_of t (offset / 4) ≡ offset / 4 = rw b.outer refl in
    ap (λ (w : ℕ). get_or (offsets_of t long) w 0) same ∙ offset-read t long (offset / 4) (omega (arith, b.within))

-- ---- functions

-- one that stands where none is looked at
abbrev pub no_function : Function
no_function = record { offset = 0; length = 0; ty = 0; taken = false; name = [] }

-- a function after others that end at `before`
pub record IsFormed (t : Words) (before : ℕ) (f : Function) : Type 0 where
  pub some : 0 < f.length
  pub order : before ≤ f.offset
  pub begins : IsBound t f.offset
  pub inside : f.offset / 4 < count_of t
  pub ends : IsBound t (byte_end f)
  pub idle : has_code t before f.offset ≡ false

formed-is : (t : Words) (before : ℕ) (f : Function) → is_well_formed t before f ≡ true → IsFormed t before f
formed-is t before f h =
    let six = and_parts _ _ h in
    let five = and_parts _ _ six.0 in
    let four = and_parts _ _ five.0 in
    let three = and_parts _ _ four.0 in
    let two = and_parts _ _ three.0 in
    let some : f.length ≢ 0 = eqb-false f.length 0 (not-true (eqb f.length 0) two.0) in
    let item = item-bound t f.offset four.1 in
    record {
      some = omega (arith, some);
      order = leb-true before f.offset two.1;
      begins = item.0;
      inside = item.1;
      ends = bound-is t (byte_end f) five.1;
      idle = not-true (has_code t before f.offset) six.1;
    }

module _ (t : Words) (functions : List Function)
    (formed : (k : ℕ) → k < length functions + 1 → is_malformed t functions k ≡ false) where
  pub formed-at : (k : ℕ) (f : Function) → slice_get functions k ≡ Some f → k < length functions
      → IsFormed t (byte_end_before functions k) f
  formed-at k f is inside =
      formed-is t (byte_end_before functions k) f
      (ap (is_formed_at t (byte_end_before functions k)) (sym is)
      ∙ not-false _ (formed k (omega (arith, inside))))

  formed-get : (k : ℕ) (d : Function) → k < length functions
      → IsFormed t (byte_end_before functions k) (get_or functions k d)
  formed-get k d inside = formed-at k (get_or functions k d) (slice_get-get_or functions k d inside) inside

  -- after the last function nothing but padding stands
  pub rest-idle : has_code t (byte_end_before functions (length functions)) (4 * count_of t) ≡ false
  rest-idle =
      let none = slice_get_past functions (length functions) (omega arith) in
      let well = not-false (is_formed_at t (byte_end_before functions (length functions))
      (slice_get functions (length functions))) (formed (length functions) (omega arith)) in
      not-true _ (ap (is_formed_at t (byte_end_before functions (length functions))) (sym none) ∙ well)

  pub before-next : (k : ℕ) (d : Function) → k < length functions
      → byte_end_before functions (suc k) ≡ byte_end (get_or functions k d)
  before-next k d inside =
      let back : suc k - 1 ≡ k = omega arith in
      let some : eqb (suc k) 0 ≡ false = ne_eqb (suc k) 0 (λ e. omega (arith, e)) in
      rw some
      (ap (λ (n : ℕ). byte_end_in (slice_get functions n)) back
      ∙ ap byte_end_in (slice_get-get_or functions k d inside))

  -- where the function before one ends is a bound
  pub before-bound : (k : ℕ) (d : Function) → k ≤ length functions → IsBound t (byte_end_before functions k)
  before-bound zero d within = record { whole = omega arith; within = omega arith; outer = refl }
  before-bound (suc k) d within =
      subst (IsBound t) (sym (before-next k d (omega (arith, within))))
      (formed-get k d (omega (arith, within))).ends

  -- functions end before those after them begin
  pub ends-before : (j k : ℕ) (d : Function) → j < k → k ≤ length functions
      → byte_end (get_or functions j d) ≤ byte_end_before functions k
  ends-before j zero d less within = absurd (omega (arith, less))
  ends-before j (suc k) d less within =
      let inside : k < length functions = omega (arith, within) in
      let next = before-next k d inside in
      ⊎_elim
      (λ (low : j < k).
      omega (arith, next, ends-before j k d low (omega (arith, within)), (formed-get k d inside).order))
      (λ (high : k ≤ j).
      let same : j ≡ k = omega (arith, high, less) in
      omega (arith, next, ap (λ (n : ℕ). byte_end (get_or functions n d)) same))
      (cases_lt j k)

  pub starts-after : (k j : ℕ) (d : Function) → k ≤ j → j < length functions
      → (get_or functions k d).offset ≤ (get_or functions j d).offset
  starts-after k j d order inside =
      ⊎_elim
      (λ (low : k < j).
      omega (arith, ends-before k j d low (omega (arith, inside)), (formed-get j d inside).order))
      (λ (high : j ≤ k).
      let same : j ≡ k = omega (arith, high, order) in
      omega (arith, ap (λ (n : ℕ). (get_or functions n d).offset) same))
      (cases_lt k j)

-- ---- padding

-- no word between two offsets is code
pub no-code : (t : Words) (a b w : ℕ) → has_code t a b ≡ false → a / 4 ≤ w → w < b / 4 → is_code t w ≡ false
no-code t a b w h low high =
    range-none (is_code t) (a / 4) (b / 4 - a / 4) h w low (omega (arith, low, high))
