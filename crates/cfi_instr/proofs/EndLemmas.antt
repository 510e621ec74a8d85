-- The table of ends, and what it tells.
use Rattle.std.proofs.Common.{◌≡◌, ◌⊎◌, ℕ, ◌+◌, ◌-◌, ◌*◌, ◌/◌, ◌<◌, ◌≤◌, ◌∙◌, ◌&&◌, not, Bool, true, List, length, get_or, replicate, refl, ap, sym, subst, inl, inr, ⊎_elim, arith}
use Rattle.std.specs.List.{Contains}
use Rattle.std.proofs.lemmas.Bool.{cases_lt, ltb-true, lt-ltb}
use Rattle.std.proofs.lemmas.Bool.Decides.{same_from_decides}
use Rattle.std.proofs.lemmas.List.{get_or_default, get_or_past, length-replicate, get_or-replicate}
use Rattle.cfi_aux.specs.declared.records.Function.{Function}
use Rattle.cfi_aux.specs.Extent.{byte_end, IsCovered}
use Rattle.elf_read.specs.declared.object.Reloc.{Reloc}
use Rattle.cfi_instr.specs.Words.{Words, count_of}
use Rattle.cfi_instr.specs.Items.{item_of}
use Rattle.cfi_instr.specs.inner.Functions.{is_covered}
use Rattle.cfi_instr.specs.inner.Misplaced.{fits_on, sits_by}
use Rattle.cfi_instr.specs.inner.Ends.{first_word, Raises, AreCarried, is_before_end, AreEnds}
use Rattle.cfi_instr.proofs.FunctionTests.{covered-holds, covered-clear}
use Rattle.cfi_instr.proofs.RelocTests.{item-below, fits-within}

-- the end at each word is that of some function that begins by then, or none; and none of the first n functions ends
-- after the end at its first word
pub record AreRaised (functions : List Function) (count n : ℕ) (ends : List ℕ) : Type 0 where
  pub size : length ends ≡ count
  pub known : (w : ℕ) → (get_or ends w 0 ≡ 0)
      ⊎ ((f : Function) × Contains functions f × (f.offset ≤ 4 * w) × (get_or ends w 0 ≡ byte_end f))
  pub reaches : (k : ℕ) (d : Function) → k < n → first_word (get_or functions k d) < count
      → byte_end (get_or functions k d) ≤ get_or ends (first_word (get_or functions k d)) 0

-- one function more
pub raised-next : (functions : List Function) (count n : ℕ) (ends next : List ℕ) (f : Function)
    → AreRaised functions count n ends → n < length functions → f ≡ get_or functions n f → length next ≡ length ends
    → Raises ends (first_word f) (byte_end f) next → AreRaised functions count (n + 1) next
raised-next functions count n ends next f was inside here size raises = record {
  size = size ∙ was.size;
  known = λ w.
      ⊎_elim
      (λ (same : get_or next w 0 ≡ get_or ends w 0).
      ⊎_elim (λ (none : get_or ends w 0 ≡ 0). inl (same ∙ none))
      (λ (some : (g : Function) × Contains functions g × (g.offset ≤ 4 * w) × (get_or ends w 0 ≡ byte_end g)).
      inr (some.0, some.1, some.2, same ∙ some.3))
      (was.known w))
      (λ (new : (w ≡ first_word f) × (get_or next w 0 ≡ byte_end f)).
      inr (f, (n, inside, sym here), omega (arith, new.0), new.1))
      (raises.known w);
  reaches = λ k d less within.
      ⊎_elim
      (λ (low : k < n).
      omega (
        arith,
        was.reaches k d low within,
        raises.keeps (first_word (get_or functions k d)),
      ))
      (λ (high : n ≤ k).
      let same : k ≡ n = omega (arith, less, high) in
      let is : get_or functions k d ≡ f =
      ap (λ (j : ℕ). get_or functions j d) same ∙ get_or_default functions n d f inside ∙ sym here in
      subst (λ (g : Function). byte_end g ≤ get_or next (first_word g) 0) (sym is)
      (raises.reaches (omega (arith, within, was.size, ap first_word is))))
      (cases_lt k n);
}

-- the table, carried on
pub ends-are : (functions : List Function) (count : ℕ) (ends final : List ℕ)
    → AreRaised functions count (length functions) ends → AreCarried ends final (length ends)
    → AreEnds functions count final
ends-are functions count ends final raised carried w inside =
    let within : w < length ends = omega (arith, inside, raised.size) in
    same_from_decides {P = IsCovered functions (4 * w)} (is_before_end final w) (is_covered functions (4 * w)) (
      λ before.
          let less : 4 * w < get_or final w 0 = ltb-true (4 * w) (get_or final w 0) before in
          let from = carried.known w within in
          ⊎_elim
          (λ (none : get_or ends from.0 0 ≡ 0). absurd (omega (arith, less, from.2, none)))
          (λ (some : (f : Function) × Contains functions f × (f.offset ≤ 4 * from.0)
          × (get_or ends from.0 0 ≡ byte_end f)).
          (some.0, some.1, (omega (arith, some.2, from.1), omega (arith, less, from.2, some.3))))
          (raised.known from.0),
      λ home.
          let f = home.0 in
          let k : ℕ = home.1.0 in
          let is : get_or functions k f ≡ f = home.1.2 in
          let first : first_word f ≤ w = omega (arith, home.2.0) in
          let reach : byte_end f ≤ get_or ends (first_word f) 0 =
          subst (λ (g : Function). byte_end g ≤ get_or ends (first_word g) 0) is
          (raised.reaches k f home.1.1 (omega (arith, first, inside, ap first_word is))) in
          lt-ltb (4 * w) (get_or final w 0)
          (omega (arith, reach, carried.reaches (first_word f) w first within, home.2.1)),
    )
    (covered-holds functions (4 * w), covered-clear functions (4 * w))

zeroes-at : (count k : ℕ) → ◌≡◌ {A = ℕ} (get_or (replicate count 0) k 0) 0
zeroes-at count k =
    let zero : ℕ = 0 in
    let size : length (replicate count zero) ≡ count = length-replicate count zero in
    ⊎_elim (λ (below : k < count). get_or-replicate count k zero zero below)
    (λ (above : count ≤ k). get_or_past (replicate count zero) k zero (omega (arith, above, size)))
    (cases_lt k count)

-- no function yet
pub none-raised : (functions : List Function) (count : ℕ) (ends : List ℕ) → ends ≡ replicate count 0
    → AreRaised functions count 0 ends
none-raised functions count ends is = let zero : ℕ = 0 in record {
  size = ap (λ (xs : List ℕ). length xs) is ∙ length-replicate count zero;
  known = λ w. inl (ap (λ (xs : List ℕ). get_or xs w 0) is ∙ zeroes-at count w);
  reaches = λ k d less. absurd (omega (arith, less));
}

-- ---- ends carried on

pub first-carried : (ends : List ℕ) → AreCarried ends ends 1
first-carried ends = record {
  reaches = λ v w le less.
      let same : v ≡ w = omega (arith, le, less) in
      subst (λ (k : ℕ). get_or ends v 0 ≤ get_or ends k 0) same (omega arith);
  known = λ w less. (w, omega arith, refl);
}

-- one word more
pub carried-next : (old cur new : List ℕ) (w before : ℕ) → AreCarried old cur w → 1 ≤ w → w < length cur
    → ((k : ℕ) → w ≤ k → get_or cur k 0 ≡ get_or old k 0)
    → before ≡ get_or cur (w - 1) 0 → Raises cur w before new → AreCarried old new (w + 1)
carried-next old cur new w before was some inside ahead before_is raises = record {
  reaches = λ v k le less.
      ⊎_elim
      (λ (low : k < w). omega (arith, was.reaches v k le low, raises.keeps k))
      (λ (high : w ≤ k).
      let same : w ≡ k = omega (arith, high, less) in
      subst (λ (j : ℕ). get_or old v 0 ≤ get_or new j 0) same
      (⊎_elim
      (λ (low : v < w).
      omega (
        arith,
        was.reaches v (w - 1) (omega (arith, low)) (omega (arith, some)),
        raises.reaches inside,
        before_is,
      ))
      (λ (late : w ≤ v).
      let here : w ≡ v = omega (arith, late, le, same) in
      let is : get_or old w 0 ≤ get_or new w 0 = omega (arith, raises.keeps w, ahead w (omega arith)) in
      subst (λ (j : ℕ). get_or old j 0 ≤ get_or new w 0) here is)
      (cases_lt v w)))
      (cases_lt k w);
  known = λ k less.
      ⊎_elim
      (λ (stays : get_or new k 0 ≡ get_or cur k 0).
      ⊎_elim
      (λ (low : k < w). let from = was.known k low in (from.0, from.1, stays ∙ from.2))
      (λ (high : w ≤ k). (k, omega arith, stays ∙ ahead k high))
      (cases_lt k w))
      (λ (raised : (k ≡ w) × (get_or new k 0 ≡ before)).
      let from = was.known (w - 1) (omega (arith, some)) in
      (from.0, omega (arith, from.1, raised.0), raised.1 ∙ before_is ∙ from.2))
      (raises.known k);
}

pub carried-fewer : (old new : List ℕ) (n m : ℕ) → m ≤ n → AreCarried old new n → AreCarried old new m
carried-fewer old new n m le carried = record {
  reaches = λ v w below less. carried.reaches v w below (omega (arith, le, less));
  known = λ w less. carried.known w (omega (arith, le, less));
}

-- ---- a relocation that fits what it sits on

pub sits-same : (t : Words) (functions : List Function) (ends : List ℕ) (earlier : Bool) (reloc : Reloc)
    → AreEnds functions (count_of t) ends → fits_on t reloc.kind (reloc.offset / 4) ≡ true
    → (is_before_end ends (item_of t (reloc.offset / 4)) && not earlier) ≡ sits_by t functions earlier reloc
sits-same t functions ends earlier reloc table fits =
    let within = fits-within t reloc.kind (reloc.offset / 4) fits in
    let inside : item_of t (reloc.offset / 4) < count_of t =
    omega (arith, within, item-below t (reloc.offset / 4)) in
    rw (fits, table (item_of t (reloc.offset / 4)) inside) refl

-- the words after it stay
pub raised-ahead : (old cur new : List ℕ) (w to : ℕ) → ((k : ℕ) → w ≤ k → get_or cur k 0 ≡ get_or old k 0)
    → Raises cur w to new → (k : ℕ) → w + 1 ≤ k → get_or new k 0 ≡ get_or old k 0
raised-ahead old cur new w to ahead raises k above =
    ⊎_elim (λ (stays : get_or new k 0 ≡ get_or cur k 0). stays ∙ ahead k (omega (arith, above)))
    (λ (here : (k ≡ w) × (get_or new k 0 ≡ to)). absurd (omega (arith, here.0, above)))
    (raises.known k)
