-- Modules each of which follows the one before are apart.
use Rattle.std.proofs.Common.{◌≡◌, ℕ, zero, suc, ◌+◌, ◌-◌, ◌<◌, List, length, get_or, sym, subst, arith}
use Rattle.std.proofs.lemmas.Option.{slice_get-get_or}
use Rattle.cfi_aux.specs.declared.placed.Placed.{Placed}
use Rattle.cfi_graph.specs.Shaped.{IsBefore, AreApart, Follows, AreShaped}

before_next : (m n : Placed) → Follows m n → IsBefore m n
before_next m n f = record { words = omega (arith, f.words); slots = omega (arith, f.slots) }

before_later : (m n o : Placed) → IsBefore m n → IsBefore n o → IsBefore m o
before_later m n o a b = record { words = omega (arith, a.words, b.words); slots = omega (arith, a.slots, b.slots) }

follows_at : (ms : List Placed) → AreShaped ms → (k : ℕ) (d : Placed) → k + 1 < length ms
    → Follows (get_or ms k d) (get_or ms (k + 1) d)
follows_at ms s k d h =
    s.order k (get_or ms k d) (get_or ms (k + 1) d) (slice_get-get_or ms k d (omega (arith, h)))
    (slice_get-get_or ms (k + 1) d h)

before_by : (ms : List Placed) → AreShaped ms → (i more : ℕ) (d : Placed) → i + more + 1 < length ms
    → IsBefore (get_or ms i d) (get_or ms (i + more + 1) d)
before_by ms s i zero d h =
    let same : i + 0 + 1 ≡ i + 1 = omega arith in
    subst (λ j. IsBefore (get_or ms i d) (get_or ms j d)) (sym same)
    (before_next (get_or ms i d) (get_or ms (i + 1) d) (follows_at ms s i d (omega (arith, h))))
before_by ms s i (suc more) d h =
    let here : IsBefore (get_or ms i d) (get_or ms (i + more + 1) d) = before_by ms s i more d (omega (arith, h)) in
    let next : i + suc more + 1 ≡ i + more + 1 + 1 = omega arith in
    subst (λ j. IsBefore (get_or ms i d) (get_or ms j d)) (sym next)
    (before_later (get_or ms i d) (get_or ms (i + more + 1) d) (get_or ms (i + more + 1 + 1) d) here
    (before_next (get_or ms (i + more + 1) d) (get_or ms (i + more + 1 + 1) d)
    (follows_at ms s (i + more + 1) d (omega (arith, h)))))

pub apart : (ms : List Placed) → AreShaped ms → AreApart ms
apart ms s = record {
  shaped = s.shaped;
  order = λ i j d less within.
      let same : i + (j - i - 1) + 1 ≡ j = omega (arith, less) in
      subst (λ k. IsBefore (get_or ms i d) (get_or ms k d)) same
      (before_by ms s i (j - i - 1) d (omega (arith, less, within)));
}
