-- How the set of long branches grows.
use Rattle.std.proofs.Common.{◌≡◌, ℕ, ◌+◌, ◌<◌, ◌≤◌, ◌≢◌, ◌||◌, ◌&&◌, not, Bool, true, false, cond, List, length, get_or-set_same, get_or-set_other, replicate, below_more, refl, sym, ap, ◌∙◌, inl, inr, ⊎_elim, arith}
use Rattle.std.proofs.lemmas.Bool.{cases_Bool, cases_lt, false≢true}
use Rattle.std.proofs.Math.ListN.{set, length-set}
use Rattle.std.proofs.lemmas.List.{get_or_past, set-get_or, get_or-replicate, length-replicate}
use Rattle.std.proofs.lemmas.List.Sums.{sum_by-set}
use Rattle.elf_read.specs.declared.object.Symbol.{Symbol}
use Rattle.cfi_instr.specs.Words.{Words, count_of}
use Rattle.cfi_instr.specs.declared.fault.InstrFault.{InstrFault}
use Rattle.cfi_instr.specs.declared.fault.InstrFault.TheVariants as faults
use Rattle.cfi_instr.specs.Sizes.{is_long, offsets_of, IsOver}
use Rattle.cfi_instr.specs.Reach.{word_reaches, IsEnough, IsWithin, shorts, IsPassed}
use Rattle.cfi_instr.proofs.SizeLemmas.{place-grows}
use Rattle.cfi_instr.proofs.ReachLemmas.{word-shrinks}

-- the words before `w` are looked at, and the others are as they were
pub record IsWidened (t : Words) (symbols : List Symbol) (offsets : List ℕ) (old new : List Bool) (w : ℕ)
    (grew : Bool) : Type 0 where
  pub size : length new ≡ count_of t
  pub passed : (k : ℕ) → k < w → is_long new k ≡ (is_long old k || not (word_reaches t symbols offsets k))
  pub ahead : (k : ℕ) → w ≤ k → is_long new k ≡ is_long old k
  pub same : grew ≡ false → new ≡ old
  pub fewer : grew ≡ true → shorts new < shorts old
  pub never_more : shorts new ≤ shorts old

-- what a round makes of a set
abbrev pub IsWider : Words → List Symbol → (offsets : List ℕ) → (old new : List Bool) → Type 0
IsWider t symbols offsets old new = (w : ℕ) → w < count_of t
    → is_long new w ≡ (is_long old w || not (word_reaches t symbols offsets w))

short-stays : (old reaches new : Bool) → new ≡ (old || not reaches) → old ≡ false → reaches ≡ true → new ≡ false
short-stays false true new is o r = is
short-stays true reaches new is o r = absurd (false≢true (sym o))
short-stays false false new is o r = absurd (false≢true r)

-- the set stays within each one that is enough
pub within-next : (t : Words) (symbols : List Symbol) (old new : List Bool) (offsets : List ℕ)
    → offsets ≡ offsets_of t old → length new ≡ count_of t
    → ((other : List Bool) → IsEnough t symbols other → IsWithin old other) → IsWider t symbols offsets old new
    → (other : List Bool) → IsEnough t symbols other → IsWithin new other
within-next t symbols old new offsets placed size within wider other enough = λ w is. ⊎_elim
    (λ (below : w < count_of t). elim (cases_Bool (is_long other w)) [
      | inl held ↦ held
      | inr short ↦ elim (cases_Bool (is_long old w)) [
        | inl was ↦ within other enough w was
        | inr was ↦
            let far : word_reaches t symbols (offsets_of t other) w ≡ true = enough w below short in
            let near : word_reaches t symbols (offsets_of t old) w ≡ true =
            word-shrinks t symbols old other (within other enough) w below far in
            let here : word_reaches t symbols offsets w ≡ true =
            ap (λ (xs : List ℕ). word_reaches t symbols xs w) placed ∙ near in
            let stays : is_long new w ≡ false =
            short-stays (is_long old w) (word_reaches t symbols offsets w) (is_long new w) (wider w below) was here in
            absurd (false≢true (sym stays ∙ is))
      ]
    ])
    (λ (above : count_of t ≤ w).
    let past : is_long new w ≡ false = get_or_past new w false (omega arith) in
    absurd (false≢true (sym past ∙ is)))
    (cases_lt w (count_of t))

-- ---- one word of a round

not-both : (l r : Bool) → true ≡ (not l && not r) → (l ≡ false) × (r ≡ false)
not-both false false h = (refl, refl)
not-both true r h = absurd (false≢true (sym h))
not-both false true h = absurd (false≢true (sym h))

value-same : (l r : Bool) → false ≡ (not l && not r) → (l || not r) ≡ l
value-same true r h = refl
value-same false true h = refl
value-same false false h = absurd (false≢true h)

passed-next : (t : Words) (symbols : List Symbol) (offsets : List ℕ) (old cur new : List Bool) (w : ℕ) (grew : Bool)
    → IsWidened t symbols offsets old cur w grew → w < count_of t
    → new ≡ set cur w (is_long cur w || not (word_reaches t symbols offsets w))
    → (k : ℕ) → k < w + 1 → is_long new k ≡ (is_long old k || not (word_reaches t symbols offsets k))
passed-next t symbols offsets old cur new w grew is lt set_is =
    let value = is_long cur w || not (word_reaches t symbols offsets w) in
    let inside : w < length cur = omega (arith, is.size) in
    let here : is_long new w ≡ (is_long old w || not (word_reaches t symbols offsets w)) =
    ap (λ (xs : List Bool). is_long xs w) set_is ∙ get_or-set_same cur w value false inside
    ∙ ap (λ (b : Bool). b || not (word_reaches t symbols offsets w)) (is.ahead w (omega arith)) in
    below_more (λ k. is_long new k ≡ (is_long old k || not (word_reaches t symbols offsets k))) w
    (λ k below.
    let other : k ≢ w = omega arith in
    ap (λ (xs : List Bool). is_long xs k) set_is ∙ get_or-set_other cur w k value false other ∙ is.passed k below)
    here

ahead-next : (t : Words) (symbols : List Symbol) (offsets : List ℕ) (old cur new : List Bool) (w : ℕ) (grew : Bool)
    → IsWidened t symbols offsets old cur w grew
    → new ≡ set cur w (is_long cur w || not (word_reaches t symbols offsets w))
    → (k : ℕ) → w + 1 ≤ k → is_long new k ≡ is_long old k
ahead-next t symbols offsets old cur new w grew is set_is = λ k above.
    let value = is_long cur w || not (word_reaches t symbols offsets w) in
    let other : k ≢ w = omega arith in
    ap (λ (xs : List Bool). is_long xs k) set_is ∙ get_or-set_other cur w k value false other ∙ is.ahead k (omega arith)

-- what a word counts for
abbrev cost : Bool → ℕ
cost b = cond b 0 1

-- a word that becomes long
pub widened-grown : (t : Words) (symbols : List Symbol) (offsets : List ℕ) (old cur new : List Bool) (w : ℕ)
    (grew next : Bool) → IsWidened t symbols offsets old cur w grew → w < count_of t
    → new ≡ set cur w (is_long cur w || not (word_reaches t symbols offsets w))
    → true ≡ (not (is_long cur w) && not (word_reaches t symbols offsets w)) → next ≡ true
    → IsWidened t symbols offsets old new (w + 1) next
widened-grown t symbols offsets old cur new w grew next is lt set_is grown next_is =
    let value = is_long cur w || not (word_reaches t symbols offsets w) in
    let inside : w < length cur = omega (arith, is.size) in
    let both = not-both (is_long cur w) (word_reaches t symbols offsets w) grown in
    let turned : value ≡ true = rw (both.0, both.1) refl in
    let sum : shorts (set cur w value) + cost (is_long cur w) ≡ shorts cur + cost value =
    sum_by-set cost cur w value false inside in
    let was : cost (is_long cur w) ≡ 1 = ap cost both.0 in
    let becomes : cost value ≡ 0 = ap cost turned in
    let all : shorts new ≡ shorts (set cur w value) = ap shorts set_is in
    let less : shorts new < shorts cur = omega (arith, sum, was, becomes, all) in
    record {
      size = ap (λ (xs : List Bool). length xs) set_is ∙ length-set cur w value ∙ is.size;
      passed = passed-next t symbols offsets old cur new w grew is lt set_is;
      ahead = ahead-next t symbols offsets old cur new w grew is set_is;
      same = λ no_growth. absurd (false≢true (sym no_growth ∙ next_is));
      fewer = λ grows. omega (arith, less, is.never_more);
      never_more = omega (arith, less, is.never_more);
    }

-- a word that stays as it is
pub widened-still : (t : Words) (symbols : List Symbol) (offsets : List ℕ) (old cur new : List Bool) (w : ℕ)
    (grew next : Bool) → IsWidened t symbols offsets old cur w grew → w < count_of t
    → new ≡ set cur w (is_long cur w || not (word_reaches t symbols offsets w))
    → false ≡ (not (is_long cur w) && not (word_reaches t symbols offsets w)) → next ≡ grew
    → IsWidened t symbols offsets old new (w + 1) next
widened-still t symbols offsets old cur new w grew next is lt set_is still next_is =
    let value = is_long cur w || not (word_reaches t symbols offsets w) in
    let kept : value ≡ is_long cur w = value-same (is_long cur w) (word_reaches t symbols offsets w) still in
    let stays : new ≡ cur = set_is ∙ ap (set cur w) kept ∙ set-get_or cur w false in
    let count : shorts new ≡ shorts cur = ap shorts stays in
    record {
      size = ap (λ (xs : List Bool). length xs) stays ∙ is.size;
      passed = passed-next t symbols offsets old cur new w grew is lt set_is;
      ahead = ahead-next t symbols offsets old cur new w grew is set_is;
      same = λ no_growth. stays ∙ is.same (sym next_is ∙ no_growth);
      fewer = λ grows. let less = is.fewer (sym next_is ∙ grows) in omega (arith, less, count);
      never_more = omega (arith, count, is.never_more);
    }

-- ---- the rounds together

-- no set that is enough is shorter
pub over-passed : (t : Words) (symbols : List Symbol) (long : List Bool) (fault : InstrFault)
    → ((other : List Bool) → IsEnough t symbols other → IsWithin long other) → IsOver t long fault
    → IsPassed t symbols fault
over-passed t symbols long faults.TooLong within over = λ other enough.
    let grows = place-grows t long other (within other enough) (count_of t) in
    omega (arith, over, grows)
over-passed t symbols long faults.Memory within over = tt
over-passed t symbols long (faults.Illegal n) within over = over
over-passed t symbols long (faults.Reserved n) within over = over
over-passed t symbols long (faults.Trap n) within over = over
over-passed t symbols long (faults.BadLink n) within over = over
over-passed t symbols long (faults.BadReloc n) within over = over
over-passed t symbols long (faults.Function n) within over = over
over-passed t symbols long (faults.Stray n) within over = over
over-passed t symbols long (faults.NoKind n) within over = over
over-passed t symbols long (faults.Switch n) within over = over
over-passed t symbols long (faults.FallsThrough n) within over = over

-- no branch is long at first
pub none-within : (n : ℕ) (other : List Bool) → IsWithin (replicate n false) other
none-within n other = λ w is. ⊎_elim
    (λ (below : w < n). absurd (false≢true (sym (get_or-replicate n w false false below) ∙ is)))
    (λ (above : n ≤ w).
    let size : length (replicate n false) ≡ n = length-replicate n false in
    absurd (false≢true (sym (get_or_past (replicate n false) w false (omega arith)) ∙ is)))
    (cases_lt w n)
