-- Numbers of slots, one more slot at a time.
use Rattle.std.proofs.Common.{◌≡◌, ◌↔◌, ℕ, ◌+◌, ◌<◌, ◌≤◌, max, cond, ltb, Bool, false, List, [], ◌∷◌, ◌++◌, length, get_or, refl, sym, ap, subst, ◌∙◌, arith, inl, inr}
use Rattle.std.proofs.lemmas.Bool.{cases_lt, lt-ltb, le-ltb, cond-true, cond-false, false≢true}
use Rattle.std.proofs.lemmas.List.{length_push, get_or_past}
use Rattle.cfi_word.specs.declared.ids.TheConstants.{FIELD_MAX}
use Rattle.cfi_class.specs.inner.Forest.{root_of}
use Rattle.cfi_class.specs.inner.Numbering.{IsMarked, AreSlotNumbers}
use Rattle.cfi_class.proofs.PushedLemmas.{before, here, last_or, each}

-- two slots have one number exactly where they have one root
abbrev pub AreAlike : (parents numbers : List ℕ) (one other : ℕ) → Type 0
AreAlike parents numbers one other =
    (get_or numbers one 0 ≡ get_or numbers other 0) ↔ (root_of parents one ≡ root_of parents other)

-- a marked slot before the end has the number
abbrev pub HasBefore : (marks : List Bool) (numbers : List ℕ) (end number : ℕ) → Type 0
HasBefore marks numbers end number =
    (earlier : ℕ) × (earlier < end) × IsMarked marks earlier × (get_or numbers earlier 0 ≡ number)

-- the numbers of the first slots, of so many classes
pub record NumbersSoFar (parents : List ℕ) (marks : List Bool) (numbers : List ℕ) (count : ℕ) : Type 0 where
  pub few : count ≤ length numbers
  pub idle : (slot : ℕ) → slot < length numbers → get_or marks slot false ≡ false → get_or numbers slot 0 ≡ FIELD_MAX
  pub least : (slot : ℕ) → slot < length numbers → IsMarked marks slot → 1 ≤ get_or numbers slot 0
  pub most : (slot : ℕ) → slot < length numbers → IsMarked marks slot → get_or numbers slot 0 ≤ count
  pub same : (one other : ℕ) → one < length numbers → other < length numbers → IsMarked marks one
      → IsMarked marks other → AreAlike parents numbers one other
  pub each : (number : ℕ) → 1 ≤ number → number ≤ count → HasBefore marks numbers (length numbers) number
  pub order : (slot number : ℕ) → slot < length numbers → IsMarked marks slot → 1 ≤ number
      → number ≤ get_or numbers slot 0 → HasBefore marks numbers (slot + 1) number

-- what one more number has to be
pub record IsNext (parents : List ℕ) (marks : List Bool) (numbers : List ℕ) (count number next : ℕ) : Type 0 where
  pub rises : count ≤ next
  pub few : next ≤ length numbers + 1
  pub idle : get_or marks (length numbers) false ≡ false → number ≡ FIELD_MAX
  pub least : IsMarked marks (length numbers) → 1 ≤ number
  pub most : IsMarked marks (length numbers) → number ≤ next
  pub same : IsMarked marks (length numbers) → (one : ℕ) → one < length numbers → IsMarked marks one
      → (get_or numbers one 0 ≡ number) ↔ (root_of parents one ≡ root_of parents (length numbers))
  pub top : (higher : ℕ) → count < higher → higher ≤ next
      → IsMarked marks (length numbers) × (number ≡ higher)

module _ (parents : List ℕ) (marks : List Bool) (numbers : List ℕ) (count number next : ℕ)
    (old : NumbersSoFar parents marks numbers count) (is : IsNext parents marks numbers count number next) where
  pushed_same : (one other : ℕ) → one < length (numbers ++ number ∷ []) → other < length (numbers ++ number ∷ [])
      → IsMarked marks one → IsMarked marks other → AreAlike parents (numbers ++ number ∷ []) one other
  pushed_same one other one_within other_within one_marked other_marked =
      elim (cases_lt one (length numbers)) [
        | inl one_lower ↦ elim (cases_lt other (length numbers)) [
          | inl other_lower ↦
              rw (before numbers number one one_lower, before numbers number other other_lower)
              (old.same one other one_lower other_lower one_marked other_marked)
          | inr other_higher ↦
              let last = last_or numbers number other other_within other_higher in
              rw (before numbers number one one_lower, here numbers number other last, ← last)
              (is.same (rw last other_marked) one one_lower one_marked)
        ]
        | inr one_higher ↦ elim (cases_lt other (length numbers)) [
          | inl other_lower ↦
              let last = last_or numbers number one one_within one_higher in
              let alike = is.same (rw last one_marked) other other_lower other_marked in
              rw (before numbers number other other_lower, here numbers number one last, ← last)
              (λ equal. sym (alike.0 (sym equal)), λ equal. sym (alike.1 (sym equal)))
          | inr other_higher ↦
              let both : one ≡ other = sym (last_or numbers number one one_within one_higher)
              ∙ last_or numbers number other other_within other_higher in
              (λ equal. ap (root_of parents) both, λ equal. ap (λ n. get_or (numbers ++ number ∷ []) n 0) both)
        ]
      ]

  -- what a slot had before
  kept : (end sought : ℕ) → end ≤ length numbers → HasBefore marks numbers end sought
      → HasBefore marks (numbers ++ number ∷ []) end sought
  kept end sought within (earlier, lower, marked, has) =
      (earlier, lower, marked, before numbers number earlier (omega arith) ∙ has)

  widened : (few many sought : ℕ) → few ≤ many → HasBefore marks (numbers ++ number ∷ []) few sought
      → HasBefore marks (numbers ++ number ∷ []) many sought
  widened few many sought more (earlier, lower, marked, has) = (earlier, omega arith, marked, has)

  -- each number up to the greatest one has a slot
  pushed_each : (sought : ℕ) → 1 ≤ sought → sought ≤ next
      → HasBefore marks (numbers ++ number ∷ []) (length numbers + 1) sought
  pushed_each sought some low =
      elim (cases_lt count sought) [
        | inl above ↦
            let new = is.top sought above low in
            (length numbers, omega arith, new.0, here numbers number (length numbers) refl ∙ new.1)
        | inr below ↦ widened (length numbers) (length numbers + 1) sought (omega arith)
            (kept (length numbers) sought (omega arith) (old.each sought some below))
      ]

  pushed_order : (slot sought : ℕ) → slot < length (numbers ++ number ∷ []) → IsMarked marks slot → 1 ≤ sought
      → sought ≤ get_or (numbers ++ number ∷ []) slot 0
      → HasBefore marks (numbers ++ number ∷ []) (slot + 1) sought
  pushed_order slot sought within marked some low =
      elim (cases_lt slot (length numbers)) [
        | inl lower ↦
            let was : sought ≤ get_or numbers slot 0 = rw (before numbers number slot lower) at low in
            kept (slot + 1) sought (omega arith) (old.order slot sought lower marked some was)
        | inr higher ↦
            let last = last_or numbers number slot within higher in
            let most = is.most (rw last marked) in
            let own = here numbers number slot last in
            subst (λ n. HasBefore marks (numbers ++ number ∷ []) (n + 1) sought) last
            (pushed_each sought some (omega arith))
      ]

  pub pushed : NumbersSoFar parents marks (numbers ++ number ∷ []) next
  pushed = record {
    few = let len = length_push numbers number in let bound = is.few in omega arith;
    idle = each numbers number (λ slot n. get_or marks slot false ≡ false → n ≡ FIELD_MAX) old.idle is.idle;
    least = each numbers number (λ slot n. IsMarked marks slot → 1 ≤ n) old.least is.least;
    most = each numbers number (λ slot n. IsMarked marks slot → n ≤ next)
        (λ slot lower marked. let most = old.most slot lower marked in let rises = is.rises in omega arith) is.most;
    same = pushed_same;
    each = λ sought some low.
        subst (λ n. HasBefore marks (numbers ++ number ∷ []) n sought) (sym (length_push numbers number))
        (pushed_each sought some low);
    order = pushed_order;
  }

module _ (parents : List ℕ) (marks : List Bool) (numbers : List ℕ) (count : ℕ)
    (old : NumbersSoFar parents marks numbers count) where
  -- a slot without an edge
  pub idle_pushed : get_or marks (length numbers) false ≡ false
      → NumbersSoFar parents marks (numbers ++ FIELD_MAX ∷ []) count
  idle_pushed idle =
      let unmarked : IsMarked marks (length numbers) → ⊥ = λ marked. false≢true (sym idle ∙ marked) in
      pushed parents marks numbers count FIELD_MAX count old (record {
        rises = omega arith;
        few = let few = old.few in omega arith;
        idle = λ there. refl;
        least = λ marked. absurd (unmarked marked);
        most = λ marked. absurd (unmarked marked);
        same = λ marked. absurd (unmarked marked);
        top = λ higher above low. absurd (omega arith);
      })

  module _ (root : ℕ) (lower : (slot : ℕ) → slot < length numbers → root_of parents slot ≤ slot)
      (marked : IsMarked marks (length numbers)) (is : root ≡ root_of parents (length numbers)) where
    -- a root with an edge: the next class
    root_pushed : root ≡ length numbers
        → NumbersSoFar parents marks (numbers ++ (count + 1) ∷ []) (max count (count + 1))
    root_pushed own =
        pushed parents marks numbers count (count + 1) (max count (count + 1)) old (record {
          rises = omega arith;
          few = let few = old.few in omega arith;
          idle = λ idle. absurd (false≢true (sym idle ∙ marked));
          least = λ there. omega arith;
          most = λ there. omega arith;
          same = λ there one below one_marked.
              let most = old.most one below one_marked in
              let low = lower one below in
              (λ equal. absurd (omega arith), λ equal. absurd (omega arith));
          top = λ higher above low. (marked, omega arith);
        })

    -- a slot whose root is another one: its class
    other_pushed : root < length numbers → IsMarked marks root → root_of parents root ≡ root
        → NumbersSoFar parents marks (numbers ++ get_or numbers root 0 ∷ []) (max count (get_or numbers root 0))
    other_pushed within root_marked own =
        let most = old.most root within root_marked in
        let few = old.few in
        pushed parents marks numbers count (get_or numbers root 0) (max count (get_or numbers root 0)) old (record {
          rises = omega arith;
          few = omega arith;
          idle = λ idle. absurd (false≢true (sym idle ∙ marked));
          least = λ there. old.least root within root_marked;
          most = λ there. omega arith;
          same = λ there one below one_marked.
              subst (λ n. (get_or numbers one 0 ≡ get_or numbers root 0) ↔ (root_of parents one ≡ n)) (own ∙ is)
              (old.same one root below within one_marked root_marked);
          top = λ higher above low. absurd (omega arith);
        })

    -- the number that a marked slot gets
    pub number_pushed : (number : ℕ)
        → number ≡ cond (ltb root (length numbers)) (get_or numbers root 0) (count + 1)
        → root ≤ length numbers → IsMarked marks root → root_of parents root ≡ root
        → NumbersSoFar parents marks (numbers ++ number ∷ []) (max count number)
    number_pushed number chosen low root_marked own =
        elim (cases_lt root (length numbers)) [
          | inl within ↦ subst (λ n. NumbersSoFar parents marks (numbers ++ n ∷ []) (max count n))
              (sym (chosen ∙ cond-true (ltb root (length numbers)) _ _ (lt-ltb root (length numbers) within)))
              (other_pushed within root_marked own)
          | inr above ↦ subst (λ n. NumbersSoFar parents marks (numbers ++ n ∷ []) (max count n))
              (sym (chosen ∙ cond-false (ltb root (length numbers)) _ _ (le-ltb root (length numbers) above)))
              (root_pushed (omega arith))
        ]

-- the numbers of all slots
pub numbers_whole : (parents : List ℕ) (marks : List Bool) (numbers : List ℕ) (count : ℕ)
    → NumbersSoFar parents marks numbers count → length numbers ≡ length marks → length marks < FIELD_MAX
    → AreSlotNumbers parents marks numbers
numbers_whole parents marks numbers count so_far all few =
    let within : (slot : ℕ) → IsMarked marks slot → slot < length numbers = λ slot marked.
    elim (cases_lt slot (length numbers)) [
      | inl lower ↦ lower
      | inr higher ↦ absurd (false≢true (sym (get_or_past marks slot false (omega arith)) ∙ marked))
    ] in
    record {
      len = all;
      idle = λ slot lower unmarked. so_far.idle slot (omega arith) unmarked;
      class = λ slot marked.
          let most = so_far.most slot (within slot marked) marked in
          let bound = so_far.few in
          record { least = so_far.least slot (within slot marked) marked; most = omega arith };
      same = λ one other one_marked other_marked.
          so_far.same one other (within one one_marked) (within other other_marked) one_marked other_marked;
      order = λ slot number marked some low.
          let before = so_far.order slot number (within slot marked) marked some low in
          (before.0, omega (arith, before.1), before.2, before.3);
    }
