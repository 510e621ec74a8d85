-- Numbers of slots where old classes keep theirs, one more slot at a time.
use Rattle.std.proofs.Common.{◌≡◌, ◌⊎◌, ℕ, ◌+◌, ◌-◌, ◌<◌, ◌≤◌, cond, ltb, Bool, List, [], ◌∷◌, ◌++◌, length, get_or, refl, sym, ap, subst, ◌∙◌, arith, inl, inr}
use Rattle.std.proofs.lemmas.Bool.{cases_lt, cases_eq, lt-ltb, le-ltb, cond-true, cond-false, false≢true}
use Rattle.std.proofs.lemmas.List.{length_push}
use Rattle.cfi_word.specs.declared.ids.TheConstants.{FIELD_MAX}
use Rattle.cfi_class.specs.declared.nodes.TheConstants.{CLASSES}
use Rattle.cfi_class.specs.inner.Numbering.{IsMarked}
use Rattle.cfi_class.specs.inner.Renumbering.{number_at, IsLive, IsIdle, slot_root, OpensClass, IsGivenBefore, IsFresh, AreRenumbered}
use Rattle.cfi_class.specs.inner.Taken.{marked_below, IsNextFree}
use Rattle.cfi_class.proofs.PushedLemmas.{before, here, each}
use Rattle.cfi_class.proofs.TakenLemmas.{run_of_marks, below_more}

-- the number of a root that is one itself, and of one that is a slot's
pub number_at-low : (numbers : List ℕ) (root : ℕ) → root < CLASSES → number_at numbers root ≡ root
number_at-low numbers root low = cond-true (ltb root CLASSES) _ _ (lt-ltb root CLASSES low)

pub number_at-high : (numbers : List ℕ) (root : ℕ) → CLASSES ≤ root
    → number_at numbers root ≡ get_or numbers (root - CLASSES) 0
number_at-high numbers root high = cond-false (ltb root CLASSES) _ _ (le-ltb root CLASSES high)

-- the next number, and what is known of it
pub record IsNextNumber (parents bary : List ℕ) (used taken : List Bool) (numbers : List ℕ) (next : ℕ) : Type 0 where
  pub least : 1 ≤ next
  pub free : IsMarked taken next → ⊥
  pub few : next ≤ length numbers + marked_below taken next + 1
  pub above : (slot : ℕ) → slot < length numbers → OpensClass parents bary used slot → get_or numbers slot 0 < next
  pub lower : (other : ℕ) → 1 ≤ other → other < next
      → IsMarked taken other ⊎ IsGivenBefore parents bary used numbers (length numbers) other

-- what one more number has to be
pub record IsSlotNumber (parents bary : List ℕ) (used taken : List Bool) (numbers : List ℕ) (number : ℕ) : Type 0
  where
    pub idle : IsIdle bary used (length numbers) → number ≡ FIELD_MAX
    pub known : IsLive bary used (length numbers) → slot_root parents bary (length numbers) < CLASSES + length numbers
        → number ≡ number_at numbers (slot_root parents bary (length numbers))
    pub fresh : OpensClass parents bary used (length numbers)
        → IsFresh parents bary used taken numbers (length numbers) number
    pub rises : OpensClass parents bary used (length numbers) → (earlier : ℕ) → earlier < length numbers
        → OpensClass parents bary used earlier → get_or numbers earlier 0 < number

module _ (parents bary : List ℕ) (used taken : List Bool) (numbers : List ℕ) (number : ℕ) where
  number_at-push : (root : ℕ) → root < CLASSES + length numbers
      → number_at (numbers ++ number ∷ []) root ≡ number_at numbers root
  number_at-push root low =
      elim (cases_lt root CLASSES) [
        | inl lower ↦ number_at-low (numbers ++ number ∷ []) root lower ∙ sym (number_at-low numbers root lower)
        | inr higher ↦ ap (cond (ltb root CLASSES) root) (before numbers number (root - CLASSES) (omega arith))
      ]

  given_kept : (slot other : ℕ) → slot ≤ length numbers → IsGivenBefore parents bary used numbers slot other
      → IsGivenBefore parents bary used (numbers ++ number ∷ []) slot other
  given_kept slot other within (earlier, lower, opens, has) =
      (earlier, lower, opens, before numbers number earlier (omega arith) ∙ has)

  fresh_kept : (slot is : ℕ) → slot ≤ length numbers → IsFresh parents bary used taken numbers slot is
      → IsFresh parents bary used taken (numbers ++ number ∷ []) slot is
  fresh_kept slot is within fresh = record {
    least = fresh.least;
    most = fresh.most;
    free = fresh.free;
    lower = λ other some low. elim (fresh.lower other some low) [
      | inl marked ↦ inl marked
      | inr given ↦ inr (given_kept slot other within given)
    ];
  }

  -- the numbers of one more slot
  pub number_more : AreRenumbered parents bary used taken numbers
      → IsSlotNumber parents bary used taken numbers number
      → AreRenumbered parents bary used taken (numbers ++ number ∷ [])
  number_more old is =
      let len = length_push numbers number in
      record {
        idle = each numbers number (λ slot n. IsIdle bary used slot → n ≡ FIELD_MAX) old.idle is.idle;
        known = λ slot within live low.
            each numbers number (λ place n. IsLive bary used place → slot_root parents bary place < CLASSES + place
            → n ≡ number_at numbers (slot_root parents bary place)) old.known is.known slot within live low
            ∙ sym (number_at-push (slot_root parents bary slot) (omega arith));
        fresh = λ slot within opens.
            fresh_kept slot _ (omega arith)
            (each numbers number
            (λ place n. OpensClass parents bary used place → IsFresh parents bary used taken numbers place n)
            old.fresh is.fresh slot within opens);
        rises = λ earlier slot lower within earlier_opens opens.
            subst (λ n. n < get_or (numbers ++ number ∷ []) slot 0) (sym (before numbers number earlier (omega arith)))
            (each numbers number
            (λ place n. earlier < place → OpensClass parents bary used place → get_or numbers earlier 0 < n)
            (λ place there low is_opened. old.rises earlier place low there earlier_opens is_opened)
            (λ low is_opened. is.rises is_opened earlier low earlier_opens) slot within lower opens);
      }

  given_wider : (other : ℕ) → IsGivenBefore parents bary used numbers (length numbers) other
      → IsGivenBefore parents bary used (numbers ++ number ∷ []) (length (numbers ++ number ∷ [])) other
  given_wider other (earlier, lower, opens, has) =
      let len = length_push numbers number in
      (earlier, omega arith, opens, before numbers number earlier lower ∙ has)

  -- a slot that opens no class leaves the next number
  pub next_kept : (next : ℕ) → IsNextNumber parents bary used taken numbers next
      → (OpensClass parents bary used (length numbers) → ⊥)
      → IsNextNumber parents bary used taken (numbers ++ number ∷ []) next
  next_kept next old opens_none =
      let len = length_push numbers number in
      let few = old.few in
      record {
        least = old.least;
        free = old.free;
        few = omega arith;
        above = each numbers number (λ place n. OpensClass parents bary used place → n < next) old.above
            (λ opens. absurd (opens_none opens));
        lower = λ other some low. elim (old.lower other some low) [
          | inl marked ↦ inl marked
          | inr given ↦ inr (given_wider other given)
        ];
      }

  -- a slot that opens a class takes the next number
  pub next_given : (next : ℕ) → IsNextNumber parents bary used taken numbers number
      → OpensClass parents bary used (length numbers) → IsNextFree taken (number + 1) next
      → IsNextNumber parents bary used taken (numbers ++ number ∷ []) next
  next_given next old opens free =
      let len = length_push numbers number in
      let few = old.few in
      let least = free.least in
      let run = run_of_marks taken (number + 1) next free.least free.taken in
      let more = below_more taken number in
      record {
        least = omega (arith, old.least);
        free = free.free;
        few = omega arith;
        above = each numbers number (λ place n. OpensClass parents bary used place → n < next)
            (λ slot there opened. omega (arith, old.above slot there opened)) (λ opened. omega arith);
        lower = λ other some low. elim (cases_lt other number) [
          | inl lower ↦ elim (old.lower other some lower) [
            | inl marked ↦ inl marked
            | inr given ↦ inr (given_wider other given)
          ]
          | inr higher ↦ elim (cases_eq number other) [
            | inl same ↦ inr (length numbers, omega arith, opens, here numbers number (length numbers) refl ∙ same)
            | inr differs ↦ inl (free.taken other (omega arith) low)
          ]
        ];
      }

module _ (parents bary : List ℕ) (used taken : List Bool) where
  pub none_numbered : AreRenumbered parents bary used taken []
  none_numbered = record {
    idle = λ slot within. absurd (omega arith);
    known = λ slot within. absurd (omega arith);
    fresh = λ slot within. absurd (omega arith);
    rises = λ earlier slot lower within. absurd (omega arith);
  }

  -- the first number that is free
  pub next_first : (next : ℕ) → IsNextFree taken 1 next → IsNextNumber parents bary used taken [] next
  next_first next free =
      let run = run_of_marks taken 1 next free.least free.taken in
      let least = free.least in
      record {
        least = free.least;
        free = free.free;
        few = omega arith;
        above = λ slot within. absurd (omega arith);
        lower = λ other some low. inl (free.taken other some low);
      }

  module _ (numbers : List ℕ) where
    busy : IsLive bary used (length numbers) → IsIdle bary used (length numbers) → ⊥
    busy (inl lower) idle = omega (arith, idle.0)
    busy (inr marked) idle = false≢true (sym idle.1 ∙ marked)

  module _ (numbers : List ℕ) (next : ℕ) (old : IsNextNumber parents bary used taken numbers next) where
    pub next_low : ((bound : ℕ) → marked_below taken bound ≤ length bary) → next ≤ length numbers + length bary + 1
    next_low few = let least = old.few in omega (arith, few next)

    -- the number of a slot that opens a class
    pub opened_number : ((bound : ℕ) → marked_below taken bound ≤ length bary)
        → OpensClass parents bary used (length numbers) → IsSlotNumber parents bary used taken numbers next
    opened_number few opens = record {
      idle = λ idle. absurd (busy numbers opens.0 idle);
      known = λ live low. absurd (omega (arith, opens.1));
      fresh = λ opened. record { least = old.least; most = next_low few; free = old.free; lower = old.lower };
      rises = λ opened earlier lower earlier_opens. old.above earlier lower earlier_opens;
    }

  module _ (numbers : List ℕ) where
    -- the number of a slot of a class that is there
    pub known_number : (number : ℕ) → IsLive bary used (length numbers)
        → slot_root parents bary (length numbers) < CLASSES + length numbers
        → number ≡ number_at numbers (slot_root parents bary (length numbers))
        → IsSlotNumber parents bary used taken numbers number
    known_number number live low is = record {
      idle = λ idle. absurd (busy numbers live idle);
      known = λ lives lower. is;
      fresh = λ opens. absurd (omega (arith, opens.1));
      rises = λ opens. absurd (omega (arith, opens.1));
    }

    -- a slot without an edge
    pub idle_number : IsIdle bary used (length numbers) → IsSlotNumber parents bary used taken numbers FIELD_MAX
    idle_number idle = record {
      idle = λ also. refl;
      known = λ live. absurd (busy numbers live idle);
      fresh = λ opens. absurd (busy numbers opens.0 idle);
      rises = λ opens. absurd (busy numbers opens.0 idle);
    }

    pub opens_none : IsIdle bary used (length numbers) → OpensClass parents bary used (length numbers) → ⊥
    opens_none idle opens = busy numbers opens.0 idle
