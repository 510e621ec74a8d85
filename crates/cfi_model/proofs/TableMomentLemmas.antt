-- Moments of tables, one after the other.
use Rattle.std.proofs.Common.{◌≡◌, ℕ, zero, suc, ◌-◌, ◌*◌, ◌<◌, ◌≤◌, nat_lt, cond, List, [], ◌∷◌, ◌++◌, length, slice_get, take, Some, ◌⊎◌, inl, inr, refl, sym, ap, ◌∙◌, subst, arith}
use Rattle.std.proofs.lemmas.Bool.Decides.{nat_tests}
use Rattle.std.proofs.lemmas.List.{get_or-take, length-take-le}
use Rattle.std.proofs.lemmas.Option.{same_Some}
use Rattle.cfi_model.specs.declared.history.Access.{Access}
use Rattle.cfi_model.specs.declared.history.Moment.{Moment}
use Rattle.cfi_model.specs.InForce.{GoesOn}
use Rattle.cfi_model.specs.TableMoments.{AreInOrder, IsBy, IsMoment, tables_at}
use Rattle.cfi_model.specs.Words.{Tables, entry_at, no_entry}

pub by_same : (m : Moment) → IsBy m m
by_same m = inr (refl, omega arith)

pub by_trans : (a b c : Moment) → IsBy a b → IsBy b c → IsBy a c
by_trans a b c (inl less) (inl more) = inl (omega (arith, less, more))
by_trans a b c (inl less) (inr same) = inl (omega (arith, less, same.0))
by_trans a b c (inr same) (inl more) = inl (omega (arith, same.0, more))
by_trans a b c (inr same) (inr then) = inr (same.0 ∙ then.0, omega (arith, same.1, then.1))

pub by_entries : (a b : Moment) → IsBy a b → a.entries ≤ b.entries
by_entries a b (inl less) = omega (arith, less)
by_entries a b (inr same) = omega (arith, same.0)

-- the number in force grows with the stores, and with the entries
force_on : (n m c s s' : ℕ) → n ≤ m → (n ≡ m → s ≤ s')
    → cond (nat_lt (2 * c) s) (n - 1) (n - 2) ≤ cond (nat_lt (2 * c) s') (m - 1) (m - 2)
force_on n m c s s' up more = grind (arith, nat_tests)

module _ (t : Tables) (one other : Moment) (is : IsMoment t one) (then : IsMoment t other) (by : IsBy one other) where
  up : one.entries ≤ other.entries
  up = by_entries one other by

  stores : one.entries ≡ other.entries → one.stored ≤ other.stored
  stores same = elim by [ inl less ↦ absurd (omega (arith, less, same)) | inr both ↦ both.1 ]

  one_many : length (take one.entries t.entries) ≡ one.entries
  one_many = length-take-le one.entries t.entries is.within

  other_many : length (take other.entries t.entries) ≡ other.entries
  other_many = length-take-le other.entries t.entries then.within

  -- the tables of the one moment go on to those of the other
  pub goes_on_at : GoesOn (tables_at t one) (tables_at t other)
  goes_on_at = record {
    code_words = refl;
    versions = refl;
    first = refl;
    longer = omega (arith, one_many, other_many, up);
    entries = λ number within.
        get_or-take other.entries t.entries number no_entry (omega (arith, within, one_many, up))
        ∙ sym (get_or-take one.entries t.entries number no_entry (omega (arith, within, one_many)));
    force = force_on (length (take one.entries t.entries)) (length (take other.entries t.entries)) t.code_words
        one.stored other.stored (omega (arith, one_many, other_many, up))
        (λ same. stores (omega (arith, same, one_many, other_many)));
  }

-- an entry that the tables had at a moment is theirs
pub entry_then : (t : Tables) (m : Moment) → IsMoment t m → (number : ℕ) → number < length (take m.entries t.entries)
    → entry_at (tables_at t m) number ≡ entry_at t number
entry_then t m is number within =
    get_or-take m.entries t.entries number no_entry
    (omega (arith, within, length-take-le m.entries t.entries is.within))

-- ---- loads, one more at the end

pub either_load : (accesses : List Access) (access : Access) (number : ℕ) (a : Access)
    → slice_get (accesses ++ access ∷ []) number ≡ Some a
    → (slice_get accesses number ≡ Some a) ⊎ ((number ≡ length accesses) × (access ≡ a))
either_load [] access zero a is = inr (refl, same_Some access a is)
either_load [] access (suc number) a is = absurd (cc)
either_load (x ∷ xs) access zero a is = inl is
either_load (x ∷ xs) access (suc number) a is =
    elim (either_load xs access number a is) [
      | inl old ↦ inl old
      | inr last ↦ inr (ap suc last.0, last.1)
    ]

pub load_within : (accesses : List Access) (number : ℕ) (a : Access) → slice_get accesses number ≡ Some a
    → number < length accesses
load_within [] number a is = absurd (cc)
load_within (x ∷ xs) zero a is = omega arith
load_within (x ∷ xs) (suc number) a is = let within = load_within xs number a is in omega (arith, within)

-- a load of a moment that is not before that of any other
pub order_snoc : (accesses : List Access) (access : Access) → AreInOrder accesses
    → ((number : ℕ) (a : Access) → slice_get accesses number ≡ Some a → IsBy a.moment access.moment)
    → AreInOrder (accesses ++ access ∷ [])
order_snoc accesses access order last one other a b less first then =
    elim (either_load accesses access other b then) [
      | inl old ↦
          elim (either_load accesses access one a first) [
            | inl before ↦ order one other a b less before old
            | inr end ↦ let within = load_within accesses other b old in absurd (omega (arith, within, less, end.0))
          ]
      | inr end ↦
          elim (either_load accesses access one a first) [
            | inl before ↦ subst (λ (x : Access). IsBy a.moment x.moment) end.1 (last one a before)
            | inr same ↦ absurd (omega (arith, less, end.0, same.0))
          ]
    ]
