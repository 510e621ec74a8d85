-- The tables of a keeper's view while an update goes on.
use Rattle.cfi_word.specs.Table.{Place}
use Rattle.std.proofs.Common.{◌≡◌, ℕ, ◌+◌, ◌-◌, ◌*◌, ◌<◌, ◌≤◌, nat_lt, cond, inl, inr, [], ◌∷◌, length, length-append, Some, None, refl, sym, ap, subst, ◌∙◌, arith, Bool, true, false}
use mathlib.Core.List.{IsPrefix}
use Rattle.std.proofs.lemmas.Bool.{lt-ltb}
use Rattle.std.proofs.lemmas.Bool.Decides.{nat_tests}
use Rattle.std.proofs.lemmas.List.{get_or_append_left, get_or_push}
use Rattle.cfi_word.specs.declared.limits.TheConstants.{GUESTS, MAX_EPOCH, MAX_POLICY}
use Rattle.cfi_word.specs.Rank.{stores_of}
use Rattle.cfi_model.specs.declared.history.Entry.{Entry}
use Rattle.cfi_model.specs.declared.history.Refusal.{Refusal}
use Rattle.cfi_model.specs.Closed.{IsClosed}
use Rattle.cfi_model.specs.InForce.{GoesOn, in_force}
use Rattle.cfi_model.specs.Tables.{IsTables, IsUpdate, MayBeAsked}
use Rattle.cfi_model.specs.Words.{Tables, entry_at, no_entry, newest, before, next_epoch, number_at, rank_at}
use Rattle.cfi_model.proofs.TableLemmas.{either_entry}
use Rattle.cfi_tables.specs.Key.{Key}
use Rattle.cfi_tables.specs.Keeping.{last_of}
use Rattle.cfi_tables.specs.Views.{tables_of}
use Rattle.cfi_tables.specs.inner.Steps.{grown, refused, stored_to}
use Rattle.cfi_tables.specs.declared.view.KeeperView.{KeeperView}
use Rattle.cfi_tables.proofs.Prefixes.{prefix_item, prefix_length}

-- the number in force grows with the stores
force_grows : (n c s s' : ℕ) → s ≤ s'
    → cond (nat_lt (2 * c) s) (n - 1) (n - 2) ≤ cond (nat_lt (2 * c) s') (n - 1) (n - 2)
force_grows n c s s' more = grind (arith, nat_tests)

force_least : (n c s : ℕ) → n - 2 ≤ cond (nat_lt (2 * c) s) (n - 1) (n - 2)
force_least n c s = grind (arith, nat_tests)

-- so does the number of each word
number_grows : (n r s s' : ℕ) → s ≤ s' → cond (nat_lt r s) (n - 1) (n - 2) ≤ cond (nat_lt r s') (n - 1) (n - 2)
number_grows n r s s' more = grind (arith, nat_tests)

number_most : (n r s : ℕ) (b : Bool) → cond (nat_lt r s) (n - 1) (n - 2) ≤ cond b (n + 1 - 1) (n + 1 - 2)
number_most n r s true = grind (arith, nat_tests)
number_most n r s false = grind (arith, nat_tests)

-- all stores were made
pub force_newest : (t : Tables) → t.stored ≡ stores_of t.code_words → in_force t ≡ newest t
force_newest t all = ap (λ b. cond b (newest t) (before t)) (lt-ltb (2 * t.code_words) t.stored (omega (arith, all)))

-- tables go on where they have more entries, and the number in force does not fall
pub goes_on : (k : Key) (old new : KeeperView) → IsPrefix old.entries new.entries
    → in_force (tables_of k old) ≤ in_force (tables_of k new) → GoesOn (tables_of k old) (tables_of k new)
goes_on k old new begins force = record {
  code_words = refl;
  versions = refl;
  first = refl;
  longer = prefix_length old.entries new.entries begins;
  entries = λ number within. prefix_item old.entries new.entries number no_entry begins within;
  force = force;
}

module _ (k : Key) (u : KeeperView) (is : IsTables (tables_of k u)) where
  abbrev t : Tables
  t = tables_of k u

  -- ---- more stores of the same update

  pub stored_is : (rank : ℕ) → u.stored ≤ rank → rank < stores_of k.code_words → u.asked ≡ None
      → IsTables (tables_of k (stored_to rank u))
  stored_is rank least most none = record {
    size = is.size;
    versions_least = is.versions_least;
    versions_most = is.versions_most;
    some = is.some;
    epochs_fit = is.epochs_fit;
    policies_fit = is.policies_fit;
    closed = is.closed;
    follow = is.follow;
    stored_most = omega arith;
    under_way = λ less. is.under_way (omega arith);
    asked_fits = subst (MayBeAsked (tables_of k (stored_to rank u))) (sym none) tt;
  }

  pub stored_force : (rank : ℕ) → u.stored ≤ rank → in_force t ≤ in_force (tables_of k (stored_to rank u))
  stored_force rank least = force_grows (length u.entries) k.code_words u.stored (rank + 1) (omega arith)

  pub stored_numbers : (rank : ℕ) → u.stored ≤ rank → (place : Place)
      → number_at t place ≤ number_at (tables_of k (stored_to rank u)) place
  stored_numbers rank least place =
      number_grows (length u.entries) (rank_at k.code_words place) u.stored (rank + 1) (omega arith)

  pub grown_numbers : (entry : Entry) (place : Place)
      → number_at t place ≤ number_at (tables_of k (grown entry u)) place
  grown_numbers entry place =
      let some = number_most (length u.entries) (rank_at k.code_words place) u.stored
      (nat_lt (rank_at k.code_words place) 0) in
      subst (λ n. number_at t place ≤ cond (nat_lt (rank_at k.code_words place) 0) (n - 1) (n - 2))
      (sym (length-append u.entries (entry ∷ []))) some

  -- ---- an update is asked for, or no more

  pub dropped_is : (refusal : Refusal) → IsTables (tables_of k (refused refusal u))
  dropped_is refusal = record {
    size = is.size;
    versions_least = is.versions_least;
    versions_most = is.versions_most;
    some = is.some;
    epochs_fit = is.epochs_fit;
    policies_fit = is.policies_fit;
    closed = is.closed;
    follow = is.follow;
    stored_most = is.stored_most;
    under_way = is.under_way;
    asked_fits = tt;
  }

  pub asked_is : (entry : Entry) (tested : ℕ) → u.stored ≡ stores_of k.code_words → tested < GUESTS
      → IsUpdate k.code_words (last_of u.entries) entry → next_epoch t ≤ MAX_EPOCH
      → IsTables (tables_of k (record u { asked = Some entry; tested = tested }))
  asked_is entry tested idle few follows fits = record {
    size = is.size;
    versions_least = is.versions_least;
    versions_most = is.versions_most;
    some = is.some;
    epochs_fit = is.epochs_fit;
    policies_fit = is.policies_fit;
    closed = is.closed;
    follow = is.follow;
    stored_most = is.stored_most;
    under_way = is.under_way;
    asked_fits = record { follows = follows; idle = idle; guest = few; fits = fits };
  }

  -- ---- one entry more

  module _ (entry : Entry) (idle : u.stored ≡ stores_of k.code_words)
      (follows : IsUpdate k.code_words (last_of u.entries) entry) (fits : next_epoch t ≤ MAX_EPOCH) where
    abbrev new : Tables
    new = tables_of k (grown entry u)

    pub old_entry : (number : ℕ) → number < length u.entries → entry_at new number ≡ entry_at t number
    old_entry number within = get_or_append_left u.entries (entry ∷ []) no_entry number within

    pub one_more : length new.entries ≡ length u.entries + 1
    one_more = length-append u.entries (entry ∷ [])

    pub new_at : (number : ℕ) → number ≡ length u.entries → entry_at new number ≡ entry
    new_at number last = ap (entry_at new) last ∙ get_or_push u.entries entry no_entry (length u.entries) refl

    last_within : newest t < length u.entries
    last_within = omega (arith, is.some)

    new_policy : entry.policy ≤ MAX_POLICY
    new_policy = elim follows [
      | inl refresh ↦ omega (arith, refresh.policy, is.policies_fit (newest t) last_within)
      | inr load ↦ load.most
    ]

    new_closed : IsClosed k.code_words entry.image
    new_closed = elim follows [
      | inl refresh ↦ subst (IsClosed k.code_words) (sym refresh.image) (is.closed (newest t) last_within)
      | inr load ↦ load.closed
    ]

    -- what holds of the old entries and of the new one
    each_entry : (P : Entry → Type 0) → ((number : ℕ) → number < length u.entries → P (entry_at t number)) → P entry
        → (number : ℕ) → number < length new.entries → P (entry_at new number)
    each_entry P old last number within = elim (either_entry u.entries entry number within) [
      | inl inside ↦ subst P (sym (old_entry number inside)) (old number inside)
      | inr end ↦ subst P (sym (new_at number end)) last
    ]

    follows_on : (number : ℕ) → number + 1 < length new.entries
        → IsUpdate k.code_words (entry_at new number) (entry_at new (number + 1))
    follows_on number within = elim (either_entry u.entries entry (number + 1) within) [
      | inl inside ↦
          subst (λ e. IsUpdate k.code_words e (entry_at new (number + 1)))
          (sym (old_entry number (omega (arith, inside))))
          (subst (IsUpdate k.code_words (entry_at t number)) (sym (old_entry (number + 1) inside))
          (is.follow number inside))
      | inr end ↦
          let here : newest t ≡ number = omega (arith, end) in
          subst (λ e. IsUpdate k.code_words e (entry_at new (number + 1)))
          (sym (old_entry number (omega (arith, end))))
          (subst (IsUpdate k.code_words (entry_at t number)) (sym (new_at (number + 1) end))
          (subst (λ n. IsUpdate k.code_words (entry_at t n) entry) here follows))
    ]

    pub grown_is : IsTables new
    grown_is = record {
      size = is.size;
      versions_least = is.versions_least;
      versions_most = is.versions_most;
      some = omega (arith, one_more);
      epochs_fit = omega (arith, one_more, fits);
      policies_fit = each_entry (λ e. e.policy ≤ MAX_POLICY) is.policies_fit new_policy;
      closed = each_entry (λ e. IsClosed k.code_words e.image) is.closed new_closed;
      follow = follows_on;
      stored_most = omega arith;
      under_way = λ less. omega (arith, one_more, is.some);
      asked_fits = tt;
    }

    pub grown_force : in_force t ≤ in_force new
    grown_force =
        let old = force_newest t idle in
        let least = force_least (length new.entries) k.code_words 0 in
        omega (arith, one_more, old, least)
