-- Tables after the steps of an update.
use Rattle.std.proofs.Common.{◌≡◌, ℕ, ◌+◌, ◌<◌, ◌≤◌, false, inl, inr, [], ◌∷◌, ◌++◌, length, slice_index_or, None, sym, subst, arith}
use Rattle.std.proofs.lemmas.Bool.{cases_lt}
use Rattle.std.proofs.lemmas.List.{get_or_append_left}
use Rattle.cfi_word.specs.declared.limits.TheConstants.{MAX_POLICY}
use Rattle.cfi_word.specs.Rank.{stores_of}
use Rattle.cfi_model.specs.declared.history.Entry.{Entry}
use Rattle.cfi_model.specs.Closed.{IsClosed}
use Rattle.cfi_model.specs.Tables.{IsTables, IsAsked, IsUpdate, MayBeAsked}
use Rattle.cfi_model.specs.Words.{Tables, before, entry_at, newest, no_entry}
use Rattle.cfi_model.proofs.TableLemmas.{number_within}
use Rattle.cfi_world.specs.Updates.{next_store}
use Rattle.cfi_world.proofs.AgreeLemmas.{parted_most}
use Rattle.cfi_world.proofs.EntryLemmas.{at_end, one_longer}

module _ (t : Tables) (is : IsTables t) where
  pub stored_are : (s : ℕ) → t.asked ≡ None → s ≤ stores_of t.code_words
      → (s < stores_of t.code_words → 2 ≤ length t.entries) → IsTables (record t { stored = s })
  stored_are s none most under = record {
    size = is.size;
    versions_least = is.versions_least;
    versions_most = is.versions_most;
    some = is.some;
    epochs_fit = is.epochs_fit;
    policies_fit = is.policies_fit;
    closed = is.closed;
    follow = is.follow;
    stored_most = most;
    under_way = under;
    asked_fits = subst (MayBeAsked (record t { stored = s })) (sym none) tt;
  }

  -- the code before has as many words as the tables
  before_within : before t < length t.entries
  before_within = number_within t is false

  before_many : length (entry_at t (before t)).image.code ≡ t.code_words
  before_many = (is.closed (before t) before_within).1.classes.code_length

  pub next_most : (from : ℕ) → from ≤ stores_of t.code_words → next_store t from ≤ stores_of t.code_words
  next_most from most =
      parted_most (entry_at t (before t)).image.code (entry_at t (newest t)).image.code from (stores_of t.code_words)
      (omega (arith, before_many)) most

  -- while code is stored, no more than all code is
  pub next_code : (from : ℕ) → from ≤ t.code_words → next_store t from ≤ t.code_words
  next_code from most =
      parted_most (entry_at t (before t)).image.code (entry_at t (newest t)).image.code from t.code_words
      (omega (arith, before_many)) most

  -- with one entry more
  module _ (entry : Entry) (asked : IsAsked t entry) where
    entry_policy : (u : IsUpdate t.code_words (entry_at t (newest t)) entry) → entry.policy ≤ MAX_POLICY
    entry_policy (inl refresh) = omega (arith, refresh.policy, is.policies_fit (newest t) (omega (arith, is.some)))
    entry_policy (inr load) = load.most

    entry_closed : (u : IsUpdate t.code_words (entry_at t (newest t)) entry) → IsClosed t.code_words entry.image
    entry_closed (inl refresh) =
        subst (IsClosed t.code_words) (sym refresh.image) (is.closed (newest t) (omega (arith, is.some)))
    entry_closed (inr load) = load.closed

    pub old_entry : (number : ℕ) → number < length t.entries
        → slice_index_or (t.entries ++ entry ∷ []) number no_entry ≡ entry_at t number
    old_entry number inside = get_or_append_left t.entries (entry ∷ []) no_entry number inside

    new_entry : (number : ℕ) → number ≡ length t.entries
        → slice_index_or (t.entries ++ entry ∷ []) number no_entry ≡ entry
    new_entry number e = at_end t.entries entry no_entry number e

    -- what holds of the old entries and the new one
    each_entry : (P : Entry → Type 0) → ((number : ℕ) → number < length t.entries → P (entry_at t number)) → P entry
        → (number : ℕ) → number < length (t.entries ++ entry ∷ [])
        → P (slice_index_or (t.entries ++ entry ∷ []) number no_entry)
    each_entry P old new number within = elim (cases_lt number (length t.entries)) [
      | inl inside ↦ subst P (sym (old_entry number inside)) (old number inside)
      | inr past ↦
          subst P (sym (new_entry number (omega (arith, past, within, one_longer t.entries entry)))) new
    ]

    follows_on : (number : ℕ) → number + 1 < length (t.entries ++ entry ∷ [])
        → IsUpdate t.code_words (slice_index_or (t.entries ++ entry ∷ []) number no_entry)
        (slice_index_or (t.entries ++ entry ∷ []) (number + 1) no_entry)
    follows_on number within = elim (cases_lt (number + 1) (length t.entries)) [
      | inl inside ↦
          subst (λ x. IsUpdate t.code_words x (slice_index_or (t.entries ++ entry ∷ []) (number + 1) no_entry))
          (sym (old_entry number (omega (arith, inside))))
          (subst (IsUpdate t.code_words (entry_at t number)) (sym (old_entry (number + 1) inside))
          (is.follow number inside))
      | inr past ↦
          (let last : number + 1 ≡ length t.entries = omega (arith, past, within, one_longer t.entries entry) in
          let same : newest t ≡ number = omega (arith, last) in
          subst (λ x. IsUpdate t.code_words x (slice_index_or (t.entries ++ entry ∷ []) (number + 1) no_entry))
          (sym (old_entry number (omega (arith, last))))
          (subst (IsUpdate t.code_words (entry_at t number)) (sym (new_entry (number + 1) last))
          (subst (λ n. IsUpdate t.code_words (entry_at t n) entry) same asked.follows)))
    ]

    pub pushed_are : IsTables (record t { entries = t.entries ++ entry ∷ []; stored = 0; asked = None; tested = 0 })
    pushed_are =
        let long = one_longer t.entries entry in
        record {
          size = is.size;
          versions_least = is.versions_least;
          versions_most = is.versions_most;
          some = omega (arith, long);
          epochs_fit = omega (arith, long, asked.fits);
          policies_fit = each_entry (λ e. e.policy ≤ MAX_POLICY) is.policies_fit (entry_policy asked.follows);
          closed = each_entry (λ e. IsClosed t.code_words e.image) is.closed (entry_closed asked.follows);
          follow = follows_on;
          stored_most = omega arith;
          under_way = λ below. omega (arith, long, is.some);
          asked_fits = tt;
        }
