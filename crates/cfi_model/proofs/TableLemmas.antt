-- Tables, and the words that tell what is in force.
use Rattle.std.proofs.Common.{◌≡◌, ℕ, ◌+◌, ◌-◌, ◌<◌, ◌≤◌, cond, Bool, true, false, sym, ap, subst, arith, List, [], ◌∷◌, ◌++◌, length, length-append, ◌⊎◌, inl, inr}
use Rattle.std.proofs.lemmas.Bool.{cases_lt}
use Rattle.cfi_word.specs.declared.lists.Image.{Image}
use Rattle.cfi_word.specs.declared.limits.TheConstants.{MIN_VERSIONS, MAX_VERSIONS, MAX_EPOCH}
use Rattle.cfi_word.specs.Word.{IsPackable}
use Rattle.cfi_word.specs.Table.{IsSize, Epoch}
use Rattle.cfi_word.proofs.WordLemmas.{policy_in-packed, epoch_in-packed}
use Rattle.cfi_model.specs.declared.history.Entry.{Entry}
use Rattle.cfi_model.specs.Closed.{IsClosed}
use Rattle.cfi_model.specs.Words.{Tables, entry_at, epoch_in_force, policy_in_force, is_stored, newest, before, number_at, opened_tables}
use Rattle.cfi_model.specs.Tables.{IsTables}
use Rattle.cfi_model.specs.World.{first_entry}

-- the number of an entry that a word is of is one of the list
number_by : (n : ℕ) (b : Bool) → 1 ≤ n → cond b (n - 1) (n - 2) < n
number_by n true some = omega arith
number_by n false some = omega arith

-- the number of an entry is that of an old one or of the one that was added
pub either_entry : (entries : List Entry) (entry : Entry) (number : ℕ) → number < length (entries ++ entry ∷ [])
    → (number < length entries) ⊎ (number ≡ length entries)
either_entry entries entry number within = elim (cases_lt number (length entries)) [
  | inl old ↦ inl old
  | inr past ↦ inr (omega (arith, past, within, length-append entries (entry ∷ [])))
]

module _ (t : Tables) (is : IsTables t) where
  pub number_within : (b : Bool) → cond b (newest t) (before t) < length t.entries
  number_within b = number_by (length t.entries) b is.some

  -- the words of an entry can be packed
  pub packable : (number class : ℕ) → number < length t.entries → class ≤ 16383
      → IsPackable (t.first + number) (entry_at t number).policy class t.versions
  packable number class within fits = record {
    epoch_fits = omega (arith, is.epochs_fit);
    policy_fits = is.policies_fit number within;
    class_fits = fits;
    versions_least = is.versions_least;
    versions_most = is.versions_most;
  }

  pub force_epoch : epoch_in_force t ≡ t.first + number_at t Epoch
  force_epoch =
      let number : ℕ = number_at t Epoch in
      epoch_in-packed (t.first + number) (entry_at t number).policy 0 t.versions
      (packable number 0 (number_within (is_stored t Epoch)) (omega arith))

  pub force_policy : policy_in_force t ≡ (entry_at t (number_at t Epoch)).policy
  force_policy =
      let number : ℕ = number_at t Epoch in
      policy_in-packed (t.first + number) (entry_at t number).policy 0 t.versions
      (packable number 0 (number_within (is_stored t Epoch)) (omega arith))

-- the tables of an opening
module _ (code_words versions first : ℕ) (image : Image) where
  abbrev t : Tables
  t = opened_tables code_words versions first (first_entry image)

  first_is : (number : ℕ) → number < 1 → entry_at t number ≡ first_entry image
  first_is number within = let e : number ≡ 0 = omega arith in ap (λ n. entry_at t n) e

  pub opened_are : IsSize code_words → MIN_VERSIONS ≤ versions → versions ≤ MAX_VERSIONS → first ≤ MAX_EPOCH
      → IsClosed code_words image → IsTables t
  opened_are size least most first_most closed = record {
    size = size;
    versions_least = least;
    versions_most = most;
    some = omega arith;
    epochs_fit = omega arith;
    policies_fit = λ number within. subst (λ e. e.policy ≤ 255) (sym (first_is number within)) (omega arith);
    closed = λ number within. subst (λ e. IsClosed code_words e.image) (sym (first_is number within)) closed;
    follow = λ number within. absurd (omega arith);
    stored_most = omega arith;
    under_way = λ less. absurd (omega arith);
    asked_fits = tt;
  }
