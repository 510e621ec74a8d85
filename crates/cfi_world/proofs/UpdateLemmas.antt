-- The tables after each access of the updater.
use Rattle.std.proofs.Common.{◌≡◌, ◌≢◌, ℕ, ◌+◌, ◌<◌, ◌≤◌, List, [], ◌∷◌, ◌++◌, length, drop, length-drop, length-append, Option, Some, None, refl, sym, ◌∙◌, ap, subst, arith, inl, inr}
use Rattle.std.proofs.lemmas.List.{get_or_append_left, get_or_push}
use Rattle.cfi_word.specs.declared.lists.Image.{Image}
use Rattle.cfi_word.specs.declared.limits.TheConstants.{GUESTS, MAX_EPOCH, MAX_POLICY}
use Rattle.cfi_word.specs.Rank.{stores_of}
use Rattle.cfi_model.specs.declared.history.Entry.{Entry}
use Rattle.cfi_model.specs.Closed.{IsClosed}
use Rattle.cfi_model.specs.InForce.{GoesOn}
use Rattle.cfi_model.specs.Tables.{IsTables, IsAsked, MayBeAsked, IsUpdate}
use Rattle.cfi_model.specs.Words.{Tables, entry_at, no_entry, newest, before, epoch_in_force}
use Rattle.cfi_model.proofs.TableLemmas.{either_entry, force_epoch}
use Rattle.cfi_world.specs.Premises.{MayBegin}
use Rattle.cfi_world.specs.Updates.{asked_entry, begun, dropped, next_store, at_store, stored}
use Rattle.cfi_world.proofs.StoringLemmas.{AreIdle, AreStoring, agreeing_most, force_before, force_grows, force_newest}

module _ (t : Tables) (is : IsTables t) where
  -- ---- an update is asked for, and dropped

  update_follows : (image : Option Image) → MayBegin t image
      → IsUpdate t.code_words (entry_at t (newest t)) (asked_entry t image)
  update_follows None may = inl (record { policy = refl; image = refl })
  update_follows (Some image) may = inr may

  pub begun_is : (image : Option Image) → AreIdle t → MayBegin t image → epoch_in_force t ≢ MAX_EPOCH
      → IsTables (begun image t)
  begun_is image idle may left =
      let newest_is = force_newest t idle.stored in
      record {
        size = is.size;
        versions_least = is.versions_least;
        versions_most = is.versions_most;
        some = is.some;
        epochs_fit = is.epochs_fit;
        policies_fit = is.policies_fit;
        closed = is.closed;
        follow = is.follow;
        stored_most = is.stored_most;
        under_way = is.under_way;
        asked_fits = record {
          follows = update_follows image may;
          idle = omega (arith, idle.stored, is.stored_most);
          guest = omega arith;
          fits = omega (arith, is.epochs_fit, is.some, force_epoch t is, newest_is, left);
        };
      }

  pub begun_on : (image : Option Image) → GoesOn t (begun image t)
  begun_on image = record {
    code_words = refl;
    versions = refl;
    first = refl;
    longer = omega arith;
    entries = λ number within. refl;
    force = omega arith;
  }

  pub dropped_is : IsTables (dropped t)
  dropped_is = record {
    size = is.size;
    versions_least = is.versions_least;
    versions_most = is.versions_most;
    some = is.some;
    epochs_fit = is.epochs_fit;
    policies_fit = is.policies_fit;
    closed = is.closed;
    follow = is.follow;
    stored_most = is.stored_most;
    under_way = is.under_way;
    asked_fits = tt;
  }

  pub dropped_on : GoesOn t (dropped t)
  dropped_on = record {
    code_words = refl;
    versions = refl;
    first = refl;
    longer = omega arith;
    entries = λ number within. refl;
    force = omega arith;
  }

  -- ---- a store

  next_most : (from : ℕ) → from ≤ stores_of t.code_words → next_store t from ≤ stores_of t.code_words
  next_most from most =
      let old : List ℕ = (entry_at t (before t)).image.code in
      let new : List ℕ = (entry_at t (newest t)).image.code in
      let few = agreeing_most (drop from old) (drop from new) in
      let long = length-drop from old in
      let size = (is.closed (before t) (omega (arith, is.some))).1.classes.code_length in
      omega (arith, few, long, size, most)

  pub stored_is : AreStoring t → IsTables (stored t)
  stored_is storing = record {
    size = is.size;
    versions_least = is.versions_least;
    versions_most = is.versions_most;
    some = is.some;
    epochs_fit = is.epochs_fit;
    policies_fit = is.policies_fit;
    closed = is.closed;
    follow = is.follow;
    stored_most = next_most (t.stored + 1) (omega (arith, storing.stored));
    under_way = λ less. is.under_way storing.stored;
    asked_fits = subst (MayBeAsked (stored t)) (sym storing.asked) tt;
  }

  pub stored_on : GoesOn t (stored t)
  stored_on = record {
    code_words = refl;
    versions = refl;
    first = refl;
    longer = omega arith;
    entries = λ number within. refl;
    force = force_grows (length t.entries) t.code_words t.stored (next_store t (t.stored + 1)) (omega arith);
  }

  -- ---- a test was passed

  module _ (entry : Entry) (asked : t.asked ≡ Some entry) where
    asks : IsAsked t entry
    asks = subst (MayBeAsked t) asked is.asked_fits

    abbrev on : Tables
    on = record t { tested = t.tested + 1 }

    pub tested_is : t.tested + 1 < GUESTS → IsTables on
    tested_is more = record {
      size = is.size;
      versions_least = is.versions_least;
      versions_most = is.versions_most;
      some = is.some;
      epochs_fit = is.epochs_fit;
      policies_fit = is.policies_fit;
      closed = is.closed;
      follow = is.follow;
      stored_most = is.stored_most;
      under_way = is.under_way;
      asked_fits = subst (MayBeAsked on) (sym asked)
          (record { follows = asks.follows; idle = asks.idle; guest = more; fits = asks.fits });
    }

    pub tested_on : GoesOn t on
    tested_on = record {
      code_words = refl;
      versions = refl;
      first = refl;
      longer = omega arith;
      entries = λ number within. refl;
      force = omega arith;
    }

    -- the stores begin: there is one entry more
    abbrev longer_by : Tables
    longer_by = record t { entries = t.entries ++ entry ∷ []; stored = 0; asked = None; tested = 0 }

    abbrev pub begins : Tables
    begins = at_store 0 longer_by

    pub old_entry : (number : ℕ) → number < length t.entries → entry_at begins number ≡ entry_at t number
    old_entry number within = get_or_append_left t.entries (entry ∷ []) no_entry number within

    pub new_entry : entry_at begins (length t.entries) ≡ entry
    new_entry = get_or_push t.entries entry no_entry (length t.entries) refl

    pub one_more : length begins.entries ≡ length t.entries + 1
    one_more = length-append t.entries (entry ∷ []) ∙ omega arith

    new_at : (number : ℕ) → number ≡ length t.entries → entry_at begins number ≡ entry
    new_at number last = ap (entry_at begins) last ∙ new_entry

    last_within : newest t < length t.entries
    last_within = omega (arith, is.some)

    new_policy : entry.policy ≤ MAX_POLICY
    new_policy = elim asks.follows [
      | inl refresh ↦ omega (arith, refresh.policy, is.policies_fit (newest t) last_within)
      | inr load ↦ load.most
    ]

    new_closed : IsClosed t.code_words entry.image
    new_closed = elim asks.follows [
      | inl refresh ↦ subst (IsClosed t.code_words) (sym refresh.image) (is.closed (newest t) last_within)
      | inr load ↦ load.closed
    ]

    policies : (number : ℕ) → number < length begins.entries → (entry_at begins number).policy ≤ MAX_POLICY
    policies number within = elim (either_entry t.entries entry number within) [
      | inl old ↦ subst (λ e. e.policy ≤ MAX_POLICY) (sym (old_entry number old)) (is.policies_fit number old)
      | inr last ↦ subst (λ e. e.policy ≤ MAX_POLICY) (sym (new_at number last)) new_policy
    ]

    closed_all : (number : ℕ) → number < length begins.entries
        → IsClosed t.code_words (entry_at begins number).image
    closed_all number within = elim (either_entry t.entries entry number within) [
      | inl old ↦
          subst (λ e. IsClosed t.code_words e.image) (sym (old_entry number old)) (is.closed number old)
      | inr last ↦ subst (λ e. IsClosed t.code_words e.image) (sym (new_at number last)) new_closed
    ]

    follow_all : (number : ℕ) → number + 1 < length begins.entries
        → IsUpdate t.code_words (entry_at begins number) (entry_at begins (number + 1))
    follow_all number within = elim (either_entry t.entries entry (number + 1) within) [
      | inl old ↦
          subst (λ e. IsUpdate t.code_words e (entry_at begins (number + 1)))
          (sym (old_entry number (omega (arith, old))))
          (subst (IsUpdate t.code_words (entry_at t number)) (sym (old_entry (number + 1) old))
          (is.follow number old))
      | inr last ↦
          let here : number ≡ newest t = omega (arith, last) in
          subst (λ e. IsUpdate t.code_words e (entry_at begins (number + 1)))
          (sym (old_entry number (omega (arith, last))))
          (subst (IsUpdate t.code_words (entry_at t number)) (sym (new_at (number + 1) last))
          (subst (λ n. IsUpdate t.code_words (entry_at t n) entry) (sym here) asks.follows))
    ]

    pub begins_most : begins.stored ≤ t.code_words
    begins_most =
        let old : List ℕ = (entry_at longer_by (before longer_by)).image.code in
        let new : List ℕ = (entry_at longer_by (newest longer_by)).image.code in
        let few = agreeing_most (drop 0 old) (drop 0 new) in
        let long = length-drop 0 old in
        let size = (closed_all (before longer_by) (omega (arith, one_more))).1.classes.code_length in
        omega (arith, few, long, size)

    pub begins_is : IsTables begins
    begins_is = record {
      size = is.size;
      versions_least = is.versions_least;
      versions_most = is.versions_most;
      some = omega (arith, one_more);
      epochs_fit = omega (arith, one_more, asks.fits);
      policies_fit = policies;
      closed = closed_all;
      follow = follow_all;
      stored_most = omega (arith, begins_most);
      under_way = λ less. omega (arith, one_more, is.some);
      asked_fits = tt;
    }

    pub begins_on : GoesOn t begins
    begins_on = record {
      code_words = refl;
      versions = refl;
      first = refl;
      longer = omega (arith, one_more);
      entries = old_entry;
      force = omega (
        arith,
        force_newest t (omega (arith, asks.idle)),
        force_before begins begins_most,
        one_more,
      );
    }
