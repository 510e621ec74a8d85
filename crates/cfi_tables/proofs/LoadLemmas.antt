-- What a load adds to what was seen, and what a quiescent point makes of it.
use Rattle.std.proofs.Common.{◌≡◌, inl, inr, ℕ, ◌+◌, ◌<◌, ◌≤◌, nat_lt, List, length, Option, Some, None, refl, sym, ap, subst, ◌∙◌, arith}
use mathlib.Core.List.{IsPrefix}
use Rattle.std.proofs.lemmas.Bool.{true≢false}
use Rattle.std.proofs.lemmas.Option.{same_Some}
use Rattle.cfi_word.specs.Table.{Place, Epoch, Quiet, Code, Tary, Bary, IsPlace}
use Rattle.cfi_word.specs.Word.{epoch_in}
use Rattle.cfi_model.specs.declared.history.Entry.{Entry}
use Rattle.cfi_word.specs.declared.limits.TheConstants.{MAX_POLICY}
use Rattle.cfi_model.specs.Closed.{IsClosed}
use Rattle.cfi_model.specs.TableMoments.{moment_of}
use Rattle.cfi_model.specs.Tables.{IsTables, IsUpdate}
use Rattle.cfi_model.specs.Words.{Tables, entry_at, entry_word, epoch_in_force, no_entry, number_at, is_stored, word_at}
use Rattle.cfi_model.proofs.TableLemmas.{force_epoch, number_within}
use Rattle.cfi_model.proofs.InForceLemmas.{bary_epoch, bary_epoch_is, tary_epoch, tary_epoch_is, number_falls}
use Rattle.cfi_tables.specs.Key.{Key}
use Rattle.cfi_model.specs.History.{IsFair}
use Rattle.cfi_tables.specs.Fair.{history_at, kept_of}
use Rattle.cfi_tables.specs.Loads.{IsFairAt, IsLoad, IsWordOf, MayLoad, Tells, TellsEpoch, access_of}
use Rattle.cfi_tables.specs.Rule.{IsBounded, IsKeptBy, IsRegistered}
use Rattle.cfi_tables.specs.Views.{parked, tables_of, tables_with}
use Rattle.cfi_tables.specs.declared.view.KeeperView.{KeeperView}
use Rattle.cfi_tables.specs.declared.view.PassView.{PassView}
use Rattle.cfi_tables.specs.inner.Steps.{published}
use Rattle.atomic_table.proofs.Lists.{one_turn}
use Rattle.cfi_tables.proofs.BoundLemmas.{bounded_now}
use Rattle.cfi_tables.proofs.FairLemmas.{fair_at, fair_snoc, kept_at, kept_snoc}
use Rattle.cfi_tables.proofs.Prefixes.{prefix_item, prefix_length}
use Rattle.cfi_tables.proofs.NowLemmas.{load_now, on_snoc, timed_snoc}
use Rattle.cfi_tables.proofs.MoreLemmas.{AreMore, are_more, code_first, entries_after, latest_after, loaded, most_by, tells_store}

module _ (k : Key) (u : KeeperView) (is : IsTables (tables_of k u)) where
  abbrev t : Tables
  t = tables_of k u

  -- the first entries are entries of tables
  begins_tables : (entries : List Entry) → IsPrefix entries u.entries → 1 ≤ length entries
      → IsTables (tables_with k entries)
  begins_tables entries begins some =
      let long = prefix_length entries u.entries begins in
      let same : (number : ℕ) → number < length entries → entry_at t number ≡ entry_at (tables_with k entries) number =
      (λ number within. prefix_item entries u.entries number no_entry begins within) in
      record {
        size = is.size;
        versions_least = is.versions_least;
        versions_most = is.versions_most;
        some = some;
        epochs_fit = omega (arith, is.epochs_fit, long);
        policies_fit = λ number within.
            subst (λ e. e.policy ≤ MAX_POLICY) (same number within)
            (is.policies_fit number (omega (arith, within, long)));
        closed = λ number within.
            subst (λ e. IsClosed k.code_words e.image) (same number within)
            (is.closed number (omega (arith, within, long)));
        follow = λ number within.
            subst (λ e. IsUpdate k.code_words e (entry_at (tables_with k entries) (number + 1)))
            (same number (omega (arith, within)))
            (subst (λ e. IsUpdate k.code_words (entry_at t number) e) (same (number + 1) within)
            (is.follow number (omega (arith, within, long))));
        stored_most = omega arith;
        under_way = λ less. absurd (omega (arith, less));
        asked_fits = tt;
      }

  -- the epoch of the entry that a table word is of
  epoch_is : (place : Place) → TellsEpoch place → epoch_in (word_at t place) ≡ k.first + number_at t place
  epoch_is Epoch tells = force_epoch t is
  epoch_is (Tary index) tells = tary_epoch_is t is index
  epoch_is (Bary slot) tells = bary_epoch_is t is slot
  epoch_is (Code index) tells = absurd tells
  epoch_is (Quiet guest) tells = absurd tells

  tells_is : (place : Place) → IsPlace k.code_words place → TellsEpoch place → (before : ℕ)
      → before ≤ epoch_in_force t
      → Tells place (word_at t place) before (latest_after place (word_at t place) before)
  tells_is Epoch at tells before most = (most, refl)
  tells_is (Tary index) at tells before most =
      let epoch = tary_epoch t is index at in (omega (arith, most, epoch.0), refl)
  tells_is (Bary slot) at tells before most =
      let epoch = bary_epoch t is slot in (omega (arith, most, epoch.1), refl)
  tells_is (Code index) at tells before most = absurd tells
  tells_is (Quiet guest) at tells before most = absurd tells

  latest_is : (place : Place) → (before : ℕ) → before ≤ epoch_in_force t
      → latest_after place (word_at t place) before ≤ epoch_in_force t
  latest_is Epoch before most = omega arith
  latest_is (Tary index) before most = most
  latest_is (Bary slot) before most = let epoch = bary_epoch t is slot in omega (arith, most, epoch.0)
  latest_is (Code index) before most = most
  latest_is (Quiet guest) before most = most

  -- what a load tells is not less than was known
  latest_least : (place : Place) → (before : ℕ) → before ≤ epoch_in_force t
      → before ≤ latest_after place (word_at t place) before
  latest_least Epoch before most = most
  latest_least (Tary index) before most = omega arith
  latest_least (Bary slot) before most = omega arith
  latest_least (Code index) before most = omega arith
  latest_least (Quiet guest) before most = omega arith

  module _ (place : Place) (at : IsPlace k.code_words place) (tells : TellsEpoch place) (p : PassView)
      (may : MayLoad p place) (r : IsRegistered k u p) where
    abbrev number : ℕ
    number = number_at t place

    abbrev found : ℕ
    found = word_at t place

    abbrev after : PassView
    after = loaded k u place found p

    more : AreMore p.sight.entries u.entries (entries_after p.sight.entries u.entries number) number
    more = are_more p.sight.entries u.entries number r.seen.agrees.begins (number_within t is (is_stored t place))

    word_seen : IsWordOf k (entries_after p.sight.entries u.entries number) place found
    word_seen = record {
      number = number;
      within = more.within;
      is = ap (λ e. entry_word k.versions (k.first + number) e place)
          (prefix_item (entries_after p.sight.entries u.entries number) u.entries number no_entry more.begins
          more.within);
    }

    -- a Tary word is of no earlier epoch than the kept Bary word, and too few epochs lie between for a version to come
    -- again
    fair_by : (b : IsBounded k u p) (index : ℕ) → index < k.code_words → (kept : Option ℕ)
        → ((word : ℕ) → kept ≡ Some word → IsKeptBy p b.floor word)
        → IsFair (history_at k) kept (word_at t (Tary index))
    fair_by b index inside None keeps = tt
    fair_by b index inside (Some word) keeps =
        let kept = keeps word refl in
        let epoch = tary_epoch t is index inside in
        λ same. one_turn (epoch_in word) (epoch_in (word_at t (Tary index))) k.versions
        (omega (arith, kept.most, r.seen.latest, epoch.0)) (omega (arith, kept.least, b.newest, epoch.1)) same

    tary_no_epoch : (index : ℕ) → Tary index ≡ Epoch → ⊥
    tary_no_epoch index e = absurd (cc)

    fair_is : (other : Place) → other ≡ place → IsFairAt k (kept_of k p.sight.accesses) other (word_at t other)
    fair_is Epoch e = tt
    fair_is (Tary index) e = elim may [
      | inl outside ↦
          let b = r.bounded outside in
          fair_by b index (subst (IsPlace k.code_words) (sym e) at) (kept_of k p.sight.accesses) b.kept
      | inr epoch ↦ absurd (tary_no_epoch index (e ∙ epoch))
    ]
    fair_is (Bary slot) e = tt
    fair_is (Code index) e = tt
    fair_is (Quiet guest) e = tt

    pub load_is : IsLoad k place found p after
    unfolding word_seen
    load_is = record {
      guest = refl;
      quiet = refl;
      parked = refl;
      refusals = refl;
      now = load_now k u is place at (tells_store place tells) p.sight r.seen.on after.sight refl refl refl;
      grows = more.grows;
      tables = begins_tables (entries_after p.sight.entries u.entries number) more.begins
          (omega (arith, more.within));
      word = word_seen;
      epoch = epoch_is place tells;
      tells = tells_is place at tells p.sight.latest r.seen.latest;
      fair = fair_is place refl;
    }

    -- the Bary word that is kept then
    keeps_is : (b : IsBounded k u p) (other : Place) → IsPlace k.code_words other → (word : ℕ)
        → kept_at other (kept_of k p.sight.accesses) (word_at t other) ≡ Some word
        → IsKeptBy (loaded k u other (word_at t other) p) b.floor word
    keeps_is b Epoch inside word e = absurd (cc)
    keeps_is b (Tary index) inside word e = let kept = b.kept word e in record { least = kept.least; most = kept.most }
    keeps_is b (Bary slot) inside word e =
        let same : word_at t (Bary slot) ≡ word = same_Some (word_at t (Bary slot)) word e in
        subst (IsKeptBy (loaded k u (Bary slot) (word_at t (Bary slot)) p) b.floor) same (record {
          least = omega (arith, b.stored slot inside, bary_epoch_is t is slot);
          most = omega arith;
        })
    keeps_is b (Code index) inside word e = let kept = b.kept word e in record { least = kept.least; most = kept.most }
    keeps_is b (Quiet guest) inside word e = let kept = b.kept word e in record { least = kept.least; most = kept.most }

    loaded_bounded : IsBounded k u p → IsBounded k u after
    loaded_bounded b = record {
      floor = b.floor;
      published = b.published;
      stored = b.stored;
      kept = λ word e. keeps_is b place at word
          (sym (kept_snoc k p.sight.accesses place found (moment_of t) at (tells_store place tells)) ∙ e);
      newest = b.newest;
      next = b.next;
    }

    pub loaded_registered : IsRegistered k u after
    loaded_registered =
        let grows = latest_least place p.sight.latest r.seen.latest in
        record {
          seen = record {
            agrees = record {
              begins = more.begins;
              refused = r.seen.agrees.refused;
              timed = timed_snoc k u is place at (tells_store place tells) p.sight r.seen.on r.seen.agrees.timed;
              fair = fair_snoc (history_at k) k.code_words None p.sight.accesses
                  (access_of k.code_words place found (moment_of t)) r.seen.agrees.fair
                  (fair_at k (kept_of k p.sight.accesses) place found at (fair_is place refl));
            };
            on = on_snoc k u is place at (tells_store place tells) p.sight r.seen.on after.sight refl refl refl;
            least = omega (arith, grows, r.seen.least);
            latest = latest_is place p.sight.latest r.seen.latest;
            code = λ index inside.
                (let falls = number_falls t place (Code index) (code_first k.code_words index place inside tells) in
                most_by p.sight.entries u.entries number (number_at t (Code index) + 1)
                (nat_lt number (length p.sight.entries)) (r.seen.code index inside) (omega (arith, falls)));
          };
          within = r.within;
          out = r.out;
          published = omega (arith, grows, r.published);
          heard = r.heard;
          bounded = λ outside. loaded_bounded (r.bounded outside);
        }

-- ---- a quiescent point

-- with no Bary word kept, the latest epoch that was seen may be published
pub published_registered : (k : Key) (u : KeeperView) → IsTables (tables_of k u) → (p : PassView) → IsRegistered k u p
    → kept_of k p.sight.accesses ≡ None → IsRegistered k u (published p)
published_registered k u is p r bare = record {
  seen = r.seen;
  within = r.within;
  out = r.out;
  published = omega arith;
  heard = omega (arith, r.heard, r.published);
  bounded = λ outside. bounded_now k u is (published p) r.seen.latest (λ word e. no_word word (sym bare ∙ e));
}
  where
    no_word : (word : ℕ) → None ≡ Some word → ⊥
    no_word word e = absurd (cc)

-- ---- a guest parks

pub parked_registered : (k : Key) (u : KeeperView) (p : PassView) → IsRegistered k u p → IsRegistered k u (parked p)
parked_registered k u p r = record {
  seen = r.seen;
  within = r.within;
  out = r.out;
  published = r.published;
  heard = r.heard;
  bounded = λ outside. absurd (true≢false outside);
}
