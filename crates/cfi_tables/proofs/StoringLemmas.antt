-- The stores of an update, one after the other.
use Rattle.std.proofs.Common.{◌≡◌, ℕ, ◌+◌, ◌-◌, ◌<◌, ◌≤◌, [], ◌∷◌, length, length-append, slice_index, slice_index_or, refl, sym, ap, subst, ◌∙◌, arith}
use Rattle.std.proofs.lemmas.List.{get_or_push, get_or_append_left}
use mathlib.Core.Option.{none}
use Rattle.atomic_table.specs.Table.{Allows, step}
use Rattle.cfi_word.specs.Rank.{rank, stores_of}
use Rattle.cfi_word.specs.Table.{Place, Epoch, Quiet, Code, Tary, Bary, IsPlace, word_number}
use Rattle.cfi_model.specs.declared.history.Entry.{Entry}
use Rattle.cfi_model.specs.Words.{newest, no_entry, rank_at, word_of_entry}
use Rattle.cfi_tables.specs.Key.{Key}
use Rattle.cfi_tables.specs.Keeping.{Keeping, grown_by, last_of}
use Rattle.cfi_tables.specs.Rule.{KeepsRule}
use Rattle.cfi_model.specs.Words.{HasStore}
use Rattle.cfi_tables.specs.Views.{idle_view, keeper_of, keeping_of, tables_of, view_at}
use Rattle.cfi_tables.specs.inner.Steps.{Seated, Stores, stored_to}
use Rattle.cfi_tables.specs.inner.Stores.{HasStoredBelow, keeping_at}
use Rattle.cfi_tables.specs.declared.view.KeeperView.{KeeperView}
use Rattle.cfi_tables.specs.declared.view.Quiets.{Quiets}
use Rattle.cfi_tables.specs.declared.view.View.TheVariants.{Keeper}
use Rattle.cfi_tables.proofs.PlaceLemmas.{rank_is}
use Rattle.cfi_tables.proofs.StepLemmas.{store_allowed, FitsCode}

-- the view after a store
pub record HasGone (k : Key) (u : KeeperView) (new : Seated) (after : ℕ) : Type 0 where
  pub me_is : new ≡ (Keeper (keeper_of new.0), [])
  pub reaches : HasStoredBelow k (keeper_of new.0) after
  pub stored : (keeper_of new.0).stored ≡ after
  pub same : keeping_at new ≡ keeping_of u

module _ (k : Key) (u : KeeperView) (place : Place) (at : IsPlace k.code_words place) (has : HasStore place)
    (n : ℕ) (next : n ≡ rank_at k.code_words place) (reached : HasStoredBelow k u n) where
  -- the word that comes next may be stored
  pub next_allowed : (key : Key) (slots id i word : ℕ) (me : Seated) → key ≡ k → id ≡ 0
      → me ≡ (Keeper u, []) → i ≡ word_number k.code_words place
      → word ≡ word_of_entry (tables_of k u) (newest (tables_of k u)) place → FitsCode place word
      → Allows (KeepsRule key) slots id me i (λ _. word) (λ _. Stores k (step slots i word 0 none) me word)
  next_allowed key slots id i word me same zeroth is word_is new small =
      store_allowed k key slots id i word me u same zeroth is (ap (λ v. v.asked) reached.same)
      (ap (λ v. v.held) reached.same) place at has word_is (omega (arith, next, reached.least))
      (λ other inside stored least early. reached.skipped other inside stored least (omega (arith, next, early))) new
      small

  pub next_view : (after : ℕ) → after ≡ n + 1 → (i : ℕ) (me new : Seated)
      → me ≡ (Keeper u, []) → i ≡ word_number k.code_words place
      → new ≡ (Keeper (stored_to (rank k.code_words i) (keeper_of me.0)), me.1)
      → HasGone k u new after
  next_view after one_more i me new is word_is goes =
      let number : rank k.code_words i ≡ n =
      ap (rank k.code_words) word_is ∙ (rank_is k.code_words place at has ∙ sym next) in
      let new_is : new ≡ (Keeper (stored_to n u), []) =
      goes ∙ (ap (λ (z : Seated). (Keeper (stored_to (rank k.code_words i) (keeper_of z.0)), z.1)) is
      ∙ ap (λ m. (Keeper (stored_to m u), [])) number) in
      let view : keeper_of new.0 ≡ stored_to n u = ap (λ (z : Seated). keeper_of z.0) new_is in
      let stored : (keeper_of new.0).stored ≡ after = ap (λ v. v.stored) view ∙ sym one_more in
      record {
        me_is = new_is ∙ ap (λ v. (Keeper v, [])) (sym view);
        reaches = subst (λ v. HasStoredBelow k v after) (sym view) (record {
          same = ap (stored_to n) reached.same;
          least = omega (arith, one_more);
          skipped = λ other inside has_store least early. absurd (omega (arith, one_more, least, early));
        });
        stored = stored;
        same = ap keeping_of view;
      }

-- ---- from the test to the stores

module _ (k : Key) (keeping : Keeping) (entry : Entry) (quiets : Quiets) (some : 1 ≤ length keeping.entries) where
  abbrev grown : Keeping
  grown = grown_by entry quiets keeping

  pub longer : length grown.entries ≡ length keeping.entries + 1
  longer = length-append keeping.entries (entry ∷ [])

  -- the last entry, and the one before
  pub last_is : last_of grown.entries ≡ entry
  last_is = ap (λ n. slice_index_or grown.entries n no_entry) (omega (arith, longer))
      ∙ get_or_push keeping.entries entry no_entry (length keeping.entries) refl

  before_is : slice_index_or grown.entries (length grown.entries - 2) no_entry ≡ last_of keeping.entries
  before_is = ap (λ n. slice_index_or grown.entries n no_entry) (omega (arith, longer, some))
      ∙ get_or_append_left keeping.entries (entry ∷ []) no_entry (length keeping.entries - 1) (omega arith)

  -- where the code is the one in force, its stores are skipped
  pub code_reached : entry.image.code ≡ (last_of keeping.entries).image.code
      → HasStoredBelow k (view_at grown 0) k.code_words
  code_reached same = record { same = refl; least = omega arith; skipped = skips }
    where
      skips : (other : Place) → IsPlace k.code_words other → HasStore other → 0 ≤ rank_at k.code_words other
          → rank_at k.code_words other < k.code_words
          → word_of_entry (tables_of k (view_at grown 0)) (newest (tables_of k (view_at grown 0))) other
          ≡ word_of_entry (tables_of k (view_at grown 0)) (length grown.entries - 2) other
      skips (Code index) inside stored least early =
          ap (λ e. slice_index e.image.code index) last_is
          ∙ (ap (λ l. slice_index l index) same ∙ sym (ap (λ e. slice_index e.image.code index) before_is))
      skips (Tary index) inside stored least early = absurd (omega (arith, early))
      skips Epoch inside stored least early = absurd (omega (arith, early))
      skips (Bary slot) inside stored least early = absurd (omega (arith, early))
      skips (Quiet guest) inside stored least early = absurd stored

-- all stores were made
pub idle_reached : (k : Key) (u : KeeperView) (n : ℕ) (keeping : Keeping) → HasStoredBelow k u n
    → u.stored ≡ stores_of k.code_words → keeping_of u ≡ keeping → u ≡ idle_view k keeping
idle_reached k u n keeping reaches all same =
    reaches.same ∙ (ap (view_at (keeping_of u)) all ∙ ap (idle_view k) same)
