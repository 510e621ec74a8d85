-- A keeper after an update.
use Rattle.std.proofs.Common.{◌≡◌, ◌≢◌, ℕ, ◌+◌, ◌<◌, [], ◌∷◌, length, length-append, refl, sym, ap, subst, ◌∙◌, arith}
use Rattle.atomic_table.specs.Seated.{TableId}
use Rattle.cfi_word.specs.declared.limits.TheConstants.{GUESTS, MAX_EPOCH}
use Rattle.cfi_model.specs.declared.history.Entry.{Entry}
use Rattle.cfi_model.specs.Tables.{IsTables, IsUpdate}
use Rattle.cfi_tables.specs.Key.{Key}
use Rattle.cfi_tables.specs.Keeping.{Keeping, grown_by, last_of}
use Rattle.cfi_tables.specs.Views.{idle_tables, idle_view, tables_of, view_at}
use Rattle.cfi_tables.specs.inner.Keepers.{Beside, IsKeeper}
use Rattle.cfi_tables.specs.inner.Steps.{Seated}
use Rattle.cfi_tables.specs.inner.Stores.{IsAt, keeping_at}
use Rattle.cfi_tables.specs.declared.view.Quiets.{Quiets}
use Rattle.cfi_tables.specs.declared.view.View.TheVariants.{Keeper}
use Rattle.cfi_tables.proofs.StoringLemmas.{last_is}
use Rattle.cfi_tables.proofs.TablesLemmas.{grown_is}

-- tables all of whose stores were made
idle_are : (k : Key) (keeping : Keeping) (stored : ℕ) → IsTables (tables_of k (view_at keeping stored))
    → IsTables (idle_tables k keeping)
idle_are k keeping stored is = record {
  size = is.size;
  versions_least = is.versions_least;
  versions_most = is.versions_most;
  some = is.some;
  epochs_fit = is.epochs_fit;
  policies_fit = is.policies_fit;
  closed = is.closed;
  follow = is.follow;
  stored_most = omega arith;
  under_way = λ less. absurd (omega (arith, less));
  asked_fits = tt;
}

-- the tables with one entry more
pub grown_are : (k : Key) (keeping : Keeping) (entry : Entry) (quiets : Quiets) → IsTables (idle_tables k keeping)
    → IsUpdate k.code_words (last_of keeping.entries) entry → k.first + length keeping.entries < MAX_EPOCH + 1
    → IsTables (idle_tables k (grown_by entry quiets keeping))
grown_are k keeping entry quiets is follows left =
    idle_are k (grown_by entry quiets keeping) 0 (grown_is k (idle_view k keeping) is entry refl follows (omega (arith, left)))

module _ (table : TableId) (k : Key) (at : TableId) (id : ℕ) (me : Seated) (a : Beside)
    (is : IsKeeper table k at id me a) (left : a.epoch ≢ MAX_EPOCH) (entry : Entry)
    (follows : IsUpdate k.code_words (last_of (keeping_at me).entries) entry) (quiets : Quiets)
    (quiets_many : length quiets.heard ≡ GUESTS) (found_many : length quiets.found ≡ GUESTS) where
  abbrev all : Keeping
  all = grown_by entry quiets (keeping_at me)

  pub keeper_grows : (passed : Seated) → passed ≡ (Keeper (view_at all 0), [])
      → (at' : TableId) (id' : ℕ) (me' : Seated)
      → IsAt table at' id' me' (idle_view k (keeping_at passed))
      → IsKeeper table k at' id' me' (record a { epoch = a.epoch + 1; policy = entry.policy })
  keeper_grows passed passed_is at' id' me' seat =
      let kept : keeping_at passed ≡ all = ap keeping_at passed_is in
      let same : all ≡ keeping_at me' = sym kept ∙ ap keeping_at (sym seat.me_is) in
      let long = length-append (keeping_at me).entries (entry ∷ []) in
      record {
        seat = subst (λ z. IsAt table at' id' me' (idle_view k z)) (kept ∙ same) seat;
        layout_is = is.layout_is;
        versions_is = is.versions_is;
        epoch_is = subst (λ (z : Keeping). a.epoch + 1 + 1 ≡ k.first + length z.entries) same
            (omega (arith, is.epoch_is, long));
        policy_is = sym (ap (λ e. e.policy) (last_is k (keeping_at me) entry quiets is.tables.some))
            ∙ ap (λ (z : Keeping). (last_of z.entries).policy) same;
        tables = subst (λ z. IsTables (idle_tables k z)) same
            (grown_are k (keeping_at me) entry quiets is.tables follows
            (omega (arith, is.epoch_is, left, is.tables.epochs_fit)));
        out_is = is.out_is ∙ ap (λ (z : Keeping). z.out) same;
        out_many = subst (λ (z : Keeping). length z.out ≡ GUESTS) same is.out_many;
        quiets_many = subst (λ (z : Keeping). length z.quiets.heard ≡ GUESTS) same quiets_many;
        found_many = subst (λ (z : Keeping). length z.quiets.found ≡ GUESTS) same found_many;
      }
