-- Tables as they are kept, after the steps of an update.
use Rattle.std.proofs.Common.{◌≡◌, ℕ, ◌+◌, ◌<◌, ◌≤◌, List, [], ◌∷◌, ◌++◌, Option, Some, None, sym, ap, subst, arith}
use Rattle.cfi_word.specs.declared.lists.Image.{Image}
use Rattle.cfi_word.specs.Rank.{stores_of}
use Rattle.cfi_model.specs.declared.history.Entry.{Entry}
use Rattle.cfi_model.specs.Tables.{IsTables, IsAsked, MayBeAsked}
use Rattle.cfi_model.specs.Words.{Tables}
use Rattle.cfi_world.specs.Updates.{next_store}
use Rattle.cfi_world.specs.declared.tables.Tables.TheInside.{Inside}
use Rattle.cfi_world.specs.inner.Entries.{asked_by, entries_by, update_by}
use Rattle.cfi_world.specs.inner.Held.{AreHeldTables, tables_by}
use Rattle.cfi_world.proofs.StoreLemmas.{next_most, pushed_are, stored_are}

-- a store was made
pub stored_held : (t : Tables) → IsTables t → t.asked ≡ None → t.stored < stores_of t.code_words → (s : ℕ)
    → s ≡ next_store t (t.stored + 1) → IsTables (record t { stored = s })
stored_held t is none more s e =
    stored_are t is s none
    (subst (λ n. n ≤ stores_of t.code_words) (sym e) (next_most t is (t.stored + 1) (omega (arith, more))))
    (λ below. is.under_way more)

module _ (a : Inside) (held : AreHeldTables a) (image : Option Image) (asks : a.asked ≡ Some image) where
  abbrev entry : Entry
  entry = update_by a.images.items a.policies.items image

  pub asked_now : IsAsked (tables_by a) (update_by a.images.items a.policies.items image)
  asked_now =
      subst (λ o. MayBeAsked (tables_by a) (asked_by a.images.items a.policies.items o)) asks held.tables.asked_fits

  abbrev with_entries : List Entry → Option Entry → (s : ℕ) → Tables
  with_entries entries asked s =
      record (tables_by a) { entries = entries; stored = s; asked = asked; tested = 0 }

  module _ (images : List Image) (policies : List ℕ) (none : Option (Option Image)) (is_none : none ≡ None)
      (more : entries_by images policies
      ≡ entries_by a.images.items a.policies.items ++ update_by a.images.items a.policies.items image ∷ []) where
    to : (s : ℕ)
        → IsTables (with_entries
        (entries_by a.images.items a.policies.items ++ update_by a.images.items a.policies.items image ∷ []) None s)
        → IsTables (with_entries (entries_by images policies) (asked_by images policies none) s)
    to s is =
        subst (λ o. IsTables (with_entries (entries_by images policies) (asked_by images policies o) s)) (sym is_none)
        (subst (λ es. IsTables (with_entries es None s)) (sym more) is)

    pub started : IsTables
        (record (tables_by a) {
          entries = entries_by images policies;
          stored = 0;
          asked = asked_by images policies none;
          tested = 0;
        })
    started = to 0 (pushed_are (tables_by a) held.tables entry asked_now)

    pub started_at : (s : ℕ)
        → s ≡ next_store
        (record (tables_by a) {
          entries = entries_by images policies;
          stored = 0;
          asked = asked_by images policies none;
          tested = 0;
        }) 0
        → IsTables
        (record (tables_by a) {
          entries = entries_by images policies;
          stored = s;
          asked = asked_by images policies none;
          tested = 0;
        })
    started_at s e =
        let now = started in
        stored_are _ now s (ap (asked_by images policies) is_none)
        (subst (λ n. n ≤ stores_of a.layout) (sym e) (next_most _ now 0 (omega arith)))
        (λ below. now.under_way (omega arith))
