-- The moment of a load.
use Rattle.std.proofs.Common.{◌≡◌, ℕ, ◌≤◌, List, [], ◌∷◌, ◌++◌, length, take, take_all, take_at, refl, sym, ap, subst, ◌∙◌, arith}
use mathlib.Core.List.{IsPrefix}
use Rattle.std.proofs.lemmas.List.{take-take}
use Rattle.cfi_word.specs.Table.{Place, IsPlace}
use Rattle.cfi_model.specs.declared.history.Access.{Access}
use Rattle.cfi_model.specs.declared.history.Entry.{Entry}
use Rattle.cfi_model.specs.declared.history.Moment.{Moment}
use Rattle.cfi_model.specs.TableMoments.{AreTimed, IsBy, IsTimed, moment_of}
use Rattle.cfi_model.specs.Tables.{IsTables}
use Rattle.cfi_model.specs.Words.{HasStore, Tables, word_at}
use Rattle.cfi_model.proofs.TableMomentLemmas.{by_same, by_trans, order_snoc}
use Rattle.cfi_tables.specs.Key.{Key}
use Rattle.cfi_tables.specs.Keeping.{no_quiets}
use Rattle.cfi_tables.specs.Loads.{IsLoadNow, access_of}
use Rattle.cfi_tables.specs.Rule.{GoesOnTo}
use Rattle.cfi_tables.specs.Views.{last_moment, tables_of, tables_with, view_at}
use Rattle.cfi_tables.specs.declared.view.KeeperView.{KeeperView}
use Rattle.cfi_tables.specs.declared.view.Sight.{Sight}
use Rattle.cfi_tables.proofs.MoreLemmas.{each_snoc}
use Rattle.cfi_tables.proofs.Prefixes.{prefix_length, prefix_same}

-- the tables of these entries, after so many stores
abbrev at_stores : Key → (stored : ℕ) → List Entry → Tables
at_stores k stored entries =
    tables_of k (view_at (record { entries = entries; refusals = []; out = []; quiets = no_quiets }) stored)

-- ---- loads stay what they were while entries come

prefix_take_same : (xs ys : List Entry) (n : ℕ) → IsPrefix xs ys → n ≤ length xs → take n xs ≡ take n ys
prefix_take_same xs ys n begins within =
    ap (take n) (sym (take_at xs begins.0 (length xs) refl))
    ∙ take-take n (length xs) (xs ++ begins.0) within
    ∙ ap (take n) begins.1

pub timed_more : (k : Key) (xs ys : List Entry) → IsPrefix xs ys → (access : Access) → IsTimed (tables_with k xs) access
    → IsTimed (tables_with k ys) access
timed_more k xs ys begins access was =
    let long = prefix_length xs ys begins in
    let same = prefix_take_same xs ys access.moment.entries begins was.moment.within in
    record {
      place = was.place;
      within = was.within;
      stored = was.stored;
      word = was.word;
      moment = record {
        within = omega (arith, was.moment.within, long);
        tables = subst (λ (es : List Entry). IsTables (at_stores k access.moment.stored es)) same was.moment.tables;
      };
      found = was.found
          ∙ ap (λ (es : List Entry). word_at (at_stores k access.moment.stored es) was.place) same;
    }

pub all_timed_more : (k : Key) (xs ys : List Entry) → IsPrefix xs ys → (accesses : List Access)
    → AreTimed (tables_with k xs) accesses → AreTimed (tables_with k ys) accesses
all_timed_more k xs ys begins accesses were = record {
  each = λ number access is. timed_more k xs ys begins access (were.each number access is);
  order = were.order;
}

-- ---- one load more

module _ (k : Key) (u : KeeperView) (is : IsTables (tables_of k u)) (place : Place) (at : IsPlace k.code_words place)
    (has : HasStore place) (sight : Sight) (on : GoesOnTo k u sight) where
  abbrev found : ℕ
  found = word_at (tables_of k u) place

  abbrev now : Moment
  now = moment_of (tables_of k u)

  abbrev access : Access
  access = access_of k.code_words place found now

  -- the tables as they are
  now_tables : IsTables (at_stores k u.stored u.entries)
  now_tables = record {
    size = is.size;
    versions_least = is.versions_least;
    versions_most = is.versions_most;
    some = is.some;
    epochs_fit = is.epochs_fit;
    policies_fit = is.policies_fit;
    closed = is.closed;
    follow = is.follow;
    stored_most = is.stored_most;
    under_way = is.under_way;
    asked_fits = tt;
  }

  pub load_now : (new : Sight) → new.had ≡ u.entries → new.stored ≡ u.stored → new.accesses ≡ sight.accesses ++ access ∷ []
      → IsLoadNow k place found sight new
  load_now new had stored accesses =
      let same : (u.entries, u.stored) ≡ (new.had, new.stored) = λ i. (sym had i, sym stored i) in
      subst (λ (z : List Entry × ℕ). IsLoadNow k place found sight (record new { had = z.0; stored = z.1 })) same (record {
        had = on.had;
        order = on.now;
        tables = now_tables;
        is = refl;
        accesses = accesses;
      })

  whole : u.entries ≡ take (length u.entries) u.entries
  whole = sym (take_all (length u.entries) u.entries (omega arith))

  timed : IsTimed (tables_with k u.entries) access
  timed = record {
    place = place;
    within = at;
    stored = has;
    word = refl;
    moment = record {
      within = omega arith;
      tables = subst (λ (es : List Entry). IsTables (at_stores k u.stored es)) whole now_tables;
    };
    found = ap (λ (es : List Entry). word_at (at_stores k u.stored es) place) whole;
  }

  pub timed_snoc : AreTimed (tables_with k u.entries) sight.accesses
      → AreTimed (tables_with k u.entries) (sight.accesses ++ access ∷ [])
  timed_snoc were = record {
    each = each_snoc (IsTimed (tables_with k u.entries)) sight.accesses access were.each timed;
    order = order_snoc sight.accesses access were.order
        (λ number a there. by_trans a.moment (last_moment k sight) now (on.loads number a there) on.now);
  }

  pub on_snoc : (new : Sight) → new.had ≡ u.entries → new.stored ≡ u.stored → new.accesses ≡ sight.accesses ++ access ∷ []
      → GoesOnTo k u new
  on_snoc new had stored accesses =
      let all = each_snoc (λ (a : Access). IsBy a.moment now) sight.accesses access
      (λ number a there. by_trans a.moment (last_moment k sight) now (on.loads number a there) on.now) (by_same now) in
      subst (λ (z : (List Entry × ℕ) × List Access).
      GoesOnTo k u (record new { had = z.0.0; stored = z.0.1; accesses = z.1 }))
      (λ i. ((sym had i, sym stored i), sym accesses i)) (record {
        had = prefix_same u.entries;
        now = by_same now;
        loads = all;
      })
