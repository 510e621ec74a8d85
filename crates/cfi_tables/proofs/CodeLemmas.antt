-- Code words: a guest's fetch, the keeper's look at one, and stores that are skipped.
use Rattle.std.proofs.Common.{◌≡◌, inl, inr, ℕ, ◌+◌, ◌<◌, ◌≤◌, ◌^◌, [], ◌∷◌, ◌++◌, length, slice_index, slice_set, None, refl, sym, ap, subst, ◌∙◌, arith}
use Rattle.std.proofs.lemmas.Bool.{cases_lt}
use Rattle.std.proofs.lemmas.List.{set-get_or}
use mathlib.Core.Option.{none}
use Rattle.atomic_table.specs.Table.{Allows, keeps, step}
use Rattle.cfi_word.specs.Table.{Place, Epoch, Quiet, Code, Tary, Bary, IsPlace, code_word, word_number}
use Rattle.cfi_model.specs.TableMoments.{moment_of}
use Rattle.cfi_model.specs.Tables.{IsTables}
use Rattle.cfi_model.specs.Words.{Tables, before, is_stored, newest, no_entry, number_at, rank_at, word_at, word_of_entry}
use Rattle.cfi_model.proofs.InForceLemmas.{later_keeps}
use Rattle.cfi_model.proofs.TableLemmas.{number_within}
use Rattle.cfi_tables.specs.Fair.{history_at, kept_of}
use Rattle.cfi_tables.specs.Key.{Key}
use Rattle.cfi_tables.specs.Keeping.{last_of}
use Rattle.cfi_tables.specs.Loads.{IsFetch, access_of}
use Rattle.cfi_tables.specs.Rule.{CodeFits, HeldFits, IsBounded, KeepsRule, IsRegistered, ShowQuiets, ShowTables}
use Rattle.cfi_model.specs.Words.{HasStore}
use Rattle.cfi_tables.specs.Views.{keeper_of, pass_of, tables_of}
use Rattle.cfi_tables.specs.inner.Steps.{Fetches, Looks, Seated}
use Rattle.cfi_tables.specs.inner.Stores.{HasStoredBelow}
use Rattle.cfi_tables.specs.declared.view.KeeperView.{KeeperView}
use Rattle.cfi_tables.specs.declared.view.PassView.{PassView}
use Rattle.cfi_tables.specs.declared.view.View.TheVariants.{Keeper, Pass}
use Rattle.cfi_tables.proofs.FairLemmas.{fair_at, fair_snoc, kept_snoc}
use Rattle.cfi_tables.proofs.KeptLemmas.{IsOut, pass_goes}
use Rattle.cfi_model.proofs.PhaseLemmas.{same_place}
use Rattle.cfi_tables.proofs.Prefixes.{prefix_item}
use Rattle.cfi_tables.proofs.NowLemmas.{load_now, on_snoc, timed_snoc}
use Rattle.cfi_tables.proofs.ShowLemmas.{word_old}
use Rattle.cfi_tables.proofs.StepLemmas.{keeper_moves, words_stay}

-- ---- a fetch

module _ (k : Key) (u : KeeperView) (is : IsTables (tables_of k u)) (index : ℕ) (inside : index < k.code_words)
    (p : PassView) (r : IsRegistered k u p) where
  abbrev t : Tables
  t = tables_of k u

  abbrev found : ℕ
  found = word_at t (Code index)

  abbrev fetched : PassView
  fetched = record p {
    sight = record p.sight {
      accesses = p.sight.accesses ++ access_of k.code_words (Code index) found (moment_of t) ∷ [];
      had = u.entries;
      stored = u.stored;
    };
  }

  fetched_bounded : IsBounded k u p → IsBounded k u fetched
  fetched_bounded b = record {
    floor = b.floor;
    published = b.published;
    stored = b.stored;
    kept = λ word e.
        (let kept = b.kept word (sym (kept_snoc k p.sight.accesses (Code index) found (moment_of t) inside tt) ∙ e) in
        record { least = kept.least; most = kept.most });
    newest = b.newest;
    next = b.next;
  }

  fetched_registered : IsRegistered k u fetched
  fetched_registered = record {
    seen = record {
      agrees = record {
        begins = r.seen.agrees.begins;
        refused = r.seen.agrees.refused;
        timed = timed_snoc k u is (Code index) inside tt p.sight r.seen.on r.seen.agrees.timed;
        fair = fair_snoc (history_at k) k.code_words None p.sight.accesses
            (access_of k.code_words (Code index) found (moment_of t)) r.seen.agrees.fair
            (fair_at k (kept_of k p.sight.accesses) (Code index) found inside tt);
      };
      on = on_snoc k u is (Code index) inside tt p.sight r.seen.on fetched.sight refl refl refl;
      least = r.seen.least;
      latest = r.seen.latest;
      code = r.seen.code;
    };
    within = r.within;
    out = r.out;
    published = r.published;
    heard = r.heard;
    bounded = λ outside. fetched_bounded (r.bounded outside);
  }

  -- of the entries that were seen all code is stored, and later ones keep it
  fetch_is : IsFetch k index found p fetched
  fetch_is = record {
    is = refl;
    now = load_now k u is (Code index) inside tt p.sight r.seen.on fetched.sight refl refl refl;
    code = λ number less some.
        (let same = prefix_item p.sight.entries u.entries number no_entry r.seen.agrees.begins less in
        let up : number ≤ number_at t (Code index) = omega (arith, less, r.seen.code index inside) in
        let keeps = later_keeps t is number (number_at t (Code index)) up
        (number_within t is (is_stored t (Code index))) index in
        keeps (λ zeroth. some (sym (ap (λ e. slice_index e.image.code index) same) ∙ zeroth))
        ∙ ap (λ e. slice_index e.image.code index) same);
  }

fetch_moves : (k : Key) (slots id i : ℕ) (p : PassView) (index : ℕ) → index < k.code_words → i ≡ code_word index
    → Allows (KeepsRule k) slots id (Pass p, []) i (λ n. n) (Fetches k (step slots i 0 0 none) (Pass p, []))
fetch_moves k slots id i p index inside word_is s r _ there _ =
    let u : KeeperView = r.keeper in
    let here : slice_index s.words i ≡ word_at (tables_of k u) (Code index) =
    ap (slice_index s.words) word_is ∙ r.shows (Code index) inside tt in
    let registered = r.seats id (Pass p) there in
    let new : PassView = fetched k u r.tables index inside p registered in (
      Pass new,
      keeps,
      tt,
      words_stay k s (slice_set s.views id (Pass new)) i
          (pass_goes k s r id p s.words new there (record {
            guest = refl;
            registered = fetched_registered k u r.tables index inside p registered;
            many = r.many;
            shows = r.shows;
            quiets = r.quiets;
            code = r.code;
            published = r.published id p there;
            others = λ guest few apart. refl;
          })),
      record {
        same = refl;
        small = subst (λ n. slice_index s.words n < 2 ^ 32) (sym word_is) (r.code index inside);
        fetch = λ other within word.
            (let same : index ≡ other = omega (arith, word, word_is) in
            subst (λ n. IsFetch k n (slice_index s.words i) p new) same
            (subst (λ n. IsFetch k index n p new) (sym here) (fetch_is k u r.tables index inside p registered)));
      },
    )

pub fetch_allowed : (k key : Key) (slots id i : ℕ) (me : Seated) → key ≡ k → me ≡ (Pass (pass_of me.0), [])
    → (index : ℕ) → index < k.code_words → i ≡ code_word index
    → Allows (KeepsRule key) slots id me i (λ n. n) (Fetches k (step slots i 0 0 none) me)
fetch_allowed k key slots id i me same is index inside word_is =
    subst (λ (z : Key × Seated). Allows (KeepsRule z.0) slots id z.1 i (λ n. n) (Fetches k (step slots i 0 0 none) z.1))
    (λ j. (sym same j, sym is j)) (fetch_moves k slots id i (pass_of me.0) index inside word_is)

-- ---- the keeper's look

pub look_allowed : (k key : Key) (slots id i : ℕ) (me : Seated) (u : KeeperView) → key ≡ k → id ≡ 0
    → me ≡ (Keeper u, [])
    → (place : Place) → IsPlace k.code_words place → HasStore place → i ≡ word_number k.code_words place
    → Allows (KeepsRule key) slots id me i (λ n. n) (Looks k (step slots i 0 0 none) me)
look_allowed k key slots id i me u same zeroth is place at has word_is =
    keeper_moves k key slots id i (λ n. n) me u (Looks k (step slots i 0 0 none) me) same zeroth is
    (λ s r e. (
      r.keeper,
      record {
        tables = r.tables;
        many = ap length (set-get_or s.words i 0) ∙ r.many;
        shows = subst (λ l. ShowTables k l r.keeper) (sym (set-get_or s.words i 0)) r.shows;
        quiets = subst (λ l. ShowQuiets k l r.keeper) (sym (set-get_or s.words i 0)) r.quiets;
        code = subst (CodeFits k) (sym (set-get_or s.words i 0)) r.code;
        held = subst (λ l. HeldFits k l r.keeper r.keeper.held) (sym (set-get_or s.words i 0)) r.held;
        each = λ p o. subst (λ l. IsOut k l r.keeper p) (sym (set-get_or s.words i 0)) o;
      },
      record {
        same = ap (λ v. (Keeper v, [])) e ∙ sym is;
        is = λ other inside stored word.
            (let one : place ≡ other = same_place k.code_words place other at inside (sym (word ∙ word_is)) in
            subst (λ (z : Place × Seated). slice_index s.words i ≡ word_at (tables_of k (keeper_of z.1.0)) z.0)
            (λ j. (one j, (ap (λ v. (Keeper v, [])) e ∙ sym is) j))
            (ap (slice_index s.words) word_is ∙ r.shows place at has));
      },
    ))

-- ---- a store that is skipped

-- where the word is there already, the next code word's store is reached
pub skip_reached : (k : Key) (u : KeeperView) (index : ℕ) → index < k.code_words → HasStoredBelow k u index
    → slice_index (last_of u.entries).image.code index ≡ word_at (tables_of k u) (Code index)
    → HasStoredBelow k u (index + 1)
skip_reached k u index inside reaches same = record {
  same = reaches.same;
  least = omega (arith, reaches.least);
  skipped = λ other at has least early. elim (cases_lt (rank_at k.code_words other) index) [
    | inl less ↦ reaches.skipped other at has least less
    | inr most ↦ here other has (omega (arith, early, most))
  ];
}
  where
    here : (other : Place) → HasStore other → rank_at k.code_words other ≡ index
        → word_of_entry (tables_of k u) (newest (tables_of k u)) other
        ≡ word_of_entry (tables_of k u) (before (tables_of k u)) other
    here (Code other) has e =
        ap (slice_index (last_of u.entries).image.code) e
        ∙ (same ∙ (word_old (tables_of k u) (Code index) reaches.least
        ∙ ap (λ n. word_of_entry (tables_of k u) (before (tables_of k u)) (Code n)) (sym e)))
    here (Tary other) has e = absurd (omega (arith, e, inside))
    here Epoch has e = absurd (omega (arith, e, inside))
    here (Bary slot) has e = absurd (omega (arith, e, inside))
    here (Quiet guest) has e = absurd has
