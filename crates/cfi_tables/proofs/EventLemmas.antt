-- Which event each kind of step is.
use Rattle.std.proofs.Common.{◌≡◌, ℕ, ◌+◌, ◌-◌, ◌<◌, Bool, true, false, List, [], slice_index, slice_set, Some, refl, sym, ap, subst, ◌∙◌, arith}
use Rattle.std.proofs.lemmas.List.{get_or-set_same}
use mathlib.Core.Option.{some, none}
use lib.ListN.{get_elem?}
use Rattle.atomic_table.specs.Table.{carried_after, step, stepped}
use Rattle.cfi_word.specs.declared.limits.TheConstants.{GUESTS}
use Rattle.cfi_word.specs.Table.{Place, IsPlace, quiet_word, word_count, word_number}
use Rattle.cfi_word.specs.Table as places
use Rattle.cfi_word.specs.Word.{epoch_in}
use Rattle.cfi_model.specs.declared.quiet.TheConstants.{PARKED}
use Rattle.cfi_model.specs.SharedEvents.{Past, Shared, SharedEvent, AreSame, Makes, MakesPass, MakesRefusal, IsSet, newest_word, past_passed}
use Rattle.cfi_model.specs.SharedEvents as events
use Rattle.cfi_model.specs.Words.{HasStore, rank_at, word_at}
use Rattle.cfi_tables.specs.Events.{TableState, IsSeatStep, LoadsCome, ParksCome, MakesParkBy, MakesPublishBy, Relates, past_of, shared_of}
use Rattle.cfi_tables.specs.Key.{Key}
use Rattle.cfi_tables.specs.Rule.{HeldFits, IsHeldOut, IsRegistered, ShowTables}
use Rattle.cfi_tables.specs.Views.{parked, tables_of, word_of_pass}
use Rattle.cfi_tables.specs.inner.Steps.{Seated, Clears, Looks, Registers, Stores, Tells, cleared, published, registered, stored_to, told}
use Rattle.cfi_tables.specs.declared.view.KeeperView.{KeeperView}
use Rattle.cfi_tables.specs.declared.view.PassView.{PassView}
use Rattle.cfi_tables.specs.declared.view.View.TheVariants.{Keeper, Pass}
use Rattle.cfi_tables.proofs.PassLemmas.{load_allowed, park_allowed}
use Rattle.cfi_tables.proofs.QuietLemmas.{quiet_small, word_inside, word_outside, word_some}
use Rattle.cfi_tables.proofs.PlaceLemmas.{place_within, rank_is}
use Rattle.cfi_tables.proofs.ShowLemmas.{word_new, word_old}
use Rattle.cfi_tables.proofs.RelateLemmas.{keeper_is, keeper_relates, keeper_stays, keeper_was, nothing_set, one_set, related_by, there_now, words_are}

-- ---- steps of a pass

pub load_event : (k : Key) (seat : ℕ) (p : PassView) (new : Seated) (s t : TableState) (place : Place)
    (one : IsSeatStep k seat (word_number k.code_words place) (slice_index s.words (word_number k.code_words place))
    (Pass p, []) new s t)
    → Relates (Makes (events.Load place (slice_index s.words (word_number k.code_words place)))) k s t one.before
    one.after
load_event k seat p new s t place one =
    let number : ℕ = word_number k.code_words place in
    let found : ℕ = slice_index s.words number in
    let u : KeeperView = one.before.keeper in
    related_by k seat number found (Pass p, []) new s t one (Makes (events.Load place found)) u u refl
    (keeper_stays k seat number found (Pass p, []) new s t one p refl)
    (record { is = refl; same = nothing_set k s.words u u number refl })

-- a store of a pass in its guest's QUIET word, by what the pass is then
module _ (k : Key) (seat word : ℕ) (p q : PassView) (same : q.guest ≡ p.guest) (new : Seated) (s t : TableState)
    (one : IsSeatStep k seat (quiet_word p.guest) word (Pass p, []) new s t) (goes : new ≡ (Pass q, [])) where
  abbrev number : ℕ
  number = quiet_word p.guest

  abbrev u : KeeperView
  u = one.before.keeper

  abbrev r : IsRegistered k u p
  r = one.before.seats seat (Pass p) one.there

  word_is : word ≡ word_of_pass q
  word_is =
      let inside = place_within k.code_words (places.Quiet p.guest) r.within in
      let there : get_elem? t.views seat ≡ some (Pass q) =
      there_now k seat number word (Pass p, []) new s t one ∙ ap (λ (z : Seated). some z.0) goes in
      let now = one.after.published seat q there in
      sym (get_or-set_same s.words number word 0 (omega (arith, one.before.many, inside)))
      ∙ (ap (λ (l : List ℕ). slice_index l number) (sym (words_are k seat number word (Pass p, []) new s t one))
      ∙ (ap (λ (g : ℕ). slice_index t.words (quiet_word g)) (sym same) ∙ now))

  set_is : (n : ℕ) → word_of_pass q ≡ n
      → IsSet (places.Quiet p.guest) n (shared_of k s.words u) (shared_of k (slice_set s.words number word) u)
  set_is n is = subst (λ (n : ℕ). IsSet (places.Quiet p.guest) n (shared_of k s.words u)
      (shared_of k (slice_set s.words number word) u)) (word_is ∙ is)
      (one_set k s.words u u (places.Quiet p.guest) word refl one.before.many r.within)

  relates_by : (related : Shared → Shared → Type 0)
      → related (shared_of k s.words u) (shared_of k (slice_set s.words number word) u)
      → Relates related k s t one.before one.after
  relates_by related = related_by k seat number word (Pass p, []) new s t one related u u refl
      (keeper_stays k seat number word (Pass p, []) new s t one p refl)

pub park_event : (k : Key) (seat word : ℕ) (p : PassView) (new : Seated) (s t : TableState)
    (one : IsSeatStep k seat (quiet_word p.guest) word (Pass p, []) new s t) → new ≡ (Pass (parked p), [])
    → Relates (MakesParkBy p.parked p.guest) k s t one.before one.after
park_event k seat word p new s t one goes = by p.parked refl
  where
    was : slice_index s.words (quiet_word p.guest) ≡ word_of_pass p
    was = one.before.published seat p one.there

    by : (is : Bool) → p.parked ≡ is
        → Relates (MakesParkBy is p.guest) k s t one.before one.after
    by true inside =
        let same : word ≡ slice_index s.words (quiet_word p.guest) =
        word_is k seat word p (parked p) refl new s t one goes ∙ sym (was ∙ word_inside p inside) in
        relates_by k seat word p (parked p) refl new s t one goes AreSame
        (subst (λ (n : ℕ). AreSame (shared_of k s.words one.before.keeper)
        (shared_of k (slice_set s.words (quiet_word p.guest) n) one.before.keeper)) (sym same)
        (nothing_set k s.words one.before.keeper one.before.keeper (quiet_word p.guest) refl))
    by false outside =
        let is = was ∙ word_outside p outside in
        let small = quiet_small k one.before.keeper one.before.tables p (one.before.seats seat (Pass p) one.there) in
        relates_by k seat word p (parked p) refl new s t one goes (Makes (events.Park p.guest)) (record {
          registered = λ e. absurd (omega (arith, e, is));
          outside = λ e. absurd (omega (arith, e, is, small));
          set = set_is k seat word p (parked p) refl new s t one goes PARKED refl;
        })

pub publish_event : (k : Key) (seat word : ℕ) (p : PassView) (new : Seated) (s t : TableState)
    (one : IsSeatStep k seat (quiet_word p.guest) word (Pass p, []) new s t) → new ≡ (Pass (published p), [])
    → Relates (MakesPublishBy p.parked p.guest p.sight.latest) k s t one.before one.after
publish_event k seat word p new s t one goes = by p.parked refl
  where
    set : IsSet (places.Quiet p.guest) (p.sight.latest + 1) (shared_of k s.words one.before.keeper)
        (shared_of k (slice_set s.words (quiet_word p.guest) word) one.before.keeper)
    set = set_is k seat word p (published p) refl new s t one goes (p.sight.latest + 1) refl

    by : (is : Bool) → p.parked ≡ is
        → Relates (MakesPublishBy is p.guest p.sight.latest) k s t one.before one.after
    by true inside =
        relates_by k seat word p (published p) refl new s t one goes (Makes (events.Publish p.guest p.sight.latest))
        (record {
          parked = one.before.published seat p one.there ∙ word_inside p inside;
          most = omega (
            arith,
            (one.before.seats seat (Pass p) one.there).seen.latest,
            ap epoch_in (one.before.shows places.Epoch tt tt),
          );
          set = set;
        })
    by false outside =
        relates_by k seat word p (published p) refl new s t one goes
        (IsSet (places.Quiet p.guest) (p.sight.latest + 1)) set

-- a load of a pass comes
pub loads_come : LoadsCome
loads_come k slots seat p s place kept homes there at tells may most =
    let number : ℕ = word_number k.code_words place in
    let found : ℕ = slice_index s.words number in
    let goes = load_allowed k k slots seat number (Pass p, []) refl refl place at tells may refl s kept homes there
    (omega (arith, most)) in
    record {
      new = (goes.0, carried_after [] goes.1);
      t = stepped s number found seat [] goes.0 goes.1;
      one = record { before = kept; there = there; act = goes.1; is = refl; after = goes.3 };
      is = goes.4;
    }

-- so does its store by which its guest parks
pub parks_come : ParksCome
parks_come k slots seat p s kept homes there most =
    let number : ℕ = quiet_word p.guest in
    let goes = park_allowed k k slots seat number PARKED (Pass p, []) refl refl refl refl s kept homes there
    (omega (arith, most)) in
    record {
      new = (goes.0, carried_after [] goes.1);
      t = stepped s number PARKED seat [] goes.0 goes.1;
      one = record { before = kept; there = there; act = goes.1; is = refl; after = goes.3 };
      is = goes.4;
    }

-- ---- steps of the keeper

pub store_event : (k : Key) (slots word : ℕ) (u : KeeperView) (new : Seated) (s t : TableState) (place : Place)
    → IsPlace k.code_words place → HasStore place
    → (one : IsSeatStep k 0 (word_number k.code_words place) word (Keeper u, []) new s t)
    → Stores k (step slots (word_number k.code_words place) word 0 none) (Keeper u, []) word new
    → Relates (Makes (events.Store place)) k s t one.before one.after
store_event k slots word u new s t place at has one stores =
    let c : ℕ = k.code_words in
    let number : ℕ = word_number c place in
    let v : KeeperView = stored_to (rank_at c place) u in
    let goes : new.0 ≡ Keeper v =
    ap (λ (z : Seated). z.0) stores ∙ ap (λ (n : ℕ). Keeper (stored_to n u)) (rank_is c place at has) in
    let set = one_set k s.words u v place word refl one.before.many at in
    let shows : (other : Place) → IsPlace c other → HasStore other
    → slice_index (slice_set s.words number word) (word_number c other) ≡ word_at (tables_of k v) other =
    (λ other inside stored.
    ap (λ (l : List ℕ). slice_index l (word_number c other))
    (sym (words_are k 0 number word (Keeper u, []) new s t one))
    ∙ subst (ShowTables k t.words) (keeper_is k number word u new s t one v goes) one.after.shows other inside
    stored) in
    let word_is : word ≡ newest_word (past_of k u) place =
    sym set.here ∙ (shows place at has ∙ word_new (tables_of k v) place (omega arith)) in
    keeper_relates k number word u new s t one (Makes (events.Store place)) v goes
    (record {
      stored = has;
      before = λ other inside stored less.
          sym (set.others other inside (λ e. absurd (omega (arith, less, ap (rank_at c) e))))
          ∙ (shows other inside stored ∙ word_new (tables_of k v) other (omega (arith, less)));
      after = λ other inside stored more.
          sym (set.others other inside (λ e. absurd (omega (arith, more, ap (rank_at c) e))))
          ∙ (shows other inside stored ∙ word_old (tables_of k v) other (omega (arith, more)));
      set = subst (λ (n : ℕ). IsSet place n (shared_of k s.words u) (shared_of k (slice_set s.words number word) v))
          word_is set;
    })

pub clear_event : (k : Key) (slots : ℕ) (u : KeeperView) (p : PassView) (new : Seated) (s t : TableState)
    → u.held ≡ Some p → (one : IsSeatStep k 0 (quiet_word p.guest) 0 (Keeper u, []) new s t)
    → Clears k (step slots (quiet_word p.guest) 0 0 none) (Keeper u, []) 0 new
    → Relates (Makes (events.Leave p.guest)) k s t one.before one.after
clear_event k slots u p new s t is_held one clears =
    let number : ℕ = quiet_word p.guest in
    let held : IsHeldOut k s.words u p =
    subst (HeldFits k s.words u) is_held
    (subst (λ (z : KeeperView). HeldFits k s.words z z.held) (keeper_was k number 0 u new s t one) one.before.held) in
    keeper_relates k number 0 u new s t one (Makes (events.Leave p.guest)) (cleared u)
    (ap (λ (z : Seated). z.0) clears.is)
    (record {
      registered = λ e. word_some p (sym held.published ∙ e);
      set = one_set k s.words u (cleared u) (places.Quiet p.guest) 0 refl one.before.many held.registered.within;
    })

pub register_sets : (k : Key) (slots word guest : ℕ) (u : KeeperView) (new : Seated) (s t : TableState) → guest < GUESTS
    → (one : IsSeatStep k 0 (quiet_word guest) word (Keeper u, []) new s t)
    → Registers k (step slots (quiet_word guest) word 0 none) (Keeper u, []) word new
    → Relates (IsSet (places.Quiet guest) word) k s t one.before one.after
register_sets k slots word guest u new s t few one registers =
    keeper_relates k (quiet_word guest) word u new s t one (IsSet (places.Quiet guest) word)
    (registered k (quiet_word guest - 1) u) (ap (λ (z : Seated). z.0) registers)
    (one_set k s.words u (registered k (quiet_word guest - 1) u) (places.Quiet guest) word refl one.before.many few)

pub look_same : (k : Key) (slots number : ℕ) (u : KeeperView) (new : Seated) (s t : TableState)
    → (one : IsSeatStep k 0 number (slice_index s.words number) (Keeper u, []) new s t)
    → Looks k (step slots number 0 0 none) (Keeper u, []) (slice_index s.words number) new
    → Relates AreSame k s t one.before one.after
look_same k slots number u new s t one looks =
    keeper_relates k number (slice_index s.words number) u new s t one AreSame u (ap (λ (z : Seated). z.0) looks.same)
    (nothing_set k s.words u u number refl)

pub tell_same : (k : Key) (slots number : ℕ) (u : KeeperView) (new : Seated) (s t : TableState)
    → (one : IsSeatStep k 0 number (slice_index s.words number) (Keeper u, []) new s t)
    → Tells k (step slots number 0 0 none) (Keeper u, []) (slice_index s.words number) new
    → Relates AreSame k s t one.before one.after
tell_same k slots number u new s t one tells =
    keeper_relates k number (slice_index s.words number) u new s t one AreSame (told k u)
    (ap (λ (z : Seated). z.0) tells.is) (nothing_set k s.words u (told k u) number refl)
