-- Which entries and epochs were seen after a load.
use Rattle.std.proofs.Common.{◌≡◌, ℕ, zero, suc, ◌+◌, ◌<◌, ◌≤◌, max, nat_lt, cond, Bool, true, false, List, [], ◌∷◌, ◌++◌, length, length-take, slice_get, take, Some, refl, subst, arith}
use Rattle.std.proofs.lemmas.Bool.Decides.{nat_tests}
use mathlib.Core.List.{IsPrefix}
use Rattle.std.proofs.lemmas.Option.{same_Some}
use Rattle.cfi_word.specs.Table.{Place, Epoch, Quiet, Code, Tary, Bary}
use Rattle.cfi_word.specs.Word.{epoch_in}
use Rattle.cfi_model.specs.declared.history.Entry.{Entry}
use Rattle.cfi_model.specs.TableMoments.{moment_of}
use Rattle.cfi_model.specs.Words.{number_at, rank_at}
use Rattle.cfi_tables.specs.Key.{Key}
use Rattle.cfi_tables.specs.Loads.{TellsEpoch, access_of}
use Rattle.cfi_model.specs.Words.{HasStore}
use Rattle.cfi_tables.specs.Views.{tables_of}
use Rattle.cfi_tables.specs.declared.view.KeeperView.{KeeperView}
use Rattle.cfi_tables.specs.declared.view.PassView.{PassView}
use Rattle.cfi_tables.proofs.Prefixes.{prefix_same, prefix_take, take_prefix}

-- what is known of an item at the end of a list, and of the others
pub each_snoc : {A : Type 0} (P : A → Type 0) (xs : List A) (x : A)
    → ((number : ℕ) (item : A) → slice_get xs number ≡ Some item → P item) → P x
    → (number : ℕ) (item : A) → slice_get (xs ++ x ∷ []) number ≡ Some item → P item
each_snoc P [] x each last zero item is = subst P (same_Some x item is) last
each_snoc P [] x each last (suc number) item is = absurd (cc)
each_snoc P (y ∷ xs) x each last zero item is = each zero item is
each_snoc P (y ∷ xs) x each last (suc number) item is =
    each_snoc P xs x (λ n a e. each (suc n) a e) last number item is

-- as many entries as a word tells of, where fewer were seen
abbrev pub entries_after : (seen all : List Entry) (number : ℕ) → List Entry
entries_after seen all number = cond (nat_lt number (length seen)) seen (take (number + 1) all)

-- the greatest epoch that was seen in force, after a load
abbrev pub latest_after : Place → (found before : ℕ) → ℕ
latest_after Epoch found before = epoch_in found
latest_after (Tary index) found before = before
latest_after (Bary slot) found before = max before (epoch_in found)
latest_after (Code index) found before = before
latest_after (Quiet guest) found before = before

abbrev pub loaded : Key → KeeperView → Place → (found : ℕ) → PassView → PassView
loaded k u place found p = record {
  guest = p.guest;
  quiet = p.quiet;
  parked = p.parked;
  sight = record {
    refusals = p.sight.refusals;
    entries = entries_after p.sight.entries u.entries (number_at (tables_of k u) place);
    latest = latest_after place found p.sight.latest;
    accesses = p.sight.accesses ++ access_of k.code_words place found (moment_of (tables_of k u)) ∷ [];
    had = u.entries;
    stored = u.stored;
  };
}

-- what is seen then begins with what was seen, and has the word's entry
pub record AreMore (seen all after : List Entry) (number : ℕ) : Type 0 where
  pub grows : IsPrefix seen after
  pub begins : IsPrefix after all
  pub within : number < length after

more_by : (seen all : List Entry) (number : ℕ) (enough : Bool) → nat_lt number (length seen) ≡ enough
    → IsPrefix seen all → number < length all
    → AreMore seen all (cond enough seen (take (number + 1) all)) number
more_by seen all number true is begins within =
    record { grows = prefix_same seen; begins = begins; within = grind (arith, nat_tests) }
more_by seen all number false is begins within =
    let few : length seen ≤ number + 1 = grind (arith, nat_tests) in
    let long = length-take (number + 1) all in
    record {
      grows = prefix_take seen all (number + 1) begins few;
      begins = take_prefix all (number + 1);
      within = grind (arith, nat_tests);
    }

pub are_more : (seen all : List Entry) (number : ℕ) → IsPrefix seen all → number < length all
    → AreMore seen all (entries_after seen all number) number
are_more seen all number = more_by seen all number (nat_lt number (length seen)) refl

-- no more entries are seen then than were, or than the word tells of
pub most_by : (seen all : List Entry) (number most : ℕ) (enough : Bool) → length seen ≤ most → number + 1 ≤ most
    → length (cond enough seen (take (number + 1) all)) ≤ most
most_by seen all number most true few less = few
most_by seen all number most false few less =
    let long = length-take (number + 1) all in grind (arith, nat_tests)

-- a code word is stored before each word that tells an epoch
pub code_first : (c index : ℕ) (place : Place) → index < c → TellsEpoch place → rank_at c (Code index) ≤ rank_at c place
code_first c index Epoch inside tells = omega arith
code_first c index (Tary other) inside tells = omega arith
code_first c index (Bary slot) inside tells = omega arith
code_first c index (Code other) inside tells = absurd tells
code_first c index (Quiet guest) inside tells = absurd tells

pub tells_store : (place : Place) → TellsEpoch place → HasStore place
tells_store Epoch tells = tt
tells_store (Tary index) tells = tt
tells_store (Bary slot) tells = tt
tells_store (Code index) tells = tt
tells_store (Quiet guest) tells = absurd tells
