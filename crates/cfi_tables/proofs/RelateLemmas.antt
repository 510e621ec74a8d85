-- What is shared before and after a step, by the words and the keeper's view.
use Rattle.std.proofs.Common.{◌≡◌, ℕ, List, [], length, slice_index, slice_set, sym, ap, subst, ◌∙◌, arith}
use Rattle.std.proofs.lemmas.List.{get_or-set_other, get_or-set_same, set-get_or}
use mathlib.Core.Option.{some}
use lib.ListN.{get_elem?}
use Rattle.atomic_table.proofs.Lists.{set_else}
use Rattle.cfi_word.specs.Table.{Place, IsPlace, word_count, word_number}
use Rattle.cfi_model.specs.SharedEvents.{Shared, AreSame, IsSet}
use Rattle.cfi_model.proofs.PhaseLemmas.{same_place}
use Rattle.cfi_tables.specs.Events.{TableState, IsSeatStep, Relates, past_of, shared_of}
use Rattle.cfi_tables.specs.Key.{Key}
use Rattle.cfi_tables.specs.inner.Steps.{Seated}
use Rattle.cfi_tables.specs.declared.view.KeeperView.{KeeperView}
use Rattle.cfi_tables.specs.declared.view.PassView.{PassView}
use Rattle.cfi_tables.specs.declared.view.View.{View}
use Rattle.cfi_tables.specs.declared.view.View.TheVariants.{Keeper, Pass}
use Rattle.cfi_tables.proofs.KeptLemmas.{pass_is_no_keeper, seat_apart, set_there, the_keeper}
use Rattle.cfi_tables.proofs.PlaceLemmas.{place_within}

-- a word that is loaded stays
pub nothing_set : (k : Key) (words : List ℕ) (u v : KeeperView) (number : ℕ) → past_of k v ≡ past_of k u
    → AreSame (shared_of k words u) (shared_of k (slice_set words number (slice_index words number)) v)
nothing_set k words u v number past = record {
  past = past;
  words = λ place at. ap (λ (l : List ℕ). slice_index l (word_number k.code_words place)) (set-get_or words number 0);
}

-- a word that is stored is the only one that changes
pub one_set : (k : Key) (words : List ℕ) (u v : KeeperView) (place : Place) (word : ℕ) → past_of k v ≡ past_of k u
    → length words ≡ word_count k.code_words → IsPlace k.code_words place
    → IsSet place word (shared_of k words u) (shared_of k (slice_set words (word_number k.code_words place) word) v)
one_set k words u v place word past many at = record {
  past = past;
  within = at;
  here = get_or-set_same words (word_number k.code_words place) word 0
      (omega (arith, many, place_within k.code_words place at));
  others = λ other inside apart.
      get_or-set_other words (word_number k.code_words place) (word_number k.code_words other) word 0
      (λ e. apart (same_place k.code_words other place inside at e));
}

module _ (k : Key) (seat number word : ℕ) (old new : Seated) (s t : TableState)
    (one : IsSeatStep k seat number word old new s t) where
  pub words_are : t.words ≡ slice_set s.words number word
  words_are = ap (λ (z : TableState). z.words) one.is

  pub views_are : t.views ≡ slice_set s.views seat new.0
  views_are = ap (λ (z : TableState). z.views) one.is

  -- by the keeper's views
  pub related_by : (related : Shared → Shared → Type 0) (u v : KeeperView) → one.before.keeper ≡ u
      → one.after.keeper ≡ v → related (shared_of k s.words u) (shared_of k (slice_set s.words number word) v)
      → Relates related k s t one.before one.after
  related_by related u v was is are =
      subst (λ (z : (KeeperView × KeeperView) × List ℕ). related (shared_of k s.words z.0.0) (shared_of k z.1 z.0.1))
      (λ i. ((sym was i, sym is i), sym words_are i)) are

  -- the view that the seat has then
  pub there_now : get_elem? t.views seat ≡ some new.0
  there_now = ap (λ (l : List View). get_elem? l seat) views_are ∙ set_there s.views seat old.0 new.0 one.there

  -- a pass's step leaves the keeper's view
  pub keeper_stays : (p : PassView) → old.0 ≡ Pass p → one.after.keeper ≡ one.before.keeper
  keeper_stays p is = the_keeper k t one.after one.before.keeper
      (ap (λ (l : List View). get_elem? l 0) views_are
      ∙ (set_else s.views seat 0 new.0
      (λ e. seat_apart k s one.before seat (Pass p) (one.there ∙ ap (λ (v : View). some v) is) (pass_is_no_keeper p)
      (sym e))
      ∙ one.before.first))

-- ---- the keeper's seat

module _ (k : Key) (number word : ℕ) (u : KeeperView) (new : Seated) (s t : TableState)
    (one : IsSeatStep k 0 number word (Keeper u, []) new s t) where
  pub keeper_was : one.before.keeper ≡ u
  keeper_was = the_keeper k s one.before u one.there

  pub keeper_is : (v : KeeperView) → new.0 ≡ Keeper v → one.after.keeper ≡ v
  keeper_is v is = the_keeper k t one.after v
      (there_now k 0 number word (Keeper u, []) new s t one ∙ ap (λ (w : View). some w) is)

  pub keeper_relates : (related : Shared → Shared → Type 0) (v : KeeperView) → new.0 ≡ Keeper v
      → related (shared_of k s.words u) (shared_of k (slice_set s.words number word) v)
      → Relates related k s t one.before one.after
  keeper_relates related v is =
      related_by k 0 number word (Keeper u, []) new s t one related u v keeper_was (keeper_is v is)
