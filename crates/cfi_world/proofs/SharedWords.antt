-- What is shared of a world, by its tables and its QUIET words.
use Rattle.std.proofs.Common.{◌≡◌, ◌≢◌, ℕ, ◌<◌, true, List, length, slice_set, slice_index_or, refl, ap, ◌∙◌, arith}
use Rattle.std.proofs.lemmas.List.{get_or-set_other, get_or-set_same}
use Rattle.cfi_word.specs.Table.{Place, IsPlace}
use Rattle.cfi_word.specs.Table as places
use Rattle.cfi_model.specs.declared.quiet.Quiet.{Quiet}
use Rattle.cfi_model.specs.declared.quiet.Quiet.TheVariants.{Unregistered, Parked, Published}
use Rattle.cfi_model.specs.Quiet.{quiet_word_of}
use Rattle.cfi_model.specs.SharedEvents.{AreSame, IsSet}
use Rattle.cfi_model.specs.Words.{Tables, HasStore, word_at}
use Rattle.cfi_model.specs.World.{World, shared_word}
use Rattle.cfi_world.specs.SharedTurns.{past_in, shared_in}
use Rattle.cfi_world.specs.Turns.{is_registered}
use Rattle.cfi_world.specs.Worlds.{IsWorld}

-- the words are those of the tables and the QUIET words
pub words_by : (w v : World) → v.quiets ≡ w.quiets
    → ((place : Place) → IsPlace w.tables.code_words place → HasStore place
    → word_at v.tables place ≡ word_at w.tables place)
    → (place : Place) → IsPlace w.tables.code_words place → shared_word v place ≡ shared_word w place
words_by w v quiets same (places.Quiet guest) at =
    ap (λ (l : List Quiet). quiet_word_of (slice_index_or l guest Unregistered)) quiets
words_by w v quiets same places.Epoch at = same places.Epoch at tt
words_by w v quiets same (places.Code index) at = same (places.Code index) at tt
words_by w v quiets same (places.Tary index) at = same (places.Tary index) at tt
words_by w v quiets same (places.Bary slot) at = same (places.Bary slot) at tt

-- a word that updates store
pub word_is : (w : World) (place : Place) → HasStore place → shared_word w place ≡ word_at w.tables place
word_is w (places.Quiet guest) has = absurd has
word_is w places.Epoch has = refl
word_is w (places.Code index) has = refl
word_is w (places.Tary index) has = refl
word_is w (places.Bary slot) has = refl

-- where neither the tables nor a QUIET word changes, nothing does
pub same_by : (w v : World) → v.tables ≡ w.tables → v.quiets ≡ w.quiets → AreSame (shared_in w) (shared_in v)
same_by w v tables quiets = record {
  past = ap past_in tables;
  words = words_by w v quiets (λ place at has. ap (λ (t : Tables). word_at t place) tables);
}

-- a QUIET word is set
pub quiet_set : (w v : World) (guest : ℕ) (quiet : Quiet) → IsWorld w → guest < length w.guests → v.tables ≡ w.tables
    → v.quiets ≡ slice_set w.quiets guest quiet
    → IsSet (places.Quiet guest) (quiet_word_of quiet) (shared_in w) (shared_in v)
quiet_set w v guest quiet is inside tables quiets = record {
  past = ap past_in tables;
  within = omega (arith, inside, is.few);
  here = ap (λ (l : List Quiet). quiet_word_of (slice_index_or l guest Unregistered)) quiets
      ∙ ap quiet_word_of (get_or-set_same w.quiets guest quiet Unregistered
      (omega (arith, inside, is.few, is.quiets_many)));
  others = others;
}
  where
    others : (other : Place) → IsPlace w.tables.code_words other → other ≢ places.Quiet guest
        → shared_word v other ≡ shared_word w other
    others (places.Quiet other) at apart =
        ap (λ (l : List Quiet). quiet_word_of (slice_index_or l other Unregistered)) quiets
        ∙ ap quiet_word_of (get_or-set_other w.quiets guest other quiet Unregistered
        (λ e. apart (ap (λ (g : ℕ). places.Quiet g) e)))
    others places.Epoch at apart = ap (λ (t : Tables). word_at t places.Epoch) tables
    others (places.Code index) at apart = ap (λ (t : Tables). word_at t (places.Code index)) tables
    others (places.Tary index) at apart = ap (λ (t : Tables). word_at t (places.Tary index)) tables
    others (places.Bary slot) at apart = ap (λ (t : Tables). word_at t (places.Bary slot)) tables

pub some_word : (quiet : Quiet) → is_registered quiet ≡ true → quiet_word_of quiet ≢ 0
some_word Unregistered e = absurd (cc)
some_word Parked e = λ none. absurd (omega (arith, none))
some_word (Published epoch) e = λ none. absurd (omega (arith, none))
