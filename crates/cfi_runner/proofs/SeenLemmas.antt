-- What a pass has seen is a history, which goes on as it sees more.
use Rattle.std.proofs.Common.{◌≡◌, ◌≢◌, ℕ, ◌+◌, ◌-◌, ◌/◌, ◌<◌, ◌≤◌, cond, inl, inr, length, slice_index, refl, sym, ap, subst, ◌∙◌, arith}
use Rattle.std.proofs.lemmas.Bool.{cases_lt, lt-ltb, le-ltb}
use Rattle.cfi_word.specs.Table.{IsSize}
use Rattle.cfi_word.specs.Table as places
use Rattle.cfi_word.specs.Word.{packed, policy_in}
use Rattle.cfi_word.proofs.WordLemmas.{policy_in-packed}
use Rattle.cfi_model.specs.declared.history.Entry.{Entry}
use Rattle.cfi_model.specs.Closed.{HasClasses, IsClosed, IsStartIn}
use Rattle.cfi_model.specs.History.{History, IsEpoch, IsSeen, IsStart, IsHistory, IsBaryWord, IsTaryWord}
use Rattle.cfi_model.specs.InForce.{tary_index}
use Rattle.cfi_model.specs.Words.{Tables, entry_at, entry_word, no_entry}
use Rattle.cfi_model.proofs.ClosedLemmas.{none_first, none_past}
use Rattle.cfi_model.proofs.InForceLemmas.{later_keeps, later_rises}
use Rattle.cfi_model.proofs.TableLemmas.{packable}
use Rattle.cfi_tables.specs.Key.{Key}
use Rattle.cfi_tables.specs.Loads.{IsWordOf}
use Rattle.cfi_tables.specs.Views.{tables_with}
use Rattle.cfi_tables.specs.declared.view.Sight.{Sight}
use Rattle.cfi_tables.proofs.Prefixes.{prefix_item, prefix_length, prefix_same, prefix_trans}
use Rattle.cfi_runner.specs.Seen.{entry_seen, history_seen, code_seen, policy_seen, IsSight, SeesMore}

pub sees_same : (k : Key) (s : Sight) → IsSight k s → SeesMore k s s
sees_same k s is = record { entries = prefix_same s.entries; latest = omega arith; is = is }

pub sees_trans : (k : Key) (a b c : Sight) → SeesMore k a b → SeesMore k b c → SeesMore k a c
sees_trans k a b c one other = record {
  entries = prefix_trans a.entries b.entries c.entries one.entries other.entries;
  latest = omega (arith, one.latest, other.latest);
  is = other.is;
}

module _ (k : Key) (s : Sight) (is : IsSight k s) where
  abbrev t : Tables
  t = tables_with k s.entries

  abbrev h : History
  h = history_seen k s

  -- the number of the latest epoch's entry
  abbrev last : ℕ
  last = s.latest - k.first

  last_within : last < length s.entries
  last_within = omega (arith, is.least, is.most)

  pub code_many : length (code_seen k s) ≡ k.code_words
  code_many = (is.tables.closed last last_within).1.classes.code_length

  known_within : (epoch : ℕ) → IsEpoch h epoch → epoch - k.first ≤ last
  known_within epoch known = omega (arith, known.least, known.most)

  seen_within : (epoch : ℕ) → IsSeen h epoch → epoch - k.first < length s.entries
  seen_within epoch seen = omega (arith, seen.least, seen.most, is.least, is.most)

  pub seen_history : IsHistory h (code_seen k s)
  seen_history = record {
    size = subst IsSize (sym code_many) is.tables.size;
    versions_least = is.tables.versions_least;
    versions_most = is.tables.versions_most;
    epochs_fit = λ epoch seen. omega (arith, seen.most, is.least, is.most, is.tables.epochs_fit);
    policies_fit = λ epoch seen. is.tables.policies_fit (epoch - k.first) (seen_within epoch seen);
    classes = λ epoch seen.
        subst (λ n. HasClasses n (entry_at t (epoch - k.first)).image) (sym code_many)
        (is.tables.closed (epoch - k.first) (seen_within epoch seen)).1.classes;
    closed = λ epoch known.
        subst (λ n. IsClosed n (entry_at t (epoch - k.first)).image) (sym code_many)
        (is.tables.closed (epoch - k.first) (omega (arith, known_within epoch known, last_within)));
    kept = λ epoch place known some.
        later_keeps t is.tables (epoch - k.first) last (known_within epoch known) last_within place some;
  }

  -- no policy of an epoch that is or was in force is above the latest one
  pub policy_most : (epoch : ℕ) → IsEpoch h epoch → h.policy epoch ≤ policy_seen k s
  policy_most epoch known = later_rises t is.tables (epoch - k.first) last (known_within epoch known) last_within

  -- the number of an epoch
  back : (n : ℕ) → n ≡ k.first + n - k.first
  back n = omega arith

  -- a slot's word
  pub bary_seen : (slot found : ℕ) (word : IsWordOf k s.entries (places.Bary slot) found)
      → k.first + word.number ≤ s.latest → IsBaryWord h slot found
  bary_seen slot found word most =
      let n : ℕ = word.number in
      record {
        epoch = k.first + n;
        known = record { least = omega arith; most = omega (arith, most) };
        is = word.is ∙ ap (λ m. packed (k.first + n) (entry_at t m).policy
            (slice_index (entry_at t m).image.bary slot) k.versions) (back n);
      }

  -- a target's word, whose class is that of code word 0 past the code, where no class is
  tary_by : (index address found : ℕ) (word : IsWordOf k s.entries (places.Tary index) found)
      → slice_index (entry_at t word.number).image.tary index
      ≡ slice_index (entry_at t word.number).image.tary (address / 4)
      → IsTaryWord h address found
  tary_by index address found word same =
      let n : ℕ = word.number in
      record {
        epoch = k.first + n;
        known = record { least = omega arith; most = omega (arith, word.within, is.least, is.most) };
        is = word.is
            ∙ (ap (λ class. packed (k.first + n) (entry_at t n).policy class k.versions) same
            ∙ ap (λ m. packed (k.first + n) (entry_at t m).policy
            (slice_index (entry_at t m).image.tary (address / 4)) k.versions) (back n));
      }

  pub tary_seen : (address found : ℕ)
      → IsWordOf k s.entries (places.Tary (tary_index k.code_words address)) found → IsTaryWord h address found
  tary_seen address found word = elim (cases_lt (address / 4) k.code_words) [
    | inl inside ↦
        tary_by (address / 4) address found
        (subst (λ i. IsWordOf k s.entries (places.Tary i) found)
        (ap (λ b. cond b (address / 4) 0) (lt-ltb _ _ inside)) word) refl
    | inr past ↦
        let here = subst (λ i. IsWordOf k s.entries (places.Tary i) found)
        (ap (λ b. cond b (address / 4) 0) (le-ltb _ _ past)) word in
        let closed = is.tables.closed here.number here.within in
        tary_by 0 address found here
        (none_first k.code_words (entry_at t here.number).image closed
        ∙ sym (none_past k.code_words (entry_at t here.number).image closed (address / 4) past))
  ]

  -- a target's word of an epoch that is not before the latest one has no lower policy
  pub tary_rises : (index found : ℕ) (word : IsWordOf k s.entries (places.Tary index) found)
      → s.latest ≤ k.first + word.number → policy_seen k s ≤ policy_in found
  tary_rises index found word least =
      let n : ℕ = word.number in
      let class : ℕ = slice_index (entry_at t n).image.tary index in
      let up = later_rises t is.tables last n (omega (arith, least)) word.within in
      let policy : policy_in found ≡ (entry_at t n).policy =
      ap policy_in word.is ∙ policy_in-packed (k.first + n) (entry_at t n).policy class k.versions
      (packable t is.tables n class word.within ((is.tables.closed n word.within).1.classes.tary_most index)) in
      omega (arith, up, policy)

-- where more is seen
module _ (k : Key) (old new : Sight) (was : IsSight k old) (more : SeesMore k old new) where
  entry_same : (epoch : ℕ) → epoch - k.first < length old.entries → entry_seen k new epoch ≡ entry_seen k old epoch
  entry_same epoch within = prefix_item old.entries new.entries (epoch - k.first) no_entry more.entries within

  latest_within : old.latest - k.first < length old.entries
  latest_within = omega (arith, was.least, was.most)

  new_within : new.latest - k.first < length new.entries
  new_within = omega (arith, more.is.least, more.is.most)

  pub code_later : (index : ℕ) → slice_index (code_seen k old) index ≢ 0
      → slice_index (code_seen k new) index ≡ slice_index (code_seen k old) index
  code_later index some =
      let same : slice_index (entry_seen k new old.latest).image.code index ≡ slice_index (code_seen k old) index =
      ap (λ e. slice_index e.image.code index) (entry_same old.latest latest_within) in
      later_keeps (tables_with k new.entries) more.is.tables (old.latest - k.first) (new.latest - k.first)
      (omega (arith, more.latest)) new_within index (λ none. some (sym same ∙ none))
      ∙ same

  pub policy_later : policy_seen k old ≤ policy_seen k new
  policy_later =
      let up = later_rises (tables_with k new.entries) more.is.tables (old.latest - k.first) (new.latest - k.first)
      (omega (arith, more.latest)) new_within in
      let same : (entry_seen k new old.latest).policy ≡ policy_seen k old =
      ap (λ e. e.policy) (entry_same old.latest latest_within) in
      omega (arith, up, same)

  pub start_later : (address : ℕ) → IsStart (history_seen k old) address → IsStart (history_seen k new) address
  start_later address start = record {
    epoch = start.epoch;
    known = record {
      least = start.known.least;
      most = omega (arith, start.known.least, start.known.most, more.latest);
    };
    starts = subst (λ (e : Entry). IsStartIn e.image address)
        (sym (entry_same start.epoch (omega (arith, start.known.least, start.known.most, was.least, was.most))))
        start.starts;
  }

  pub word_later : (place : places.Place) (found : ℕ) (word : IsWordOf k old.entries place found)
      → (later : IsWordOf k new.entries place found) × (later.number ≡ word.number)
  word_later place found word =
      let long = prefix_length old.entries new.entries more.entries in (
        record {
          number = word.number;
          within = omega (arith, word.within, long);
          is = word.is ∙ sym (ap
              (λ e. entry_word k.versions (k.first + word.number) e place)
              (prefix_item old.entries new.entries word.number no_entry more.entries word.within));
        },
        refl,
      )
