-- The history of tables, and what their words are in it.
use Rattle.std.proofs.Common.{◌≡◌, ◌≢◌, ℕ, zero, suc, ◌+◌, ◌-◌, ◌/◌, ◌<◌, ◌≤◌, nat_lt, cond, Bool, true, false, inl, inr, refl, sym, ap, subst, ◌∙◌, arith, length, slice_index}
use Rattle.std.proofs.lemmas.Bool.{cases_lt, lt-ltb, le-ltb}
use Rattle.std.proofs.lemmas.List.{get_or_past}
use Rattle.std.proofs.lemmas.Bool.Decides.{nat_tests}
use Rattle.cfi_word.specs.declared.lists.Image.{Image}
use Rattle.cfi_word.specs.Table.{Place, Epoch, Code, Tary, Bary, IsSize}
use Rattle.cfi_word.specs.Word.{packed, epoch_in, policy_in}
use Rattle.cfi_word.proofs.WordLemmas.{policy_in-packed, epoch_in-packed}
use Rattle.cfi_model.specs.declared.history.Entry.{Entry}
use Rattle.cfi_model.specs.Closed.{HasClasses, IsClosed}
use Rattle.cfi_model.specs.History.{IsEpoch, IsSeen, IsHistory, IsBaryWord, IsTaryWord}
use Rattle.cfi_model.specs.InForce.{GoesOn, in_force, history_of, code_in_force, tary_index}
use Rattle.cfi_model.specs.Running.{Extends, Keeps}
use Rattle.cfi_model.specs.Tables.{IsTables, IsUpdate, KeepsCode}
use Rattle.cfi_model.specs.Words.{Tables, entry_at, epoch_in_force, policy_in_force, is_stored, number_at, rank_at, word_at}
use Rattle.cfi_model.proofs.ClosedLemmas.{none_first, none_past}
use Rattle.cfi_model.proofs.TableLemmas.{number_within, packable, force_epoch, force_policy}

-- an update keeps the code, and its policy is not below the one before
update_keeps : (c : ℕ) (old new : Entry) → IsUpdate c old new → KeepsCode old.image new.image
update_keeps c old new (inl refresh) = subst (KeepsCode old.image) (sym refresh.image) (λ place some. refl)
update_keeps c old new (inr load) = load.keeps

update_rises : (c : ℕ) (old new : Entry) → IsUpdate c old new → old.policy ≤ new.policy
update_rises c old new (inl refresh) = omega (arith, refresh.policy)
update_rises c old new (inr load) = omega (arith, load.policy)

keeps_on : (a b c : Image) → KeepsCode a b → KeepsCode b c → KeepsCode a c
keeps_on a b c p q = λ place some. (let e = p place some in q place (λ none. some (sym e ∙ none)) ∙ e)

-- a word with a greater rank is of no later entry
falls : (n r q s : ℕ) → q ≤ r → cond (nat_lt r s) (n - 1) (n - 2) ≤ cond (nat_lt q s) (n - 1) (n - 2)
falls n r q s below = grind (arith, nat_tests)

pub number_falls : (t : Tables) (one other : Place) → rank_at t.code_words other ≤ rank_at t.code_words one
    → number_at t one ≤ number_at t other
number_falls t one other below =
    falls (length t.entries) (rank_at t.code_words one) (rank_at t.code_words other) t.stored below

near : (n : ℕ) (a b : Bool) → cond a (n - 1) (n - 2) ≤ cond b (n - 1) (n - 2) + 1
near n true true = omega arith
near n true false = omega arith
near n false true = omega arith
near n false false = omega arith

-- two words are of one entry or of neighbours
pub number_near : (t : Tables) (one other : Place) → number_at t one ≤ number_at t other + 1
number_near t one other = near (length t.entries) (is_stored t one) (is_stored t other)

module _ (t : Tables) (is : IsTables t) where
  -- later entries keep the code, and their policies are not below
  chain : (more n m : ℕ) → m ≡ n + more → m < length t.entries
      → KeepsCode (entry_at t n).image (entry_at t m).image × ((entry_at t n).policy ≤ (entry_at t m).policy)
  chain zero n m e within =
      let same : n ≡ m = omega (arith, e) in
      subst (λ k. KeepsCode (entry_at t n).image (entry_at t k).image × ((entry_at t n).policy ≤ (entry_at t k).policy))
      same ((λ place some. refl), omega arith)
  chain (suc more) n m e within =
      let k : ℕ = n + more in
      let last : m ≡ k + 1 = omega (arith, e) in
      let inside : k + 1 < length t.entries = omega (arith, within, last) in
      let first = chain more n k refl (omega (arith, inside)) in
      let step : IsUpdate t.code_words (entry_at t k) (entry_at t (k + 1)) = is.follow k inside in
      let rises : (entry_at t k).policy ≤ (entry_at t (k + 1)).policy = update_rises t.code_words _ _ step in
      subst (λ j. KeepsCode (entry_at t n).image (entry_at t j).image × ((entry_at t n).policy ≤ (entry_at t j).policy))
      (sym last) (
        keeps_on (entry_at t n).image (entry_at t k).image (entry_at t (k + 1)).image first.0
            (update_keeps t.code_words _ _ step),
        omega (arith, first.1, rises),
      )

  pub later_keeps : (n m : ℕ) → n ≤ m → m < length t.entries → KeepsCode (entry_at t n).image (entry_at t m).image
  later_keeps n m up within = (chain (m - n) n m (omega (arith, up)) within).0

  pub later_rises : (n m : ℕ) → n ≤ m → m < length t.entries → (entry_at t n).policy ≤ (entry_at t m).policy
  later_rises n m up within = (chain (m - n) n m (omega (arith, up)) within).1

  pub force_within : in_force t < length t.entries
  force_within = number_within t is (is_stored t Epoch)

  code_many : length (code_in_force t) ≡ t.code_words
  code_many = (is.closed (in_force t) force_within).1.classes.code_length

  -- the number of an epoch
  seen_within : (epoch : ℕ) → IsSeen (history_of t) epoch → epoch - t.first < length t.entries
  seen_within epoch seen = omega (arith, seen.least, seen.most, force_within)

  pub epoch_within : (epoch : ℕ) → IsEpoch (history_of t) epoch → epoch - t.first ≤ in_force t
  epoch_within epoch known = omega (arith, known.least, known.most)

  pub history_is : IsHistory (history_of t) (code_in_force t)
  history_is = record {
    size = subst IsSize (sym code_many) is.size;
    versions_least = is.versions_least;
    versions_most = is.versions_most;
    epochs_fit = λ epoch seen. omega (arith, seen.most, force_within, is.epochs_fit);
    policies_fit = λ epoch seen. is.policies_fit (epoch - t.first) (seen_within epoch seen);
    classes = λ epoch seen.
        subst (λ n. HasClasses n (entry_at t (epoch - t.first)).image) (sym code_many)
        (is.closed (epoch - t.first) (seen_within epoch seen)).1.classes;
    closed = λ epoch known.
        subst (λ n. IsClosed n (entry_at t (epoch - t.first)).image) (sym code_many)
        (is.closed (epoch - t.first) (omega (arith, epoch_within epoch known, force_within)));
    kept = λ epoch place known some.
        later_keeps (epoch - t.first) (in_force t) (epoch_within epoch known) force_within place some;
  }

  -- the epoch of an entry's number
  known_at : (n : ℕ) → n ≤ in_force t → IsEpoch (history_of t) (t.first + n)
  known_at n most = record { least = omega arith; most = omega (arith, most) }

  seen_at : (n : ℕ) → n < length t.entries → IsSeen (history_of t) (t.first + n)
  seen_at n most = record { least = omega arith; most = omega (arith, most, force_within) }

  back : (n : ℕ) → n ≡ t.first + n - t.first
  back n = omega arith

  -- a Bary word
  bary_number : (slot : ℕ) → number_at t (Bary slot) ≤ in_force t
  bary_number slot = number_falls t (Bary slot) Epoch (omega arith)

  pub bary_is : (slot : ℕ) → IsBaryWord (history_of t) slot (word_at t (Bary slot))
  bary_is slot =
      let n : ℕ = number_at t (Bary slot) in
      record {
        epoch = t.first + n;
        known = known_at n (bary_number slot);
        is = ap (λ k. packed (t.first + n) (entry_at t k).policy
            (slice_index (entry_at t k).image.bary slot) t.versions) (back n);
      }

  -- the epoch and the policy that a table word of an entry tells
  word_epoch : (n class : ℕ) → n < length t.entries → class ≤ 16383
      → epoch_in (packed (t.first + n) (entry_at t n).policy class t.versions) ≡ t.first + n
  word_epoch n class within fits =
      epoch_in-packed (t.first + n) (entry_at t n).policy class t.versions (packable t is n class within fits)

  word_policy : (n class : ℕ) → n < length t.entries → class ≤ 16383
      → policy_in (packed (t.first + n) (entry_at t n).policy class t.versions) ≡ (entry_at t n).policy
  word_policy n class within fits =
      policy_in-packed (t.first + n) (entry_at t n).policy class t.versions (packable t is n class within fits)

  pub bary_epoch_is : (slot : ℕ) → epoch_in (word_at t (Bary slot)) ≡ t.first + number_at t (Bary slot)
  bary_epoch_is slot =
      let n : ℕ = number_at t (Bary slot) in
      let within = number_within t is (is_stored t (Bary slot)) in
      word_epoch n (slice_index (entry_at t n).image.bary slot) within ((is.closed n within).1.classes.bary_most slot)

  pub tary_epoch_is : (index : ℕ) → epoch_in (word_at t (Tary index)) ≡ t.first + number_at t (Tary index)
  tary_epoch_is index =
      let n : ℕ = number_at t (Tary index) in
      let within = number_within t is (is_stored t (Tary index)) in
      word_epoch n (slice_index (entry_at t n).image.tary index) within ((is.closed n within).1.classes.tary_most index)

  pub bary_epoch : (slot : ℕ) → epoch_in (word_at t (Bary slot)) ≤ epoch_in_force t
      × (epoch_in_force t ≤ epoch_in (word_at t (Bary slot)) + 1)
  bary_epoch slot =
      let e = bary_epoch_is slot in
      let force = force_epoch t is in
      let down = bary_number slot in
      let close = number_near t Epoch (Bary slot) in
      (omega (arith, e, force, down), omega (arith, e, force, close))

  -- a Tary word of the code
  tary_number : (index : ℕ) → index < t.code_words → in_force t ≤ number_at t (Tary index)
  tary_number index inside = number_falls t Epoch (Tary index) (omega arith)

  pub tary_epoch : (index : ℕ) → index < t.code_words → epoch_in_force t ≤ epoch_in (word_at t (Tary index))
      × (epoch_in (word_at t (Tary index)) < t.first + length t.entries)
  tary_epoch index inside =
      let e = tary_epoch_is index in
      let force = force_epoch t is in
      let up = tary_number index inside in
      let within = number_within t is (is_stored t (Tary index)) in
      (omega (arith, e, force, up), omega (arith, e, within))

  pub tary_policy : (index : ℕ) → index < t.code_words → policy_in_force t ≤ policy_in (word_at t (Tary index))
  tary_policy index inside =
      let n : ℕ = number_at t (Tary index) in
      let within : n < length t.entries = number_within t is (is_stored t (Tary index)) in
      let e = word_policy n (slice_index (entry_at t n).image.tary index) within
      ((is.closed n within).1.classes.tary_most index) in
      omega (arith, e, force_policy t is, later_rises (in_force t) n (tary_number index inside) within)

  tary_by : (index address : ℕ) → let n = number_at t (Tary index) in
      slice_index (entry_at t n).image.tary index ≡ slice_index (entry_at t n).image.tary (address / 4)
      → IsTaryWord (history_of t) address (word_at t (Tary index))
  tary_by index address same =
      let n : ℕ = number_at t (Tary index) in
      record {
        epoch = t.first + n;
        known = seen_at n (number_within t is (is_stored t (Tary index)));
        is = ap (λ c. packed (t.first + n) (entry_at t n).policy c t.versions) same
            ∙ ap (λ k. packed (t.first + n) (entry_at t k).policy
            (slice_index (entry_at t k).image.tary (address / 4)) t.versions) (back n);
      }

  pub index_within : (address : ℕ) → tary_index t.code_words address < t.code_words
  index_within address = elim (cases_lt (address / 4) t.code_words) [
    | inl inside ↦
        subst (λ k. k < t.code_words) (sym (ap (λ b. cond b (address / 4) 0) (lt-ltb _ _ inside))) inside
    | inr past ↦
        let some : 0 < t.code_words = omega (arith, is.size.least) in
        subst (λ k. k < t.code_words) (sym (ap (λ b. cond b (address / 4) 0) (le-ltb _ _ past))) some
  ]

  pub tary_is : (address : ℕ) → IsTaryWord (history_of t) address (word_at t (Tary (tary_index t.code_words address)))
  tary_is address = elim (cases_lt (address / 4) t.code_words) [
    | inl inside ↦
        subst (λ k. IsTaryWord (history_of t) address (word_at t (Tary k)))
        (sym (ap (λ b. cond b (address / 4) 0) (lt-ltb _ _ inside))) (tary_by (address / 4) address refl)
    | inr past ↦
        let n : ℕ = number_at t (Tary 0) in
        let closed = is.closed n (number_within t is (is_stored t (Tary 0))) in
        subst (λ k. IsTaryWord (history_of t) address (word_at t (Tary k)))
        (sym (ap (λ b. cond b (address / 4) 0) (le-ltb _ _ past)))
        (tary_by 0 address
        (none_first t.code_words (entry_at t n).image closed
        ∙ sym (none_past t.code_words (entry_at t n).image closed (address / 4) past)))
  ]

  -- a code word of the image in force that is not 0 is found
  code_by : (index : ℕ) → index < t.code_words → slice_index (code_in_force t) index ≢ 0
      → word_at t (Code index) ≡ slice_index (code_in_force t) index
  code_by index inside some =
      later_keeps (in_force t) (number_at t (Code index)) (number_falls t Epoch (Code index) (omega arith))
      (number_within t is (is_stored t (Code index))) index some

  pub code_is : (index : ℕ) → slice_index (code_in_force t) index ≢ 0
      → word_at t (Code index) ≡ slice_index (code_in_force t) index
  code_is index some = elim (cases_lt index t.code_words) [
    | inl inside ↦ code_by index inside some
    | inr past ↦ absurd (some (get_or_past (code_in_force t) index 0 (omega (arith, past, code_many))))
  ]

-- how the history goes on
module _ (t u : Tables) (is : IsTables t) (then : IsTables u) (on : GoesOn t u) where
  entry_same : (epoch : ℕ) → IsSeen (history_of t) epoch
      → entry_at u (epoch - u.first) ≡ entry_at t (epoch - t.first)
  entry_same epoch seen =
      ap (λ first. entry_at u (epoch - first)) on.first
      ∙ on.entries (epoch - t.first) (omega (arith, seen.least, seen.most, force_within t is))

  pub extends : Extends (history_of t) (history_of u)
  extends = record {
    first = on.first;
    longer = omega (arith, on.force);
    seen = omega (arith, on.longer, force_within t is, force_within u then);
    versions = on.versions;
    policy = λ epoch seen. ap (λ e. e.policy) (entry_same epoch seen);
    image = λ epoch seen. ap (λ e. e.image) (entry_same epoch seen);
  }

  pub keeps : Keeps (code_in_force t) (code_in_force u)
  keeps = record {
    same = code_many t is ∙ sym on.code_words ∙ sym (code_many u then);
    kept = λ place some.
        (let e : slice_index (entry_at u (in_force t)).image.code place ≡ slice_index (code_in_force t) place =
        ap (λ x. slice_index x.image.code place) (on.entries (in_force t) (force_within t is)) in
        later_keeps u then (in_force t) (in_force u) on.force (force_within u then) place
        (λ none. some (sym e ∙ none)) ∙ e);
  }

  pub force_rises : epoch_in_force t ≤ epoch_in_force u
  force_rises = omega (arith, force_epoch t is, force_epoch u then, on.first, on.force)

  pub policy_rises : policy_in_force t ≤ policy_in_force u
  policy_rises =
      let up = later_rises u then (in_force t) (in_force u) on.force (force_within u then) in
      let e : (entry_at u (in_force t)).policy ≡ (entry_at t (in_force t)).policy =
      ap (λ x. x.policy) (on.entries (in_force t) (force_within t is)) in
      omega (arith, force_policy t is, force_policy u then, up, e)
