-- A longer series takes nothing back: what its images have of the code, the images of more modules have too.
use Rattle.std.proofs.Common.{◌≡◌, ◌≢◌, ◌⊎◌, inl, inr, ℕ, ◌+◌, ◌-◌, ◌<◌, ◌≤◌, List, [], ◌∷◌, length, take, drop, get_or, slice_index, Some, All, ap, sym, subst, ◌∙◌, ⊎_elim, arith}
use Rattle.std.specs.List.{Contains, slice_get}
use Rattle.std.proofs.lemmas.Bool.{cases_lt}
use Rattle.std.proofs.lemmas.List.{take-append-drop, get_or_past}
use Rattle.std.proofs.lemmas.List.Elements.{All-nil, All-cons, Contains-append_left}
use Rattle.std.proofs.lemmas.Option.{slice_get-get_or, slice_get_within, get_or_from_slice_get}
use Rattle.cfi_word.specs.Table.{IsSize}
use Rattle.cfi_aux.specs.declared.placed.Placed.{Placed}
use Rattle.cfi_flow.proofs.Members.{member_first, member_later}
use Rattle.cfi_model.specs.Closed.{IsClosed}
use Rattle.cfi_model.specs.History.{History, IsSeen, IsHistory}
use Rattle.cfi_model.proofs.IdLemmas.{seen_of}
use Rattle.cfi_policy.specs.Code.{LiesInModule, HasWords, IsCodeOf}
use Rattle.cfi_modules.specs.Loaded.{AreLoaded, IsVerifiedAmong}
use Rattle.cfi_modules.specs.Growth.{IsHistoryOf, HasNumbers}
use Rattle.cfi_modules.proofs.PrefixLemmas.{get_in, take_in}
use Rattle.cfi_modules.proofs.ImageLemmas.{closed}

-- ---- the first of the modules

module _ (code_words n : ℕ) (ms : List Placed) (loaded : AreLoaded code_words ms) where
  abbrev some : List Placed
  some = take n ms

  in_all : (k : ℕ) (m : Placed) → slice_get some k ≡ Some m → slice_get ms k ≡ Some m
  in_all k m is = get_in n ms k m is

  pub loaded_some : AreLoaded code_words some
  loaded_some = record {
    size = loaded.size;
    first = λ m is. loaded.first m (in_all 0 m is);
    next = λ k m p is there. loaded.next k m p (in_all k m is) (in_all (k + 1) p there);
    ends = λ k d within.
        let m = get_or some k d in
        let is = in_all k m (slice_get-get_or some k d within) in
        subst (λ (p : Placed). p.base + length p.words ≤ code_words) (get_or_from_slice_get ms k m d is)
        (loaded.ends k d (slice_get_within ms k m is));
    verified = λ k m is.
        subst (λ (before : List Placed). IsVerifiedAmong before m) (sym (take_in n ms k (omega (arith, slice_get_within some k m is))))
        (loaded.verified k m (in_all k m is));
  }

-- ---- their code

-- a word lies in one of the modules, or in none
lies_or_not : (ms : List Placed) (word : ℕ)
    → ((m : Placed) × Contains ms m × LiesInModule m word) ⊎ All (λ (m : Placed). LiesInModule m word → ⊥) ms
lies_or_not [] word = inr (All-nil (λ (m : Placed). LiesInModule m word → ⊥))
lies_or_not (m ∷ ms) word =
    let none : (LiesInModule m word → ⊥)
    → ((n : Placed) × Contains (m ∷ ms) n × LiesInModule n word) ⊎ All (λ (n : Placed). LiesInModule n word → ⊥) (m ∷ ms) =
    λ not_here. ⊎_elim
    (λ (found : (n : Placed) × Contains ms n × LiesInModule n word).
    inl (found.0, member_later m ms found.0 found.1, found.2))
    (λ (all : All (λ (n : Placed). LiesInModule n word → ⊥) ms).
    inr (All-cons (λ (n : Placed). LiesInModule n word → ⊥) m ms not_here all))
    (lies_or_not ms word) in
    ⊎_elim (λ (low : word < m.base). none (λ lies. omega (arith, low, lies.0)))
    (λ (from : m.base ≤ word). ⊎_elim
    (λ (in_it : word < m.base + length m.words). inl (m, member_first m ms, (from, in_it)))
    (λ (high : m.base + length m.words ≤ word). none (λ lies. omega (arith, high, lies.1)))
    (cases_lt word (m.base + length m.words)))
    (cases_lt word m.base)

-- a module's word in the code
word_in : (code : List ℕ) (ms : List Placed) (has : All (HasWords code) ms) (m : Placed) → Contains ms m → (word : ℕ)
    → LiesInModule m word → slice_index code word ≡ slice_index m.words (word - m.base)
word_in code ms has m there word lies =
    let own : HasWords code m = subst (HasWords code) there.2 (has there.0 m there.1) in
    let same : m.base + (word - m.base) ≡ word = omega (arith, lies.0) in
    ap (slice_index code) (sym same) ∙ own (word - m.base) (omega (arith, lies.0, lies.1))

-- a word of the code that is not 0 stands in the code of more modules too
pub code_kept : (code_words n : ℕ) (ms : List Placed) (some all : List ℕ) → IsCodeOf (take n ms) code_words some
    → IsCodeOf ms code_words all → (word : ℕ) → slice_index some word ≢ 0
    → slice_index all word ≡ slice_index some word
code_kept code_words n ms some all a b word there = ⊎_elim
    (λ (found : (m : Placed) × Contains (take n ms) m × LiesInModule m word).
    let m = found.0 in
    let in_all : Contains ms m =
    subst (λ (xs : List Placed). Contains xs m) (take-append-drop n ms)
    (Contains-append_left (take n ms) (drop n ms) m found.1) in
    word_in all ms b.placed m in_all word found.2 ∙ sym (word_in some (take n ms) a.placed m found.1 word found.2))
    (λ (none : All (λ (m : Placed). LiesInModule m word → ⊥) (take n ms)).
    absurd (there (⊎_elim
    (λ (within : word < code_words). a.free word within none)
    (λ (past : code_words ≤ word). get_or_past some word 0 (omega (arith, past, a.len)))
    (cases_lt word code_words))))
    (lies_or_not (take n ms) word)

-- ---- the history

pub history : (code_words : ℕ) (ms : List Placed) (starts : ℕ) (h : History) (code : List ℕ) → AreLoaded code_words ms
    → IsCodeOf ms code_words code → IsHistoryOf code_words ms starts h → HasNumbers h → IsHistory h code
history code_words ms starts h code loaded is of numbers =
    let closed_at : (epoch : ℕ) → IsSeen h epoch → IsClosed (length code) (h.image epoch) = λ epoch known.
    let n = of.loaded epoch in
    subst (λ (words : ℕ). IsClosed words (h.image epoch)) (sym is.len)
    (closed code_words (take n ms) (loaded_some code_words n ms loaded) (of.live epoch) (h.image epoch)
    (of.images epoch known)) in
    record {
      size = subst IsSize (sym is.len) loaded.size;
      versions_least = numbers.versions_least;
      versions_most = numbers.versions_most;
      epochs_fit = numbers.epochs;
      policies_fit = numbers.policies;
      classes = λ epoch known. (closed_at epoch known).1.classes;
      closed = λ epoch known. closed_at epoch (seen_of h epoch known);
      kept = λ epoch place known there.
          code_kept code_words (of.loaded epoch) ms (h.image epoch).code code
          (of.images epoch (seen_of h epoch known)).1.code is place there;
    }
