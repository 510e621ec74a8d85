-- The image of modules that were loaded, with the labels of no policy: there is one.
use Rattle.std.proofs.Common.{◌≡◌, inr, ℕ, ◌+◌, ◌-◌, ◌*◌, ◌<◌, ◌≤◌, ◌++◌, List, [], ◌∷◌, length, replicate, slice_index, All, ap, sym, subst, ◌∙◌, ⊎_elim, arith, length-append, append_assoc}
use Rattle.std.specs.List.{Contains}
use Rattle.std.proofs.Math.ListN.{get_or-append}
use Rattle.std.proofs.Math.Seq.{get_or-append_right}
use Rattle.std.proofs.lemmas.Bool.{cases_lt}
use Rattle.std.proofs.lemmas.List.{length-replicate, get_or-replicate}
use Rattle.std.proofs.lemmas.List.Elements.{All-nil, All-cons, All-head, All-tail}
use Rattle.cfi_word.specs.declared.lists.Image.{Image}
use Rattle.cfi_word.specs.declared.ids.TheConstants.{FIELD_MAX}
use Rattle.cfi_word.specs.declared.map.TheConstants.{FIRST_BASE}
use Rattle.cfi_word.specs.Table.{slots_of}
use Rattle.cfi_aux.specs.declared.placed.Placed.{Placed}
use Rattle.cfi_class.specs.Labels.{AreLabels}
use Rattle.cfi_flow.proofs.Members.{no_member}
use Rattle.cfi_graph.specs.Direct.{DirectEdge}
use Rattle.cfi_policy.specs.Code.{LiesInModule, HasWords, IsCodeOf}
use Rattle.cfi_modules.specs.Loaded.{AreLoaded, IsLoadedImage}
use Rattle.cfi_modules.proofs.ClosedLemmas.{chain}
use Rattle.cfi_modules.proofs.ReadLemmas.{ends_all}
use Rattle.cfi_modules.proofs.JoinedLemmas.{IsChain}
use Rattle.cfi_modules.proofs.SpelledLemmas.{words_of_all}

-- ---- the code

-- each module's words stand at its place
words_there : (before rest : List ℕ) (slot : ℕ) (ms : List Placed) → IsChain (length before) slot ms
    → All (HasWords ((before ++ words_of_all ms) ++ rest)) ms
words_there before rest slot [] follows = All-nil (HasWords ((before ++ []) ++ rest))
words_there before rest slot (m ∷ ms) follows =
    let later = words_of_all ms in
    let longer : length before + length m.words ≡ length (before ++ m.words) =
    sym (length-append before m.words) in
    let code = (before ++ (m.words ++ later)) ++ rest in
    let same : ((before ++ m.words) ++ later) ++ rest ≡ code =
    ap (λ (ws : List ℕ). ws ++ rest) (append_assoc before m.words later) in
    let behind = words_there (before ++ m.words) rest (slot + length m.branches) ms
    (subst (λ (n : ℕ). IsChain n (slot + length m.branches) ms) longer follows.2) in
    All-cons (HasWords code) m ms (own before rest m later follows.0)
    (subst (λ (ws : List ℕ). All (HasWords ws) ms) same behind)
  where
    own : (before rest : List ℕ) (m : Placed) (later : List ℕ) → m.base ≡ length before
        → HasWords ((before ++ (m.words ++ later)) ++ rest) m
    own before rest m later base k within =
        let place : m.base + k ≡ length before + k = omega (arith, base) in
        let words = length-append m.words later in
        let all = length-append before (m.words ++ later) in
        let back : length before + k - length before ≡ k = omega arith in
        let inside : length before + k < length (before ++ (m.words ++ later)) = omega (arith, within, words, all) in
        let past : length before ≤ length before + k = omega arith in
        ap (slice_index ((before ++ (m.words ++ later)) ++ rest)) place
        ∙ get_or-append (before ++ (m.words ++ later)) rest 0 (length before + k) inside
        ∙ get_or-append_right before (m.words ++ later) (length before + k) 0 past
        ∙ ap (slice_index (m.words ++ later)) back ∙ get_or-append m.words later 0 k within

-- between the first and the last word some module lies
some_lies : (base slot : ℕ) (ms : List Placed) → IsChain base slot ms → (word : ℕ) → base ≤ word
    → word < base + length (words_of_all ms) → All (λ (m : Placed). LiesInModule m word → ⊥) ms → ⊥
some_lies base slot [] follows word from to none = omega (arith, from, to)
some_lies base slot (m ∷ ms) follows word from to none =
    let P : Placed → Type 0 = λ n. LiesInModule n word → ⊥ in
    let count = length-append m.words (words_of_all ms) in
    ⊎_elim
    (λ (here : word < base + length m.words).
    All-head P m ms none (omega (arith, from, follows.0), omega (arith, here, follows.0)))
    (λ (later : base + length m.words ≤ word).
    some_lies (base + length m.words) (slot + length m.branches) ms follows.2 word later (omega (arith, to, count))
    (All-tail P m ms none))
    (cases_lt word (base + length m.words))

-- ---- the labels

no_edge : (slot address : ℕ) → DirectEdge [] slot address → ⊥
no_edge slot address edge = no_member edge.owner edge.placed

pub labels : (code_words : ℕ)
    → AreLabels (DirectEdge []) code_words (replicate code_words 0) (replicate (slots_of code_words) FIELD_MAX)
labels code_words = record {
  words = length-replicate code_words 0;
  slots = length-replicate (slots_of code_words) FIELD_MAX;
  targets = λ word within. inr (λ r. no_edge r.0 (4 * word) r.1, get_or-replicate code_words word 0 0 within);
  branches = λ slot within.
      inr (λ u. no_edge slot u.0 u.1, get_or-replicate (slots_of code_words) slot FIELD_MAX 0 within);
  classes = λ slot word in_slots in_words used reached. absurd (no_edge slot used.0 used.1);
}

module _ (code_words : ℕ) (ms : List Placed) (loaded : AreLoaded code_words ms) where
  abbrev low : List ℕ
  low = replicate FIRST_BASE 0

  abbrev words : List ℕ
  words = words_of_all ms

  abbrev behind : ℕ
  behind = code_words - FIRST_BASE - length words

  abbrev pub code_for : List ℕ
  code_for = (low ++ words) ++ replicate behind 0

  end : FIRST_BASE + length words ≤ code_words
  end = ends_all FIRST_BASE 0 code_words ms (chain code_words ms loaded) (omega (arith, loaded.size.least)) loaded.ends

  front : length (low ++ words) ≡ FIRST_BASE + length words
  front = omega (arith, length-append low words, length-replicate {A = ℕ} FIRST_BASE 0)

  follows : IsChain (length low) 0 ms
  follows = subst (λ (n : ℕ). IsChain n 0 ms) (sym (length-replicate {A = ℕ} FIRST_BASE 0)) (chain code_words ms loaded)

  free : (word : ℕ) → word < code_words → All (λ (m : Placed). LiesInModule m word → ⊥) ms
      → slice_index code_for word ≡ 0
  free word within none = ⊎_elim
      (λ (below : word < FIRST_BASE).
      get_or-append (low ++ words) (replicate behind 0) 0 word (omega (arith, below, front))
      ∙ get_or-append low words 0 word (omega (arith, below, length-replicate {A = ℕ} FIRST_BASE 0))
      ∙ get_or-replicate FIRST_BASE word 0 0 below)
      (λ (from : FIRST_BASE ≤ word). ⊎_elim
      (λ (inside : word < FIRST_BASE + length words).
      absurd (some_lies FIRST_BASE 0 ms (chain code_words ms loaded) word from inside none))
      (λ (past : FIRST_BASE + length words ≤ word).
      get_or-append_right (low ++ words) (replicate behind 0) word 0 (omega (arith, past, front))
      ∙ get_or-replicate behind (word - length (low ++ words)) 0 0 (omega (arith, past, within, front, end)))
      (cases_lt word (FIRST_BASE + length words)))
      (cases_lt word FIRST_BASE)

  pub code_is : IsCodeOf ms code_words code_for
  code_is = record {
    len = omega (
      arith,
      end,
      length-append (low ++ words) (replicate behind 0),
      front,
      length-replicate {A = ℕ} behind 0,
    );
    placed = words_there low (replicate behind 0) 0 ms follows;
    free = free;
  }

  abbrev pub image_for : Image
  image_for = record {
    tary = replicate code_words 0;
    bary = replicate (slots_of code_words) FIELD_MAX;
    code = code_for;
  }

  pub image_is : IsLoadedImage code_words ms [] image_for
  image_is = (All-nil (Contains ms), record { labels = labels code_words; code = code_is })
