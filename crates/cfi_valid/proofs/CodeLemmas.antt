-- The code of modules is one list.
use Rattle.std.proofs.Common.{◌≡◌, ℕ, ◌+◌, ◌-◌, ◌<◌, ◌≤◌, List, [], ◌∷◌, length, slice_index, All, sym, ap, ◌∙◌, ⊎_elim, arith}
use Rattle.std.proofs.lemmas.Bool.{cases_lt}
use Rattle.std.proofs.lemmas.List.{same_lists, get_or_default}
use Rattle.std.proofs.lemmas.List.Elements.{All-nil, All-cons, All-head, All-tail}
use Rattle.cfi_aux.specs.declared.placed.Placed.{Placed}
use Rattle.cfi_policy.specs.Code.{LiesInModule, HasWords, IsCodeOf}

module _ (a b : List ℕ) (word : ℕ) where
  -- both have the words of a module at its place
  in_module : (m : Placed) → HasWords a m → HasWords b m → m.base ≤ word → word < m.base + length m.words
      → slice_index a word ≡ slice_index b word
  in_module m p q from to =
      let place : m.base + (word - m.base) ≡ word = omega (arith, from) in
      let within : word - m.base < length m.words = omega (arith, from, to) in
      sym (ap (slice_index a) place) ∙ p (word - m.base) within ∙ sym (q (word - m.base) within)
      ∙ ap (slice_index b) place

  -- in one of the modules, or in none
  word_same : (ms : List Placed) → All (HasWords a) ms → All (HasWords b) ms
      → (All (λ (m : Placed). LiesInModule m word → ⊥) ms → slice_index a word ≡ slice_index b word)
      → slice_index a word ≡ slice_index b word
  word_same [] p q none = none (All-nil (λ (m : Placed). LiesInModule m word → ⊥))
  word_same (m ∷ ms) p q none =
      let here = All-head (HasWords a) m ms p in
      let there = All-head (HasWords b) m ms q in
      let later : (LiesInModule m word → ⊥) → slice_index a word ≡ slice_index b word = λ out.
      word_same ms (All-tail (HasWords a) m ms p) (All-tail (HasWords b) m ms q)
      (λ rest. none (All-cons (λ (n : Placed). LiesInModule n word → ⊥) m ms out rest)) in
      ⊎_elim
      (λ (below : word < m.base). later (λ lies. absurd (omega (arith, below, lies.0))))
      (λ (from : m.base ≤ word). ⊎_elim
      (λ (to : word < m.base + length m.words). in_module m here there from to)
      (λ (past : m.base + length m.words ≤ word). later (λ lies. absurd (omega (arith, past, lies.1))))
      (cases_lt word (m.base + length m.words)))
      (cases_lt word m.base)

pub code_once : (ms : List Placed) (code_words : ℕ) (a b : List ℕ) → IsCodeOf ms code_words a → IsCodeOf ms code_words b
    → a ≡ b
code_once ms code_words a b p q =
    same_lists a b (p.len ∙ sym q.len)
    (λ word d within.
    let below : word < code_words = omega (arith, within, p.len) in
    let other : word < length b = omega (arith, below, q.len) in
    get_or_default a word d 0 within
    ∙ word_same a b word ms p.placed q.placed (λ none. p.free word below none ∙ sym (q.free word below none))
    ∙ sym (get_or_default b word d 0 other))
