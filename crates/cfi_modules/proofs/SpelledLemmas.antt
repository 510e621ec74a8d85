-- What the code of modules that follow each other is: their words one after the other, and then words of 0.
use Rattle.std.proofs.Common.{◌≡◌, ℕ, suc, ◌+◌, ◌<◌, ◌≤◌, ◌++◌, List, [], ◌∷◌, length, drop, replicate, slice_index, All, refl, ap, sym, ◌∙◌, arith, length-append, append_assoc}
use Rattle.std.specs.List.{flat_map}
use Rattle.std.proofs.lemmas.List.{drop_more, get_or-drop, length-drop}
use Rattle.std.proofs.lemmas.List.Elements.{All-nil, All-cons, All-head, All-tail}
use Rattle.cfi_aux.specs.declared.placed.Placed.{Placed}
use Rattle.cfi_policy.specs.Code.{HasWords, LiesInModule}
use Rattle.cfi_modules.proofs.JoinedLemmas.{IsChain}

-- so much of a list is this one
part_at : (xs ys : List ℕ) (b : ℕ) → b + length ys ≤ length xs
    → ((k : ℕ) → k < length ys → slice_index xs (b + k) ≡ slice_index ys k) → drop b xs ≡ ys ++ drop (b + length ys) xs
part_at xs [] b within same =
    let here : b ≡ b + 0 = omega arith in ap (λ (n : ℕ). drop n xs) here
part_at xs (y ∷ ys) b within same =
    let first : slice_index xs b ≡ y =
    ap (slice_index xs) (let here : b ≡ b + 0 = omega arith in here) ∙ same 0 (omega arith) in
    let rest = part_at xs ys (b + 1) (omega (arith, within))
    (λ k less.
    let at : b + 1 + k ≡ b + suc k = omega arith in
    ap (slice_index xs) at ∙ same (suc k) (omega (arith, less))) in
    let end : b + 1 + length ys ≡ b + suc (length ys) = omega arith in
    drop_more xs b 0 (omega (arith, within)) ∙ ap (λ (x : ℕ). x ∷ drop (b + 1) xs) first
    ∙ ap (λ (zs : List ℕ). y ∷ zs) (rest ∙ ap (λ (n : ℕ). ys ++ drop n xs) end)

-- a list of nothing but 0
zeros_are : (xs : List ℕ) → ((k : ℕ) → k < length xs → slice_index xs k ≡ 0) → xs ≡ replicate (length xs) 0
zeros_are [] none = refl
zeros_are (x ∷ xs) none =
    let first : x ≡ 0 = none 0 (omega arith) in
    let rest = zeros_are xs (λ k less. none (suc k) (omega (arith, less))) in
    ap (λ (y : ℕ). y ∷ xs) first ∙ ap (λ (ys : List ℕ). 0 ∷ ys) rest

-- the words of modules, one after the other
abbrev pub words_of_all : List Placed → List ℕ
words_of_all ms = flat_map (λ m. m.words) ms

module _ (code : List ℕ) where
  spelled_from : (base slot : ℕ) (ms : List Placed) → IsChain base slot ms → All (HasWords code) ms
      → base + length (words_of_all ms) ≤ length code
      → drop base code ≡ words_of_all ms ++ drop (base + length (words_of_all ms)) code
  spelled_from base slot [] chain has within =
      let here : base ≡ base + 0 = omega arith in ap (λ (n : ℕ). drop n code) here
  spelled_from base slot (m ∷ ms) chain has within =
      let rest = words_of_all ms in
      let count = length-append m.words rest in
      let words = All-head (HasWords code) m ms has in
      let here = part_at code m.words base (omega (arith, within, count))
      (λ k less. ap (λ (b : ℕ). slice_index code (b + k)) (sym chain.0) ∙ words k less) in
      let behind = spelled_from (base + length m.words) (slot + length m.branches) ms chain.2
      (All-tail (HasWords code) m ms has) (omega (arith, within, count)) in
      let end : base + length m.words + length rest ≡ base + length (m.words ++ rest) = omega (arith, count) in
      here ∙ ap (λ (ws : List ℕ). m.words ++ ws) (behind ∙ ap (λ (n : ℕ). rest ++ drop n code) end)
      ∙ sym (append_assoc m.words rest (drop (base + length (m.words ++ rest)) code))

-- no module lies behind all
none_behind : (base slot : ℕ) (ms : List Placed) → IsChain base slot ms → (word : ℕ)
    → base + length (words_of_all ms) ≤ word → All (λ (m : Placed). LiesInModule m word → ⊥) ms
none_behind base slot [] chain word behind = All-nil (λ (m : Placed). LiesInModule m word → ⊥)
none_behind base slot (m ∷ ms) chain word behind =
    let count = length-append m.words (words_of_all ms) in
    All-cons (λ (n : Placed). LiesInModule n word → ⊥) m ms
    (λ lies. absurd (omega (arith, lies.1, chain.0, behind, count)))
    (none_behind (base + length m.words) (slot + length m.branches) ms chain.2 word (omega (arith, behind, count)))

pub spelled : (code : List ℕ) (base slot : ℕ) (ms : List Placed) → IsChain base slot ms → All (HasWords code) ms
    → base + length (words_of_all ms) ≤ length code
    → ((word : ℕ) → word < length code → All (λ (m : Placed). LiesInModule m word → ⊥) ms → slice_index code word ≡ 0)
    → drop base code ≡ words_of_all ms ++ replicate (length (drop (base + length (words_of_all ms)) code)) 0
spelled code base slot ms chain has within free =
    let end = base + length (words_of_all ms) in
    spelled_from code base slot ms chain has within
    ∙ ap (λ (ws : List ℕ). words_of_all ms ++ ws)
    (zeros_are (drop end code)
    (λ k less.
    get_or-drop end code k 0
    ∙ free (end + k) (omega (arith, less, length-drop end code))
    (none_behind base slot ms chain (end + k) (omega arith))))
