-- The code of modules whose words are known, and the units that stand in it.
use Rattle.std.proofs.Common.{◌≡◌, ℕ, ◌+◌, ◌-◌, ◌/◌, ◌%◌, ◌++◌, List, length, drop, take, replicate, sym, ap, subst, ◌∙◌, append_assoc}
use Rattle.std.proofs.Math.Seq.{drop-append-add}
use Rattle.std.proofs.lemmas.List.{length-replicate}
use Rattle.cfi_aux.specs.declared.placed.Placed.{Placed}
use Rattle.cfi_bare.proofs.LoadedLemmas.{copies}
use Rattle.cfi_model.specs.Shows.{Stands}
use Rattle.cfi_policy.specs.Code.{IsCodeOf}
use Rattle.cfi_modules.specs.Loaded.{AreLoaded}
use Rattle.cfi_modules.proofs.MadeLemmas.{code_for, code_is}
use Rattle.cfi_modules.proofs.SpelledLemmas.{words_of_all}
use Rattle.cfi_unit.specs.declared.unit.Unit.{Unit as CodeUnit}
use Rattle.cfi_unit.specs.Unit.{IsUnit, words_of, size_of}
use Rattle.cfi_word.specs.declared.map.TheConstants.{FIRST_BASE}

-- the words from the first module's place on, and 0 elsewhere
abbrev pub code_at : (code_words : ℕ) → (words : List ℕ) → List ℕ
code_at code_words words = (copies FIRST_BASE 0 ++ words) ++ copies (code_words - FIRST_BASE - length words) 0

pub is_code_at : (code_words : ℕ) (ms : List Placed) (words : List ℕ) → words_of_all ms ≡ words
    → AreLoaded code_words ms → IsCodeOf ms code_words (code_at code_words words)
unfolding copies
is_code_at code_words ms words same loaded =
    let code : code_for code_words ms loaded ≡ code_at code_words words =
    ap (λ (ws : List ℕ). (replicate FIRST_BASE 0 ++ ws) ++ replicate (code_words - FIRST_BASE - length ws) 0) same in
    subst (IsCodeOf ms code_words) code (code_is code_words ms loaded)

pub length-copies : (count value : ℕ) → length (copies count value) ≡ count
unfolding copies
length-copies count value = length-replicate count value

module _ (code_words : ℕ) (words : List ℕ) where
  abbrev rest : List ℕ
  rest = copies (code_words - FIRST_BASE - length words) 0

  -- what stands from one of the words on
  behind : (k : ℕ) → drop (FIRST_BASE + k) (code_at code_words words) ≡ drop k (words ++ rest)
  behind k =
      let low = copies FIRST_BASE 0 in
      ap (λ (ws : List ℕ). drop (FIRST_BASE + k) ws) (append_assoc low words rest)
      ∙ ap (λ (n : ℕ). drop (n + k) (low ++ (words ++ rest))) (sym (length-copies FIRST_BASE 0))
      ∙ drop-append-add low (words ++ rest) k

  -- a unit that is spelled there stands there
  pub stands : (address k : ℕ) (u : CodeUnit) → address % 4 ≡ 0 → address / 4 ≡ FIRST_BASE + k → IsUnit u
      → take (size_of u) (drop k (words ++ rest)) ≡ words_of u → Stands (code_at code_words words) address u
  stands address k u aligned place fits spelled = record {
    aligned = aligned;
    begins = record {
      fits = fits;
      spelled = ap (λ (at : ℕ). take (size_of u) (drop at (code_at code_words words))) place
          ∙ ap (λ (ws : List ℕ). take (size_of u) ws) (behind k) ∙ spelled;
    };
  }
