-- Each item of a list is as it should be, or one is the first that is not.
use Rattle.std.proofs.Common.{◌⊎◌, ℕ, zero, suc, ◌+◌, ◌<◌, ◌≤◌, List, [], ◌∷◌, length, get_or, refl, ⊎_elim, inl, inr, arith}
use Rattle.std.proofs.lemmas.Bool.{cases_lt}
use Rattle.std.proofs.lemmas.Option.{slice_get-get_or, slice_get_within}
use Rattle.elf_read.specs.Lists.{Each, EachBelow, IsFirstBreak, own_number}
use Rattle.cfi_unit.specs.Spots.{IsInsnAt, InsnsBelow}
use Rattle.cfi_verify.specs.inner.Reading.{IsFirstIllegal}
use Rattle.cfi_verify.proofs.ListLemmas.{each_none, each_more, each_all, first_here}
use Rattle.cfi_verify_law.proofs.DecideLemmas.{Decided}
use Rattle.cfi_verify_law.proofs.UnitLemmas.{is_insn}

module _ {T : Type 0} (place : ℕ → T → ℕ) (P : ℕ → T → Type 0)
    (decided : (number : ℕ) (x : T) → Decided (P number x)) where
  abbrev pub Searched : List T → Type 0
  Searched xs = Each xs P ⊎ ((at : ℕ) × IsFirstBreak xs place P at)

  search_from : (xs : List T) (d : T) (left n : ℕ) → EachBelow xs P n → length xs ≤ n + left → Searched xs
  search_from xs d zero n before enough = inl (each_all xs P n before (omega (arith, enough)))
  search_from xs d (suc left) n before enough =
      ⊎_elim
      (λ (inside : n < length xs).
      ⊎_elim
      (λ (here : P n (get_or xs n d)).
      search_from xs d left (n + 1) (each_more xs P n d before here) (omega (arith, enough)))
      (λ (fails : ¬ P n (get_or xs n d)).
      inr (place n (get_or xs n d), first_here xs P place n (place n (get_or xs n d)) d before inside fails refl))
      (decided n (get_or xs n d)))
      (λ (past : length xs ≤ n). inl (each_all xs P n before past))
      (cases_lt n (length xs))

  pub searched : (xs : List T) → Searched xs
  searched [] = inl (each_all [] P 0 (each_none [] P) (omega arith))
  searched (x ∷ xs) = search_from (x ∷ xs) x (length (x ∷ xs)) 0 (each_none (x ∷ xs) P) (omega arith)

-- each word is an instruction, or one is the first that is none
pub words_searched : (words : List ℕ) → InsnsBelow words (length words) ⊎ ((at : ℕ) × IsFirstIllegal words at)
words_searched words =
    ⊎_elim
    (λ (each : Each words (λ at _. IsInsnAt words at)).
    inl (λ at within. each at (get_or words at 0) (slice_get-get_or words at 0 within)))
    (λ (found : (at : ℕ) × IsFirstBreak words own_number (λ at _. IsInsnAt words at) at).
    let first = found.1 in
    let within : first.number < length words = slice_get_within words first.number first.item first.is in
    inr (
      first.number,
      record {
        within = within;
        fails = first.fails;
        before = λ at less.
            first.before at (get_or words at 0) less
            (slice_get-get_or words at 0 (omega (arith, less, within)));
      },
    ))
    (searched own_number (λ at _. IsInsnAt words at) (λ at _. is_insn words at) words)
