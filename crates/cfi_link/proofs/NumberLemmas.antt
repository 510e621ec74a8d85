-- The number that a symbol gets is its place in the order of the output.
use Rattle.std.proofs.Common.{◌≡◌, ◌∙◌, ℕ, zero, suc, ◌+◌, not, Bool, true, false, List, [], ◌∷◌, ◌++◌, length, get_or, filter, count_by, Some, refl, sym, ap, inl, inr, arith, length-append, append_assoc}
use Rattle.std.specs.List.{slice_get}
use Rattle.std.proofs.lemmas.Bool.{cases_Bool}
use Rattle.std.proofs.lemmas.List.Sums.{length-filter}
use Rattle.elf_read.specs.declared.object.Symbol.{Symbol}
use Rattle.cfi_link.specs.Chosen.{is_local_symbol, in_order, numbers_from, numbers_of}

abbrev is_other : Symbol → Bool
is_other s = not (is_local_symbol s)

-- what comes after a list stands at its length
stands : (front back : List Symbol) (s : Symbol) (n : ℕ) → n ≡ length front → slice_get (front ++ s ∷ back) n ≡ Some s
stands [] back s n is = ap (λ (k : ℕ). slice_get (s ∷ back) k) is
stands (x ∷ front) back s zero is = absurd (omega (arith, is))
stands (x ∷ front) back s (suc n) is = stands front back s n (omega (arith, is))

-- the symbols that are numbered already, and those that are left, in the order of the output
abbrev ordered : (front back symbols : List Symbol) → List Symbol
ordered front back symbols = (front ++ filter is_local_symbol symbols) ++ (back ++ filter is_other symbols)

local-more : (front back symbols : List Symbol) (x : Symbol) → is_local_symbol x ≡ true →
    ordered front back (x ∷ symbols) ≡ ordered (front ++ x ∷ []) back symbols
local-more front back symbols x here =
    rw here (ap (λ (xs : List Symbol). xs ++ (back ++ filter is_other symbols))
    (sym (append_assoc front (x ∷ []) (filter is_local_symbol symbols))))

other-more : (front back symbols : List Symbol) (x : Symbol) → is_local_symbol x ≡ false →
    ordered front back (x ∷ symbols) ≡ ordered front (back ++ x ∷ []) symbols
other-more front back symbols x there =
    rw there (ap (λ (xs : List Symbol). (front ++ filter is_local_symbol symbols) ++ xs)
    (sym (append_assoc back (x ∷ []) (filter is_other symbols))))

numbered-from : (front back symbols : List Symbol) (local other : ℕ) → local ≡ length front →
    other ≡ length front + length (filter is_local_symbol symbols) + length back → (k : ℕ) (s : Symbol) →
    slice_get symbols k ≡ Some s →
    slice_get (ordered front back symbols) (get_or (numbers_from local other symbols) k 0) ≡ Some s
numbered-from front back [] local other one two k s at = cc
numbered-from front back (x ∷ symbols) local other one two zero s at =
    let same : x ≡ s = cc in
    elim (cases_Bool (is_local_symbol x)) [
      | inl here ↦
          rw here
          (ap (λ (xs : List Symbol). slice_get xs local)
          (append_assoc front (x ∷ filter is_local_symbol symbols) (back ++ filter is_other symbols))
          ∙ stands front (filter is_local_symbol symbols ++ (back ++ filter is_other symbols)) x local one
          ∙ ap (λ (y : Symbol). Some y) same)
      | inr there ↦
          let places = rw there at two in
          rw there
          (ap (λ (xs : List Symbol). slice_get xs other)
          (sym (append_assoc (front ++ filter is_local_symbol symbols) back (x ∷ filter is_other symbols)))
          ∙ stands ((front ++ filter is_local_symbol symbols) ++ back) (filter is_other symbols) x other
          (omega (
            arith,
            places,
            length-append (front ++ filter is_local_symbol symbols) back,
            length-append front (filter is_local_symbol symbols),
          ))
          ∙ ap (λ (y : Symbol). Some y) same)
    ]
numbered-from front back (x ∷ symbols) local other one two (suc k) s at =
    elim (cases_Bool (is_local_symbol x)) [
      | inl here ↦
          let places = rw here at two in
          let longer = length-append front (x ∷ []) in
          let next = numbered-from (front ++ x ∷ []) back symbols (local + 1) other (omega (arith, one, longer))
          (omega (arith, places, longer)) k s at in
          let moved = local-more front back symbols x here in
          ap (λ (xs : List Symbol). slice_get xs (get_or (numbers_from local other (x ∷ symbols)) (suc k) 0)) moved
          ∙ rw here next
      | inr there ↦
          let places = rw there at two in
          let longer = length-append back (x ∷ []) in
          let next = numbered-from front (back ++ x ∷ []) symbols local (other + 1) one (omega (arith, places, longer))
          k s at in
          let moved = other-more front back symbols x there in
          ap (λ (xs : List Symbol). slice_get xs (get_or (numbers_from local other (x ∷ symbols)) (suc k) 0)) moved
          ∙ rw there next
    ]

pub numbered : (symbols : List Symbol) (k : ℕ) (s : Symbol) → slice_get symbols k ≡ Some s →
    slice_get (in_order symbols) (get_or (numbers_of symbols) k 0) ≡ Some s
numbered symbols k s at =
    numbered-from [] [] symbols 0 (count_by is_local_symbol symbols) refl
    (omega (arith, length-filter is_local_symbol symbols)) k s at
