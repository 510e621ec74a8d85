-- The first word of a content, and what is after it.
use Rattle.std.proofs.Common.{◌≡◌, ℕ, suc, ◌+◌, ◌<◌, ◌≤◌, Bool, true, false, List, [], ◌∷◌, length, length-take, length-drop, ◌-◌, get_or, take, drop, filter, refl, sym, ap, ◌∙◌, arith}
use Rattle.std.proofs.lemmas.List.Sums.{position_or_len_is}
use Rattle.std.proofs.Math.Seq.{take-length}
use Rattle.std.specs.List.{slice_split, onto_first, position_or_len}
use Rattle.cfi_text.specs.Words.{is_blank, is_solid, has_byte, words_in}

-- a place that passes, where none before it does, is the first
pub first_place : (p : ℕ → Bool) (xs : List ℕ) (i : ℕ) → i < length xs → ((k : ℕ) → k < i → p (get_or xs k 0) ≡ false)
    → p (get_or xs i 0) ≡ true → i ≡ position_or_len p xs
first_place p xs i within before here = sym (position_or_len_is p xs i 0 (omega arith) before (λ _. here))

-- where no place passes, the first is the length
pub no_place : (p : ℕ → Bool) (xs : List ℕ) → ((k : ℕ) → k < length xs → p (get_or xs k 0) ≡ false)
    → length xs ≡ position_or_len p xs
no_place p xs before = sym (position_or_len_is p xs (length xs) 0 (omega arith) before (λ h. absurd (omega arith)))

-- the first part, and the rest of which the words are those after it
abbrev IsSplit : List ℕ → ℕ → List (List ℕ) → Type 0
IsSplit xs end parts = (tail : List (List ℕ)) × (parts ≡ take end xs ∷ tail) × (filter has_byte tail ≡ filter has_byte
    (slice_split is_blank (drop end xs)))

take_next : (n b : ℕ) (bs : List ℕ) → take (1 + n) (b ∷ bs) ≡ b ∷ take n bs
take_next n b bs = let e : 1 + n ≡ suc n = omega arith in rw e refl

drop_next : (n b : ℕ) (bs : List ℕ) → drop (1 + n) (b ∷ bs) ≡ drop n bs
drop_next n b bs = let e : 1 + n ≡ suc n = omega arith in rw e refl

splits_at : (b : ℕ) (bs : List ℕ) → IsSplit bs (position_or_len is_blank bs) (slice_split is_blank bs) → (v : Bool)
    → is_blank b ≡ v → IsSplit (b ∷ bs) (position_or_len is_blank (b ∷ bs)) (slice_split is_blank (b ∷ bs))
splits_at b bs h true e = rw e (slice_split is_blank bs, refl, rw e refl)
splits_at b bs h false e =
    let n = position_or_len is_blank bs in
    rw e (
      h.0,
      ap (onto_first b) h.1 ∙ ap (λ (part : List ℕ). part ∷ h.0) (sym (take_next n b bs)),
      h.2
          ∙ ap (λ (rest : List ℕ). filter has_byte (slice_split is_blank rest)) (sym (drop_next n b bs)),
    )

splits : (xs : List ℕ) → IsSplit xs (position_or_len is_blank xs) (slice_split is_blank xs)
splits [] = ([], refl, refl)
splits (b ∷ bs) = splits_at b bs (splits bs) (is_blank b) refl

-- a front with a byte is the first word
first_kept : (front : List ℕ) (tail : List (List ℕ)) → 0 < length front
    → filter has_byte (front ∷ tail) ≡ front ∷ filter has_byte tail
first_kept [] tail h = absurd (omega arith)
first_kept (x ∷ xs) tail h = refl

-- the first word ends at the first blank
pub words_in-word : (xs : List ℕ) (end : ℕ) → end ≡ position_or_len is_blank xs → 0 < end → end ≤ length xs
    → words_in xs ≡ take end xs ∷ words_in (drop end xs)
unfolding words_in
words_in-word xs end e some within =
    let h = splits xs in
    let first : 0 < length (take end xs) = omega (arith, length-take end xs) in
    rw e (ap (filter has_byte) h.1 ∙ first_kept (take (position_or_len is_blank xs) xs) h.0 (rw e at first)
    ∙ ap (λ (rest : List (List ℕ)). take (position_or_len is_blank xs) xs ∷ rest) h.2)

-- blanks at the front are no part of a word
skips_at : (b : ℕ) (bs : List ℕ) → words_in (drop (position_or_len is_solid bs) bs) ≡ words_in bs → (v : Bool)
    → is_blank b ≡ v → words_in (drop (position_or_len is_solid (b ∷ bs)) (b ∷ bs)) ≡ words_in (b ∷ bs)
unfolding words_in
skips_at b bs h true e = rw e (ap
    (λ (rest : List ℕ). filter has_byte (slice_split is_blank rest)) (drop_next (position_or_len is_solid bs) b bs) ∙ h)
skips_at b bs h false e = rw e (rw e refl)

pub words_in-blanks : (xs : List ℕ) → words_in (drop (position_or_len is_solid xs) xs) ≡ words_in xs
words_in-blanks [] = refl
words_in-blanks (b ∷ bs) = skips_at b bs (words_in-blanks bs) (is_blank b) refl

-- where the first word has no byte, there is none
ends_at : (b : ℕ) (bs : List ℕ) → (position_or_len is_blank (drop (position_or_len is_solid bs) bs) ≡ 0
    → words_in bs ≡ []) → (v : Bool) → is_blank b ≡ v
    → position_or_len is_blank (drop (position_or_len is_solid (b ∷ bs)) (b ∷ bs)) ≡ 0 → words_in (b ∷ bs) ≡ []
unfolding words_in
ends_at b bs h true e z =
    let z' = rw e at z in
    rw e (h (ap (position_or_len is_blank) (sym (drop_next (position_or_len is_solid bs) b bs)) ∙ z'))
ends_at b bs h false e z = let z' = rw e at z in let z'' = rw e at z' in absurd (omega arith)

pub words_in-none : (xs : List ℕ) → position_or_len is_blank (drop (position_or_len is_solid xs) xs) ≡ 0
    → words_in xs ≡ []
unfolding words_in
words_in-none [] z = refl
words_in-none (b ∷ bs) z = ends_at b bs (words_in-none bs) (is_blank b) refl z

-- all of what is left
pub take-rest : (n : ℕ) (xs : List ℕ) → take (length xs - n) (drop n xs) ≡ drop n xs
take-rest n xs = rw (← length-drop n xs) (take-length (drop n xs))
