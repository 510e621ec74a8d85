-- Known bytes, one piece after another.
use Rattle.std.proofs.Common.{◌≡◌, ◌≤◌, ℕ, zero, suc, ◌+◌, zero-add, suc-add, List, [], ◌∷◌, ◌++◌, length, take, drop, Option, None, Some, refl, sym, ap, ◌∙◌, append_assoc, append-nil, ◌-◌, arith, length-drop}
use Rattle.std.proofs.lemmas.List.{take_at, take_all}
use Rattle.std.specs.Io.KnownBytes.{Appends, Consumes, IsAtEnd}
use Rattle.cfi_io.specs.Told.{WhereTold}

-- the first m bytes, and then n more
take-plus : (m n : ℕ) (bytes : List ℕ) → take m bytes ++ take n (drop m bytes) ≡ take (m + n) bytes
take-plus zero n bytes = rw (zero-add n) refl
take-plus (suc m) zero [] = rw (suc-add m zero) refl
take-plus (suc m) (suc n) [] = rw (suc-add m (suc n)) refl
take-plus (suc m) n (x ∷ xs) = rw (suc-add m n) (ap (λ (l : List ℕ). x ∷ l) (take-plus m n xs))

-- `&bytes[done..]`
pub take-rest : (bytes : List ℕ) (done : ℕ) → take (length bytes - done) (drop done bytes) ≡ drop done bytes
take-rest bytes done = take_all _ _ (omega (arith, length-drop done bytes))

-- two pieces of some bytes, one after the other
pub Appends-take : (before now after : Option (List ℕ)) (bytes rest : List ℕ) (done count : ℕ)
    → Appends before now (take done bytes) → rest ≡ drop done bytes → Appends now after (take count rest)
    → Appends before after (take (done + count) bytes)
Appends-take None now after bytes rest done count front is more = tt
Appends-take (Some xs) (Some ys) (Some zs) bytes rest done count front is more =
    let piece : zs ≡ ys ++ take count (drop done bytes) = rw (← is) more in
    piece ∙ ap (λ (l : List ℕ). l ++ take count (drop done bytes)) front ∙ append_assoc xs _ _
    ∙ ap (λ (l : List ℕ). xs ++ l) (take-plus done count bytes)
Appends-take (Some xs) (Some ys) None bytes rest done count front is more = more
Appends-take (Some xs) None after bytes rest done count front is more = absurd front

-- what was read is all that was left, or its first n bytes
pub Consumes-take : (before after : Option (List ℕ)) (bytes : List ℕ) (n : ℕ) → Consumes before after bytes
    → length bytes ≡ n → WhereTold before (λ left. bytes ≡ take n left)
Consumes-take None after bytes n read full = tt
Consumes-take (Some left) None bytes n read full = absurd read
Consumes-take (Some left) (Some rest) bytes n read full = rw read (sym (take_at bytes rest n full))

-- a reader at its end has given all that was left
pub Consumes-all : (before after : Option (List ℕ)) (bytes : List ℕ) (n : ℕ) → Consumes before after bytes
    → IsAtEnd after → length bytes ≤ n → WhereTold before (λ left. bytes ≡ take n left)
Consumes-all None after bytes n read end short = tt
Consumes-all (Some left) None bytes n read end short = absurd read
Consumes-all (Some left) (Some rest) bytes n read end short =
    let all : left ≡ bytes = read ∙ ap (λ (l : List ℕ). bytes ++ l) end ∙ append-nil bytes in
    rw all (sym (take_all n bytes short))

-- a reader that is at its end after a read of nothing was there before
pub IsAtEnd-before : (before after : Option (List ℕ)) (bytes : List ℕ) (count : ℕ) → count ≡ 0
    → Consumes before after (take count bytes) → IsAtEnd after → IsAtEnd before
IsAtEnd-before None after bytes count nothing read end = tt
IsAtEnd-before (Some left) None bytes count nothing read end = absurd read
IsAtEnd-before (Some left) (Some rest) bytes count nothing read end =
    let front : take count bytes ≡ [] = rw nothing refl in
    read ∙ ap (λ (l : List ℕ). l ++ rest) front ∙ end
