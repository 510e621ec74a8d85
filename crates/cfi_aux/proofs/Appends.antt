-- What is put at the end of bytes, part by part.
use Rattle.std.proofs.Common.{◌≡◌, ℕ, zero, suc, ◌+◌, ◌≤◌, ◌<◌, List, [], ◌∷◌, ◌++◌, length, take, get_or, replicate, refl, sym, ap, ◌∙◌, append_assoc, arith}
use Rattle.std.specs.List.{flat_map}
use Rattle.std.proofs.lemmas.Grind.{flat_map-append}
use Rattle.std.proofs.lemmas.List.{take_more, append-nil}
use Rattle.std.proofs.lemmas.List.Concat.{flat_map-cons}
use Rattle.cfi_type_table.specs.Spelling.{word}
use Rattle.cfi_aux.specs.Records.{padding, name_bytes}

pub five_parts : (o a b c d e o1 o2 o3 o4 o5 : List ℕ) → o1 ≡ o ++ a → o2 ≡ o1 ++ b → o3 ≡ o2 ++ c → o4 ≡ o3 ++ d
    → o5 ≡ o4 ++ e → o5 ≡ o ++ (a ++ (b ++ (c ++ (d ++ e))))
five_parts o a b c d e o1 o2 o3 o4 o5 h1 h2 h3 h4 h5 = rw (h5, h4, h3, h2, h1) (simp append_assoc)

pub four_puts : (o a b c d o1 o2 o3 o4 : List ℕ) → o1 ≡ o ++ a → o2 ≡ o1 ++ b → o3 ≡ o2 ++ c → o4 ≡ o3 ++ d
    → o4 ≡ o ++ (a ++ (b ++ (c ++ d)))
four_puts o a b c d o1 o2 o3 o4 h1 h2 h3 h4 = rw (h4, h3, h2, h1) (simp append_assoc)

abbrev three_zeroes : List ℕ
three_zeroes = 0 ∷ 0 ∷ 0 ∷ []

few_zeroes : (n : ℕ) → n ≤ 3 → take n three_zeroes ≡ replicate n 0
few_zeroes zero h = refl
few_zeroes (suc zero) h = refl
few_zeroes (suc (suc zero)) h = refl
few_zeroes (suc (suc (suc zero))) h = refl
few_zeroes (suc (suc (suc (suc n)))) h = absurd (omega arith)

four_parts : (o w name zeroes : List ℕ) → ((o ++ w) ++ name) ++ zeroes ≡ o ++ (w ++ (name ++ zeroes))
four_parts o w name zeroes = simp append_assoc

pub name_put : (o name o1 o2 o3 : List ℕ) (n : ℕ) → o1 ≡ o ++ word (length name) → o2 ≡ o1 ++ name
    → n ≡ padding (length name) → o3 ≡ o2 ++ take n three_zeroes → o3 ≡ o ++ name_bytes name
name_put o name o1 o2 o3 n h1 h2 is h3 =
    let small : n ≤ 3 = omega arith in
    let zeroes : take n three_zeroes ≡ replicate (padding (length name)) 0 =
    few_zeroes n small ∙ ap (λ (k : ℕ). replicate k 0) is in
    h3 ∙ rw (zeroes, h2, h1) (four_parts o (word (length name)) name (replicate (padding (length name)) 0))

-- one more of several is put
pub one_more : {A : Type 0} (spell : A → List ℕ) (xs : List A) (i : ℕ) (x : A) (o before after : List ℕ) → i < length xs
    → x ≡ get_or xs i x → before ≡ o ++ flat_map spell (take i xs) → after ≡ before ++ spell x
    → after ≡ o ++ flat_map spell (take (i + 1) xs)
one_more {A = A} spell xs i x o before after lt is h1 h2 =
    let more : take (i + 1) xs ≡ take i xs ++ x ∷ [] =
    take_more xs i x lt ∙ ap (λ (y : A). take i xs ++ y ∷ []) (sym is) in
    let parts : flat_map spell (take (i + 1) xs) ≡ flat_map spell (take i xs) ++ spell x =
    ap (flat_map spell) more ∙ flat_map-append spell (take i xs) (x ∷ [])
    ∙ ap (λ (t : List ℕ). flat_map spell (take i xs) ++ t)
    (flat_map-cons spell x [] ∙ append-nil (spell x)) in
    h2 ∙ rw (h1, parts) (append_assoc o (flat_map spell (take i xs)) (spell x))
