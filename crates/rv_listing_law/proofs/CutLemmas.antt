-- Texts cut at the first byte of a kind.
use Rattle.std.proofs.Common.{◌≡◌, ℕ, Bool, true, false, not, Some, None, List, ◌∷◌, ◌++◌, length, get_or, refl, ap, ◌∙◌, arith, length-append}
use Rattle.std.specs.Prelude.{nat_lt, All}
use Rattle.std.specs.List.{position_or_len, before_first}
use Rattle.std.proofs.Math.ListN.{get_or-append}
use Rattle.std.proofs.Math.Seq.{get_or-append_seam, take-append_seam, drop-append-add}
use Rattle.std.proofs.lemmas.Bool.{not-true, eq-eqb, lt-ltb, le-ltb}
use Rattle.std.proofs.lemmas.List.Sums.{AllPass-from_list_all, position_or_len_is}
use Rattle.rv_line.specs.Operand.{is_byte, cut}
use Rattle.rv_listing_law.proofs.ByteLemmas.{AllPass, differs}

-- no byte passes
pub none-of : (p : ℕ → Bool) (a : List ℕ) → AllPass (λ x. not (p x)) a → All (λ x. p x ≡ false) a
none-of p a h k d within = not-true (p (get_or a k d)) (AllPass-from_list_all (λ x. not (p x)) a h k d within)

-- the first place is behind all bytes that do not pass
place-at : (p : ℕ → Bool) (a : List ℕ) (c : ℕ) (b : List ℕ) → AllPass (λ x. not (p x)) a → p c ≡ true →
    position_or_len p (a ++ c ∷ b) ≡ length a
place-at p a c b h k =
    position_or_len_is p (a ++ c ∷ b) (length a) 0 (omega (arith, length-append a (c ∷ b)))
    (λ n within. ap p (get_or-append a (c ∷ b) 0 n within) ∙ none-of p a h n 0 within)
    (λ _. ap p (get_or-append_seam a c b 0) ∙ k)

pub place-none : (p : ℕ → Bool) (a : List ℕ) → AllPass (λ x. not (p x)) a → position_or_len p a ≡ length a
place-none p a h =
    position_or_len_is p a (length a) 0 (omega arith) (λ n within. none-of p a h n 0 within)
    (λ more. absurd (omega (arith, more)))

pub before_first-at : (p : ℕ → Bool) (a : List ℕ) (c : ℕ) (b : List ℕ) → AllPass (λ x. not (p x)) a → p c ≡ true →
    before_first p (a ++ c ∷ b) ≡ a
before_first-at p a c b h k = rw (place-at p a c b h k) (take-append_seam a (c ∷ b))

-- a text is cut at the byte
pub cut-at : (c : ℕ) (a b : List ℕ) → AllPass (differs c) a → cut c (a ++ c ∷ b) ≡ Some (a, b)
unfolding cut
cut-at c a b h =
    let inside : nat_lt (length a) (length (a ++ c ∷ b)) ≡ true =
    lt-ltb _ _ (omega (arith, length-append a (c ∷ b))) in
    rw (
      place-at (is_byte c) a c b h (eq-eqb c c refl),
      inside,
      take-append_seam a (c ∷ b),
      drop-append-add a (c ∷ b) 1,
    ) refl

-- a text without it is not cut
pub cut-none : (c : ℕ) (a : List ℕ) → AllPass (differs c) a → cut c a ≡ None
unfolding cut
cut-none c a h =
    let outside : nat_lt (length a) (length a) ≡ false = le-ltb _ _ (omega arith) in
    rw (place-none (is_byte c) a h, outside) refl
