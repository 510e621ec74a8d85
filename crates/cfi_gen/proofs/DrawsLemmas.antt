-- Draws, one list behind another.
use Rattle.std.proofs.Common.{◌≡◌, ◌∙◌, ◌≤◌, ℕ, List, [], ◌∷◌, ◌++◌, length, map, drop, refl, sym, ap, subst, arith, append_assoc}
use Rattle.std.specs.List.{flat_map}
use Rattle.std.proofs.lemmas.Grind.{flat_map-append}
use Rattle.std.proofs.lemmas.List.{map-append, append-nil}
use Rattle.rand_core.specs.Stream.{Stream, next_u32}
use Rattle.cfi_gen.specs.Draws.{Draw, AreDrawn}
use Rattle.cfi_gen.specs.Drawn.{constant_draw}

-- numbers are drawn where those before them were
pub drawn_append : (words mid left : Stream) (xs ys : List Draw) → AreDrawn words xs mid → AreDrawn mid ys left
    → AreDrawn words (xs ++ ys) left
unfolding AreDrawn
drawn_append words mid left [] ys first second = subst (λ (s : Stream). AreDrawn s ys left) first second
drawn_append words mid left (x ∷ xs) ys first second =
    (first.0, drawn_append (next_u32 words).1 mid left xs ys first.1 second)

-- no numbers leave the words as they are
pub none_drawn : (words : Stream) → AreDrawn words [] words
unfolding AreDrawn
none_drawn words = refl

module _ (words mid left : Stream) where
  -- one constant more
  pub constants_grow : (head : Draw) (xs ys : List ℕ) (x : ℕ) → ys ≡ xs ++ x ∷ []
      → AreDrawn words (head ∷ map constant_draw xs) mid → AreDrawn mid (constant_draw x ∷ []) left
      → AreDrawn words (head ∷ map constant_draw ys) left
  constants_grow head xs ys x grown before more =
      subst (λ (ds : List Draw). AreDrawn words (head ∷ ds) left)
      (sym (ap (map constant_draw) grown ∙ map-append constant_draw xs (x ∷ [])))
      (drawn_append words mid left (head ∷ map constant_draw xs) (constant_draw x ∷ []) before more)

  -- one more of several
  pub pieces_grow : {X : Type 0} (f : X → List Draw) (head : List Draw) (xs ys : List X) (x : X) → ys ≡ xs ++ x ∷ []
      → AreDrawn words (head ++ flat_map f xs) mid → AreDrawn mid (f x) left
      → AreDrawn words (head ++ flat_map f ys) left
  pieces_grow f head xs ys x grown before more =
      subst (λ (ds : List Draw). AreDrawn words (head ++ ds) left)
      (sym (ap (flat_map f) grown ∙ flat_map-append f xs (x ∷ [])
      ∙ ap (λ (ds : List Draw). flat_map f xs ++ ds) (append-nil (f x))))
      (subst (λ (ds : List Draw). AreDrawn words ds left) (append_assoc head (flat_map f xs) (f x))
      (drawn_append words mid left (head ++ flat_map f xs) (f x) before more))

-- what is behind the first grows
pub behind_first : {X : Type 0} (xs ys : List X) (x : X) → 1 ≤ length xs → ys ≡ xs ++ x ∷ []
    → drop 1 ys ≡ drop 1 xs ++ x ∷ []
behind_first [] ys x some grown = absurd (omega (arith, some))
behind_first (y ∷ xs) ys x some grown = ap (drop 1) grown
