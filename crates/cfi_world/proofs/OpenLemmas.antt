-- A world at its opening, guest by guest.
use Rattle.std.proofs.Common.{◌≡◌, ℕ, zero, suc, ◌+◌, ◌-◌, ◌<◌, List, [], ◌∷◌, ◌++◌, replicate, slice_set, refl, ap, ◌∙◌, arith}
use Rattle.cfi_word.specs.declared.limits.TheConstants.{GUESTS}
use Rattle.cfi_model.specs.declared.quiet.Point.TheVariants.{Outside}
use Rattle.cfi_model.specs.declared.quiet.Quiet.{Quiet}
use Rattle.cfi_model.specs.declared.quiet.Quiet.TheVariants.{Unregistered, Published}
use Rattle.cfi_model.specs.Raw.{Raw}
use Rattle.cfi_model.specs.World.{World}
use Rattle.cfi_world.specs.inner.Held.{Held}

module _ {A : Type 0} where
  set_next : (x y : A) (k m : ℕ) → slice_set (replicate k y ++ replicate (suc m) x) k y
      ≡ replicate (suc k) y ++ replicate m x
  set_next x y zero m = refl
  set_next x y (suc k) m = ap (λ xs. y ∷ xs) (set_next x y k m)

pub next_registered : (epoch k : ℕ) → k < GUESTS
    → slice_set (replicate k (Published epoch) ++ replicate (GUESTS - k) Unregistered) k (Published epoch)
    ≡ replicate (k + 1) (Published epoch) ++ replicate (GUESTS - (k + 1)) Unregistered
next_registered epoch k within =
    let m : ℕ = GUESTS - (k + 1) in
    let one : GUESTS - k ≡ suc m = omega (arith, within) in
    let two : suc k ≡ k + 1 = omega arith in
    ap (λ n. slice_set (replicate k (Published epoch) ++ replicate n Unregistered) k (Published epoch)) one
    ∙ set_next Unregistered (Published epoch) k m
    ∙ ap (λ n. replicate n (Published epoch) ++ replicate m Unregistered) two

-- so many guests are registered
abbrev pub quiets_for : (epoch count : ℕ) → List Quiet
quiets_for epoch count = replicate count (Published epoch) ++ replicate (GUESTS - count) Unregistered

-- a world by its tables and guests, none of which is registered
abbrev pub whole_with : Held → List Raw → (fuel : ℕ) → World
whole_with h guests fuel = record {
  tables = h.tables;
  quiets = [];
  guests = guests;
  points = replicate GUESTS Outside;
  fuel = fuel;
  room = h.room;
  updates = 0;
}
