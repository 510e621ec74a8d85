-- Words in the rest of a file.
use Rattle.std.proofs.Common.{◌≡◌, ◌+◌, ℕ, zero, suc, List, drop, refl, arith}
use Rattle.std.proofs.lemmas.List.{get_or-drop}
use Rattle.byteorder.specs.Endian.{little_from}

-- a number in the rest of the bytes stands as far on in all of them
pub little_from-drop : (n i j : ℕ) (xs : List ℕ) → little_from j n (drop i xs) ≡ little_from (i + j) n xs
little_from-drop zero i j xs = refl
little_from-drop (suc n) i j xs =
    let first = get_or-drop i xs j 0 in
    let rest = little_from-drop n i (suc j) xs in
    let place : i + suc j ≡ suc (i + j) = omega arith in
    rw (first, rest, place) refl
