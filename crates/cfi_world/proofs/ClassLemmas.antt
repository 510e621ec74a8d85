-- Elements of lists that are filled up with one number.
use Rattle.std.proofs.Common.{◌≡◌, ℕ, zero, suc, ◌<◌, ◌≤◌, replicate, slice_index, refl, arith}

-- an element of a list of one number
pub repeated_most : (n k most x : ℕ) → x ≤ most → slice_index (replicate n x) k ≤ most
repeated_most zero k most x fits = omega arith
repeated_most (suc n) zero most x fits = fits
repeated_most (suc n) (suc k) most x fits = repeated_most n k most x fits

pub repeated_zero : (n k : ℕ) → slice_index (replicate n 0) k ≡ 0
repeated_zero n k = let most = repeated_most n k 0 0 (omega arith) in omega (arith, most)

pub repeated_is : (n k x : ℕ) → k < n → slice_index (replicate n x) k ≡ x
repeated_is zero k x within = absurd (omega (arith, within))
repeated_is (suc n) zero x within = refl
repeated_is (suc n) (suc k) x within = repeated_is n k x (omega (arith, within))
