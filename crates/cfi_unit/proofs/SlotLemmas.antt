-- Numbers that are read with their sign, as the low part of an address is.
use Rattle.std.proofs.Common.{◌≡◌, ℕ, ◌*◌, ◌<◌, inl, inr, refl, arith}
use Rattle.std.proofs.lemmas.Bool.{cases_lt, lt-ltb, le-ltb}
use Rattle.rv_insn.specs.Word.{IsSigned, low_bits}
use Rattle.rv_insn.specs.Fields.{signed}

-- the bits of a number that is read with its sign, and its range
pub signed-bits : (half n : ℕ) → n < 2 * half → low_bits (2 * half) (signed half n) ≡ n
signed-bits half n h =
    elim (cases_lt n half) [
      | inl lt ↦ rw (lt-ltb n half lt) refl
      | inr ge ↦ rw (le-ltb n half ge) (omega arith)
    ]

pub signed-range : (half n : ℕ) → n < 2 * half → IsSigned half (signed half n)
signed-range half n h =
    elim (cases_lt n half) [
      | inl lt ↦ rw (lt-ltb n half lt) lt
      | inr ge ↦ rw (le-ltb n half ge) (omega arith)
    ]
