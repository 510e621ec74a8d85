-- A list of 32 registers and the file that clauses see.
use Rattle.std.proofs.Common.{◌≡◌, ◌≢◌, ℕ, ◌<◌, ◌≤◌, ◌==◌, nat_lt, if◌then◌else◌, List, length, slice_index, slice_set, ap, ◌∙◌, arith}
use Rattle.std.proofs.Common.{get_or-set_other, get_or-set_same}
use Rattle.std.proofs.lemmas.Bool.Decides.{nat_tests}
use Rattle.std.proofs.lemmas.List.{get_or-take, take-set-le}
use Rattle.std.proofs.Math.Seq.{take-set-lt}
use Rattle.cfi_unit.specs.declared.unit.TheConstants.{FREE_REGISTERS}
use Rattle.cfi_model.specs.State.{regs_with}
use Rattle.cfi_model.specs.Registers.{RegFile, free_of, file_of, held, with_held}

-- the first registers hold what the list holds
free_read : (words : List ℕ) (k : ℕ) → k < FREE_REGISTERS → slice_index (free_of words) k ≡ slice_index words k
unfolding free_of
free_read words k h = get_or-take FREE_REGISTERS words k 0 h

free_set : (words : List ℕ) (k value : ℕ) → k < FREE_REGISTERS
    → free_of (slice_set words k value) ≡ slice_set (free_of words) k value
unfolding free_of
free_set words k value h = take-set-lt FREE_REGISTERS words k value h

free_past : (words : List ℕ) (k value : ℕ) → FREE_REGISTERS ≤ k → free_of (slice_set words k value) ≡ free_of words
unfolding free_of
free_past words k value h = take-set-le FREE_REGISTERS words k value h

-- the register that is read
pub read_held : (words : List ℕ) (k : ℕ) → k < 32 → slice_index words k ≡ held (file_of words) k
read_held words k h = grind (arith, nat_tests, free_read)

-- the first registers after a write
pub write_free : (words : List ℕ) (k value : ℕ) → k ≢ 0
    → free_of (slice_set words k value)
    ≡ (if nat_lt k FREE_REGISTERS then regs_with (free_of words) k value else free_of words)
write_free words k value h = grind (arith, nat_tests, free_set, free_past)

-- one of the others
pub write_other : (words : List ℕ) (k value i : ℕ) → i < length words
    → slice_index (slice_set words k value) i ≡ (if k == i then value else slice_index words i)
write_other words k value i h = grind (arith, nat_tests, get_or-set_other, get_or-set_same)

-- the file of five parts, each of which may be replaced by an equal one
file : (free : List ℕ) (a b c d : ℕ) → RegFile
file free a b c d = record { free = free; x28 = a; x29 = b; x30 = c; x31 = d }

same_file : (f g : List ℕ) (a a2 b b2 c c2 d d2 : ℕ) → f ≡ g → a ≡ a2 → b ≡ b2 → c ≡ c2 → d ≡ d2
    → file f a b c d ≡ file g a2 b2 c2 d2
same_file f g a a2 b b2 c c2 d d2 p q r s t =
    ap (λ (x : List ℕ). file x a b c d) p
    ∙ ap (λ (x : ℕ). file g x b c d) q
    ∙ ap (λ (x : ℕ). file g a2 x c d) r
    ∙ ap (λ (x : ℕ). file g a2 b2 x d) s
    ∙ ap (λ (x : ℕ). file g a2 b2 c2 x) t

-- the file after a write
pub write_held : (words : List ℕ) (k value : ℕ) → 31 < length words → k ≢ 0
    → file_of (slice_set words k value) ≡ with_held (file_of words) k value
unfolding file
write_held words k value h apart =
    same_file _ _ _ _ _ _ _ _ _ _
    (write_free words k value apart)
    (write_other words k value 28 (omega arith))
    (write_other words k value 29 (omega arith))
    (write_other words k value 30 (omega arith))
    (write_other words k value 31 (omega arith))
