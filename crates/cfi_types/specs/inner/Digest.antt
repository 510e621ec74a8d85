-- Numbers for lists of words: equal lists have one number, others seldom.
use Rattle.std.specs.Prelude.{ℕ, ◌+◌, ◌*◌, ◌^◌, ◌%◌, ◌==◌, if◌then◌else◌, List, [], ◌∷◌, slice_index}
use Rattle.std.specs.List.{fold}
use Rattle.cfi_types.specs.declared.digest.TheConstants.{FACTOR}
use Rattle.cfi_type_table.specs.Node.{Node, node_of}
use Rattle.cfi_types.specs.inner.Splitting.{signature}

-- the number after one more word
abbrev pub mixed : (digest word : ℕ) → ℕ
mixed digest word = ((digest * FACTOR) % 2 ^ 32 + word) % 2 ^ 32

-- the digest of a list of words
abbrev pub digest_of : List ℕ → ℕ
digest_of words = fold mixed 0 words

-- by what a node is sifted: its class, and the digest of its signature, which a node alone in its class does not need
abbrev pub sifted_by : (classes : List ℕ) → (class size : ℕ) → Node → List ℕ
sifted_by classes class size x = class ∷ (if size == 1 then 0 else digest_of (signature classes x)) ∷ []

-- the same of the node of a number, where `sizes` are those of the classes
abbrev pub sieve_of : (nodes : List Node) → (classes sizes : List ℕ) → (a : ℕ) → List ℕ
sieve_of nodes classes sizes a =
    sifted_by classes (slice_index classes a) (slice_index sizes (slice_index classes a)) (node_of nodes a)
