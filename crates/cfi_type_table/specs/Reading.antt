-- Reading from left to right, with the first fault that is met.
use Rattle.std.specs.Prelude.{◌≡◌, ℕ, zero, suc, List, [], ◌∷◌, length, take, drop, Option, Some, None, Result, Ok, Err, nat_lt, nat_le, ◌==◌, if◌then◌else◌}
use Rattle.std.specs.List.{list_all}
use Rattle.std.specs.Int.{w32, from_le_bytes}
use Rattle.cfi_type_table.specs.declared.kind.TheConstants.{VARFUNC}
use Rattle.cfi_word.specs.declared.limits.TheConstants.{MAX_NODES}
use Rattle.cfi_type_table.specs.declared.fault.TypeFault.{TypeFault}
use Rattle.cfi_type_table.specs.declared.fault.TypeFault.TheVariants.{BadNode, BadIndex, Short, Memory}
use Rattle.cfi_type_table.specs.Node.{Node, make_node}
use Rattle.cfi_type_table.specs.Kind.{nodes_of, has_arity, field_fits}
use Rattle.cfi_values.specs.Then.{◌>>=◌, unless_bad}

-- what a function returned, seen by view, is what reading gives, unless memory ran out
abbrev pub ReadingFails : {Y : Type 0} → TypeFault → Result Y TypeFault → Type 0
ReadingFails Memory read = Unit {0}
ReadingFails (BadNode k) read = read ≡ Err (BadNode k)
ReadingFails (BadIndex k) read = read ≡ Err (BadIndex k)
ReadingFails Short read = read ≡ Err Short

-- what was read is what the definition reads, or the fault that it meets
abbrev pub ReadingGives : {X Y : Type 0} → (X → Y) → Result X TypeFault → Result Y TypeFault → Type 0
ReadingGives view (Ok x) read = read ≡ Ok (view x)
ReadingGives view (Err e) read = ReadingFails e read

-- a word, and the bytes after it; the fault where there are fewer than four
abbrev pub word_or : {E : Type 0} → (short : E) → List ℕ → Result (ℕ × List ℕ) E
word_or short bytes = if nat_lt (length bytes) 4 then Err short else Ok (from_le_bytes w32 (take 4 bytes), drop 4 bytes)

-- the next word, or a fault where none is left
abbrev pub next_word : List ℕ → Result (ℕ × List ℕ) TypeFault
next_word bytes = word_or Short bytes

-- the fields of node number k from this place on, of which `count` are left
unfoldable pub fields_at : (k kind place count : ℕ) → List ℕ → Result (List ℕ × List ℕ) TypeFault
fields_at k kind place zero bytes = Ok ([], bytes)
fields_at k kind place (suc count) bytes =
    next_word bytes >>= λ w. unless_bad (field_fits kind place w.0) (BadNode k)
    (fields_at k kind (suc place) count w.1 >>= λ ws. Ok (w.0 ∷ ws.0, ws.1))

-- node number k: its kind, the number of its fields, and its fields
unfoldable pub node_at : (k : ℕ) → List ℕ → Result (Node × List ℕ) TypeFault
node_at k bytes =
    next_word bytes >>= λ kind. unless_bad (nat_le kind.0 VARFUNC) (BadNode k)
    (next_word kind.1 >>= λ count. unless_bad (has_arity kind.0 count.0) (BadNode k)
    (fields_at k kind.0 0 count.0 count.1 >>= λ fields. Ok (make_node kind.0 fields.0, fields.1)))

-- `count` nodes from number k on
unfoldable pub nodes_at : (k count : ℕ) → List ℕ → Result (List Node × List ℕ) TypeFault
nodes_at k zero bytes = Ok ([], bytes)
nodes_at k (suc count) bytes =
    node_at k bytes >>= λ first. nodes_at (suc k) count first.1 >>= λ others. Ok (first.0 ∷ others.0, others.1)

-- the least node, from number k on, that names a node which is none of the first `count`
unfoldable pub stray_from : (count k : ℕ) → List Node → Option ℕ
stray_from count k [] = None
stray_from count k (x ∷ xs) =
    if list_all (λ f. nat_lt f count) (nodes_of x) then stray_from count (suc k) xs else Some k

-- a table without a bad node, or the fault of its first
abbrev pub judged : List Node → Option ℕ → Result (List Node) TypeFault
judged xs None = Ok xs
judged xs (Some k) = Err (BadIndex k)

-- all of the bytes
unfoldable pub types_in : List ℕ → Result (List Node) TypeFault
types_in bytes =
    next_word bytes >>= λ count. unless_bad (nat_le count.0 MAX_NODES) (BadNode MAX_NODES)
    (nodes_at 0 count.0 count.1 >>= λ nodes. unless_bad (length nodes.1 == 0) Short
    (judged nodes.0 (stray_from count.0 0 nodes.0)))
