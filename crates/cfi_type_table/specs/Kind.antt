-- The kinds of type nodes, and which fields a node of each kind has.
use Rattle.std.specs.Prelude.{ℕ, Bool, true, false, ◌==◌, ◌||◌, ◌&&◌, nat_lt, nat_le, if◌then◌else◌, List, length, take, drop}
use Rattle.cfi_type_table.specs.declared.kind.TheConstants.{VOID, INT, REAL, PTR, ARRAY, STRUCT, UNION, FUNC, VARFUNC}
use Rattle.cfi_word.specs.declared.limits.TheConstants.{MAX_FIELDS}
use Rattle.cfi_type_table.specs.Node.{Node, node_of}

-- how many of a node's fields, from the first on, are plain numbers; the others name nodes of its table
abbrev pub number_count : (kind : ℕ) → ℕ
number_count kind =
    if kind == INT then 2 else
    (if kind == REAL then 1 else
    (if kind == ARRAY then 1 else 0))

-- a node's numbers
abbrev pub numbers_of : Node → List ℕ
numbers_of x = take (number_count x.kind) x.fields

-- the nodes that a node names
abbrev pub nodes_of : Node → List ℕ
nodes_of x = drop (number_count x.kind) x.fields

-- whether a node of the kind may have n fields
abbrev pub has_arity : (kind n : ℕ) → Bool
has_arity kind n =
    if kind == VOID then n == 0 else
    (if kind == INT then n == 2 else
    (if kind == REAL then n == 1 else
    (if kind == PTR then n == 1 else
    (if kind == ARRAY then n == 2 else
    (if kind == STRUCT then nat_le n MAX_FIELDS else
    (if kind == UNION then nat_le n MAX_FIELDS else
    (if kind == FUNC then nat_le 1 n && nat_le n MAX_FIELDS else
    (if kind == VARFUNC then nat_le 1 n && nat_le n MAX_FIELDS else false))))))))

-- whether a word may be the field of this place: an integer has 8, 16, 32 or 64 bits, and is signed (1) or not (0)
abbrev pub field_fits : (kind place word : ℕ) → Bool
field_fits kind place word =
    if kind == INT then (if place == 0 then word == 8 || word == 16 || word == 32 || word == 64 else nat_le word 1)
    else true

-- the kinds of functions, with fixed and with variable arguments
abbrev pub is_callable_kind : (kind : ℕ) → Bool
is_callable_kind kind = kind == FUNC || kind == VARFUNC

-- the number of a node that is there and is the type of a function
abbrev pub is_callable : (types : List Node) → (number : ℕ) → Bool
is_callable types number = nat_lt number (length types) && is_callable_kind (node_of types number).kind
