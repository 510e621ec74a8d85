-- The nodes of a source: each `.node` is the next one, and its fields are numbers of its kind, then numbers of nodes.
use Rattle.std.specs.Prelude.{ℕ, ◌^◌, Bool, true, false, ◌&&◌, nat_lt, nat_le, ℤ, pos, negsuc, List, [], ◌∷◌, length, map, drop, if◌then◌else◌, Option, Some, None, slice_get}
use Rattle.std.specs.List.{list_all}
use Rattle.cfi_type_table.specs.declared.kind.TheConstants.{VOID, INT, REAL, PTR, ARRAY, STRUCT, UNION, FUNC, VARFUNC}
use Rattle.cfi_word.specs.declared.limits.TheConstants.{MAX_FIELDS}
use Rattle.cfi_type_table.specs.Kind.{number_count, field_fits, is_callable_kind}
use Rattle.cfi_type_table.specs.Node.{Node, make_node}
use Rattle.rv_line.specs.declared.statement.NodeKind.{NodeKind}
use Rattle.rv_line.specs.declared.statement.NodeKind.TheVariants as kinds
use Rattle.rv_asm.specs.Words.{low_word}

-- the number of a kind
abbrev pub number_of : NodeKind → ℕ
number_of kinds.Void = VOID
number_of kinds.Int = INT
number_of kinds.Real = REAL
number_of kinds.Ptr = PTR
number_of kinds.Array = ARRAY
number_of kinds.Struct = STRUCT
number_of kinds.Union = UNION
number_of kinds.Func = FUNC
number_of kinds.VarFunc = VARFUNC

-- the number of a node that is there
abbrev pub is_node : (count : ℕ) → ℤ → Bool
is_node count (pos n) = nat_lt n count
is_node count (negsuc n) = false

-- a kind of functions, with fixed or with variable arguments
abbrev pub is_callable : Option NodeKind → Bool
is_callable None = false
is_callable (Some kind) = is_callable_kind (number_of kind)

-- the number of a node of functions
abbrev pub callable_in : (nodes : List NodeKind) → ℤ → Option ℕ
callable_in nodes (pos n) = if nat_lt n (2 ^ 32) && is_callable (slice_get nodes n) then Some n else None
callable_in nodes (negsuc n) = None

-- the fields that name nodes name some that are there
abbrev pub names_nodes : (count : ℕ) → NodeKind → (fields : List ℤ) → Bool
names_nodes count kind fields = list_all (is_node count) (drop (number_count (number_of kind)) fields)

-- a field is a word; an integer has 8, 16, 32 or 64 bits, and is signed (1) or not (0)
abbrev pub is_word : ℤ → Bool
is_word (pos n) = nat_lt n (2 ^ 32)
is_word (negsuc n) = false

-- the fields of an integer type that are there fit
abbrev pub is_integer : (words : List ℕ) → Bool
is_integer [] = true
is_integer (bits ∷ []) = true
is_integer (bits ∷ sign ∷ words) = field_fits INT 0 bits && field_fits INT 1 sign

-- the fields of a node fit its kind
abbrev pub fits : NodeKind → (words : List ℕ) → Bool
fits kinds.Int words = is_integer words
fits kind words = true

-- a node; none where it has too many fields, or one is outside its values
abbrev pub node_by : NodeKind → (words : List ℕ) → Option Node
node_by kind words = if fits kind words then Some (make_node (number_of kind) words) else None

-- the node of some fields, if they fit
abbrev pub node_of : NodeKind → (fields : List ℤ) → Option Node
node_of kind fields =
    if nat_le (length fields) MAX_FIELDS
    then (if list_all is_word fields then node_by kind (map low_word fields) else None) else None
