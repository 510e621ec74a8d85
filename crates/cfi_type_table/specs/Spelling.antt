-- What a type table is, and the bytes of each: a word with the number of its nodes, then each node as a word with
-- its kind, a word with the number of its fields, and a word for each field. A word is four bytes, the lowest first.
use Rattle.std.specs.Prelude.{ℕ, suc, ◌<◌, ◌≤◌, ◌^◌, List, [], ◌∷◌, ◌++◌, length, All, IsTrue}
use Rattle.std.specs.List.{flat_map, AllByRecursion}
use Rattle.std.specs.Int.{w32, to_le_bytes}
use Rattle.cfi_word.specs.declared.limits.TheConstants.{MAX_NODES}
use Rattle.cfi_type_table.specs.Node.{Node}
use Rattle.cfi_type_table.specs.Kind.{nodes_of, has_arity, field_fits}

-- the bytes of a word
abbrev pub word : ℕ → List ℕ
word n = to_le_bytes w32 n

-- the bytes of a node
abbrev pub node_bytes : Node → List ℕ
node_bytes x = word x.kind ++ (word (length x.fields) ++ flat_map word x.fields)

-- the bytes of a type table
abbrev pub spelling : List Node → List ℕ
spelling xs = word (length xs) ++ flat_map node_bytes xs

-- words that may be the fields from this place on
abbrev pub AreFields : (kind place : ℕ) → List ℕ → Type 0
AreFields kind place [] = Unit {0}
AreFields kind place (w ∷ ws) = (w < 2 ^ 32) × IsTrue (field_fits kind place w) × AreFields kind (suc place) ws

-- a node as its kind wants it
pub record IsNode (x : Node) : Type 0 where
  pub arity : IsTrue (has_arity x.kind (length x.fields))
  pub fields : AreFields x.kind 0 x.fields

-- each node that x names is one of the first `count`
abbrev pub NamesBelow : (count : ℕ) → Node → Type 0
NamesBelow count x = All (λ k. k < count) (nodes_of x)

-- a type table: not too many nodes, each as its kind wants it, and each node that one names is there
pub record AreTypes (xs : List Node) : Type 0 where
  pub count : length xs ≤ MAX_NODES
  pub nodes : AllByRecursion IsNode xs
  pub names : AllByRecursion (NamesBelow (length xs)) xs
