-- Which types are equal: nodes that agree to every depth. A node is given by a table and its number there.
use Rattle.std.specs.Prelude.{◌≡◌, ℕ, zero, suc, List}
use Rattle.std.specs.List.{AllZip}
use Rattle.cfi_type_table.specs.Node.{Node, node_of}
use Rattle.cfi_type_table.specs.Kind.{numbers_of, nodes_of}

-- node a of xs and node b of ys agree to a depth: to depth 0 any two do; to a greater one, those whose kinds and
-- numbers are equal, that name as many nodes, and whose named nodes agree, pair by pair, to one depth less
abbrev pub Same : (depth : ℕ) → (xs : List Node) → (a : ℕ) → (ys : List Node) → (b : ℕ) → Type 0
Same zero xs a ys b = Unit {0}
Same (suc depth) xs a ys b =
    ((node_of xs a).kind ≡ (node_of ys b).kind)
    × (numbers_of (node_of xs a) ≡ numbers_of (node_of ys b))
    × AllZip (λ c d. Same depth xs c ys d) (nodes_of (node_of xs a)) (nodes_of (node_of ys b))

-- they agree to every depth
abbrev pub Equal : (xs : List Node) → (a : ℕ) → (ys : List Node) → (b : ℕ) → Type 0
Equal xs a ys b = (depth : ℕ) → Same depth xs a ys b
