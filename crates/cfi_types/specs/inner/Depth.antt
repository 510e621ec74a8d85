-- Digests of nodes to a depth: nodes that agree to it have one digest, others seldom.
use Rattle.std.specs.Prelude.{ℕ, zero, suc, List, map}
use Rattle.cfi_type_table.specs.Node.{Node}
use Rattle.cfi_types.specs.inner.Splitting.{signature}
use Rattle.cfi_types.specs.inner.Digest.{digest_of}

-- the digests of a table's nodes: to a greater depth, those of what is known of them to one depth less
unfoldable pub digests_to : (depth : ℕ) → List Node → List ℕ
digests_to zero nodes = map (λ x. 0) nodes
digests_to (suc depth) nodes = map (λ x. digest_of (signature (digests_to depth nodes) x)) nodes
