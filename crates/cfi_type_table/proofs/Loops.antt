-- What holds after the first turns of the loop that reads nodes.
use Rattle.std.proofs.Common.{◌≡◌, ℕ, ◌-◌, List, length}
use Rattle.cfi_type_table.specs.Node.{Node}
use Rattle.cfi_type_table.specs.Reading.{nodes_at}
use Rattle.cfi_type_table.proofs.Parts.{with_front}

-- the nodes so far and what is still read are what all reading gives
pub record NodesSoFar (count i : ℕ) (nodes : List Node) (rest bytes : List ℕ) : Type 0 where
  pub len : length nodes ≡ i
  pub read : with_front nodes (nodes_at i (count - i) rest) ≡ nodes_at 0 count bytes
