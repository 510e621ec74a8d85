-- Links that are found by where they begin: each is led to from the last that begins there.
use Rattle.std.specs.Prelude.{◌≡◌, ℕ, zero, suc, ◌<◌, ◌==◌, List, length, slice_index_or, if◌then◌else◌}
use Rattle.cfi_flow.specs.declared.links.Link.{Link}

-- a link that stands where none is
abbrev pub no_link : Link
no_link = record { from = 0; to = 0 }

-- the link of a number
abbrev pub link_at : (links : List Link) → (number : ℕ) → Link
link_at links number = slice_index_or links number no_link

-- one more than the number of the last of the first links that begins at the node, or 0
abbrev pub last_from : (links : List Link) → (node count : ℕ) → ℕ
last_from links node zero = 0
last_from links node (suc number) =
    if (link_at links number).from == node then suc number else last_from links node number

-- by node the last link that begins there, and by link the last one before it that begins where it does
pub record IsStar (links : List Link) (lasts befores : List ℕ) : Type 0 where
  pub len : length befores ≡ length links
  pub last : (node : ℕ) → slice_index_or lasts node 0 ≡ last_from links node (length links)
  pub before : (number : ℕ) → number < length links
      → slice_index_or befores number 0 ≡ last_from links (link_at links number).from number
