-- Links by where they begin.
use Rattle.std.specs.Prelude.{◌≡◌, ℕ, ◌<◌, ◌==◌, List, [], length, map, filter, slice_index_or}
use Rattle.cfi_flow.specs.declared.links.Link.{Link}

-- where the links from a number lead, in their order
abbrev pub ends_from : (number : ℕ) → List Link → List ℕ
ends_from number links = map (λ link. link.to) (filter (λ link. link.from == number) links)

-- the row of each number below the count is where its links lead
pub record AreRows (count : ℕ) (links : List Link) (rows : List (List ℕ)) : Type 0 where
  pub len : length rows ≡ count
  pub row : (k : ℕ) → k < count → slice_index_or rows k [] ≡ ends_from k links
