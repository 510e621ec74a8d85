-- The numbers of one more table's nodes, from those of the tables before it.
use Rattle.std.specs.Prelude.{◌≡◌, ℕ, ◌+◌, ◌-◌, ◌<◌, ◌≤◌, ◌==◌, max, nat_lt, if◌then◌else◌, List, [], ◌∷◌, ◌++◌, length, map, slice_index, slice_index_or, take, All}
use Rattle.std.specs.List.{flat_map, Contains}
use Rattle.cfi_type_table.specs.Node.{Node}
use Rattle.cfi_types.specs.Classes.{class_of, table_of, IsNodePlace}
use Rattle.cfi_types.specs.inner.Depth.{digests_to}
use Rattle.cfi_types.specs.declared.near.TheConstants.{DEPTH}

-- the next number after these
abbrev pub next_after : (next : ℕ) → List ℕ → ℕ
next_after next [] = next
next_after next (n ∷ ns) = next_after (max next (n + 1)) ns

-- the next number after those of the first rows
abbrev pub next_at : (rows : List (List ℕ)) → (t : ℕ) → ℕ
next_at rows t = next_after 0 (flat_map (λ row. row) (take t rows))

-- a node of a table has a number that comes with the table, and its digest is told
pub record IsNew (told : ℕ → Type 0) (next : ℕ) (row digests : List ℕ) (a : ℕ) : Type 0 where
  pub within : a < length row
  pub number : next ≤ slice_index row a
  pub is_told : told (slice_index digests a)

-- tables, told by their numbers, of which each is one that has such a node; they have no more nodes than all
pub record AreNear (tables : List (List Node)) (kept : List (List ℕ)) (told numbers : List ℕ)
    (near : List (List Node)) : Type 0 where
  pub each : near ≡ map (table_of tables) numbers
  pub within : All (λ t. t < length tables) numbers
  pub few : length (flat_map (λ xs. xs) near) ≤ length (flat_map (λ xs. xs) tables)
  pub whole : (t a : ℕ) → IsNodePlace tables t a
      → IsNew (Contains told) (next_at kept t) (slice_index_or kept t []) (digests_to DEPTH (table_of tables t)) a
      → Contains numbers t

-- the kept number of each class that has come, by its number among near tables: one that is new there is added
abbrev pub put_one : (back : List ℕ) → (own kept : ℕ) → List ℕ
put_one back own kept = if own == length back then back ++ kept ∷ [] else back

-- numbers put back from a table's own to those that are kept
unfoldable pub back_from : (back own kept : List ℕ) → List ℕ
back_from back [] kept = back
back_from back (o ∷ own) [] = back
back_from back (o ∷ own) (n ∷ kept) = back_from (put_one back o n) own kept

-- the kept numbers of the classes of the first near tables, by their numbers there
pub record AreBack (own kept : List (List ℕ)) (numbers : List ℕ) (tables : ℕ) (back : List ℕ) : Type 0 where
  pub count : length back ≡ next_at own tables
  pub each : (o : ℕ) → o < length back → (i : ℕ) × (a : ℕ) × (i < tables) × (a < length (slice_index_or own i []))
      × (class_of own i a ≡ o) × (slice_index back o ≡ class_of kept (slice_index numbers i) a)

-- a number by that among near tables: the kept one, or one after all that are kept
abbrev pub renumbered : (back : List ℕ) → (next own : ℕ) → ℕ
renumbered back next own = if nat_lt own (length back) then slice_index back own else next + (own - length back)
