-- The cells of imports, branch by branch.
use Rattle.std.proofs.Common.{◌≡◌, ◌∙◌, ℕ, suc, ◌+◌, ◌<◌, List, [], ◌∷◌, ◌++◌, length, flat_map, take, get_or, Option, Some, refl, ap, arith}
use Rattle.std.proofs.lemmas.List.{take_more}
use Rattle.std.proofs.lemmas.List.Elements.{filter_map-append}
use Rattle.std.specs.List.{Contains, filter_map, cons_option}
use Rattle.std.specs.Int.{w32, to_le_bytes}
use Rattle.std.specs.Option.{unwrap_or}
use Rattle.cfi_aux.specs.declared.placed.Placed.{Placed}
use Rattle.cfi_aux.specs.declared.records.Kind.{Kind}
use Rattle.cfi_aux.specs.declared.records.Kind.TheVariants.{Call, Tail, Return, Switch, Import}
use Rattle.cfi_graph.specs.Cell.{cell_by, cells_in}
use Rattle.cfi_graph.specs.Facts.{ByName}

-- one item more
pub picked_more : {X Y : Type 0} (h : X → Option Y) (xs : List X) (k : ℕ) (d : X) → k < length xs
    → filter_map h (take (k + 1) xs) ≡ filter_map h (take k xs) ++ cons_option (h (get_or xs k d)) []
picked_more h xs k d within =
    ap (filter_map h) (take_more xs k d within) ∙ filter_map-append h (take k xs) (get_or xs k d ∷ [])

-- what is behind an item is in the list with it
later : {X : Type 0} (x : X) (xs : List X) (y : X) → Contains xs y → Contains (x ∷ xs) y
later x xs y has = (suc has.0, omega (arith, has.1), has.2)

first : {X : Type 0} (x : X) (xs : List X) → Contains (x ∷ xs) x
first x xs = (0, omega arith, refl)

-- names that mean the same make the same cells
module _ (f g : ByName) where
  -- those that the kinds import do
  abbrev pub MeanSame : List Kind → Type 0
  MeanSame kinds = (name : List ℕ) (cell : ℕ) → Contains kinds (Import name cell) → f name ≡ g name

  cell_same : (m : Placed) (kind : Kind) (kinds : List Kind) → MeanSame (kind ∷ kinds) → cell_by f m kind ≡ cell_by g m kind
  cell_same m (Call node) kinds same = refl
  cell_same m (Tail node) kinds same = refl
  cell_same m Return kinds same = refl
  cell_same m (Switch entries) kinds same = refl
  cell_same m (Import name cell) kinds same =
      ap (λ (found : Option ℕ). Some (record { at = m.data_base + cell; bytes = to_le_bytes w32 (unwrap_or found 0) }))
      (same name cell (first (Import name cell) kinds))

  kinds_same : (m : Placed) (kinds : List Kind) → MeanSame kinds
      → filter_map (cell_by f m) kinds ≡ filter_map (cell_by g m) kinds
  kinds_same m [] same = refl
  kinds_same m (kind ∷ kinds) same =
      ap (λ o. cons_option o (filter_map (cell_by f m) kinds)) (cell_same m kind kinds same)
      ∙ ap (cons_option (cell_by g m kind))
      (kinds_same m kinds (λ name cell has. same name cell (later kind kinds (Import name cell) has)))

  pub cells_same : (ms : List Placed) → ((m : Placed) → Contains ms m → MeanSame m.branches)
      → flat_map (cells_in f) ms ≡ flat_map (cells_in g) ms
  cells_same [] same = refl
  cells_same (m ∷ ms) same =
      ap (λ cells. cells ++ flat_map (cells_in f) ms) (kinds_same m m.branches (same m (first m ms)))
      ∙ ap (λ cells. cells_in g m ++ cells) (cells_same ms (λ n has. same n (later m ms n has)))
