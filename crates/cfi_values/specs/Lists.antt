-- Items of a list.
use Rattle.std.specs.Prelude.{◌≡◌, ℕ, List}
use Rattle.std.specs.List.{Contains}

-- one of the items has this value
abbrev pub HasWith : {T : Type 0} → (value : T → ℕ) → List T → (at : ℕ) → Type 0
HasWith {T} value xs at = (x : T) × Contains xs x × (value x ≡ at)
