-- What a run logs: picks, under policies that never fall.
use Rattle.std.specs.Prelude.{◌≡◌, ℕ, ◌≤◌, List, [], ◌∷◌}
use Rattle.std.specs.List.{fold}
use Rattle.cfi_unit.specs.declared.log.Log.{Log}
use Rattle.cfi_model.specs.Log.{picked}

-- the log after a pick under each of these policies
abbrev pub picked_all : (policies : List ℕ) → List Log → List Log
picked_all policies log = fold (λ l policy. picked policy l) log policies

-- none is below the one before it, nor the first below this one, and none is above that one
abbrev pub RiseBetween : (least most : ℕ) → (policies : List ℕ) → Type 0
RiseBetween least most [] = least ≤ most
RiseBetween least most (policy ∷ later) = (least ≤ policy) × RiseBetween policy most later

-- a log has become another by picks
pub record HasPicked (least most : ℕ) (old new : List Log) : Type 0 where
  pub policies : List ℕ
  pub rise : RiseBetween least most policies
  pub is : new ≡ picked_all policies old
