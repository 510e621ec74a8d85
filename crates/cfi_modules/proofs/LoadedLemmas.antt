-- Where loaded modules begin.
use Rattle.std.proofs.Common.{◌≡◌, List, ◌∷◌, Some, subst}
use Rattle.std.specs.List.{slice_get}
use Rattle.cfi_word.specs.declared.map.TheConstants.{FIRST_BASE}
use Rattle.cfi_aux.specs.declared.placed.Placed.{Placed}

-- the module stands at the first place
abbrev StandsFirst : Placed → Type 0
StandsFirst m = (m.base ≡ FIRST_BASE) × (m.slot_base ≡ 0)

-- the head of modules stands there, so whichever is found first does
pub begins : (m : Placed) (ms : List Placed) → StandsFirst m → (n : Placed) → slice_get (m ∷ ms) 0 ≡ Some n
    → StandsFirst n
begins m ms first n is =
    let same : m ≡ n = cc in
    subst StandsFirst same first
