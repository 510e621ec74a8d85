-- Units that are read from the first word on, and texts of modules.
use Rattle.std.proofs.Common.{◌≡◌, ℕ, ◌*◌, ◌/◌, ◌<◌, List, length, take, get_or, refl, sym, subst, All, Option, arith}
use Rattle.std.specs.Prelude.{IsSomeAnd}
use Rattle.std.proofs.lemmas.Option.{slice_get_read}
use Rattle.cfi_aux.specs.declared.modules.Module.{Module}
use Rattle.cfi_place.specs.Placed.{bytes_as_words}
use Rattle.cfi_link.specs.Fault.{HasUnits, IsFirstStray}
use Rattle.cfi_unit.specs.Spots.{StopsAt}

-- a text that stops is the first one where those before it are units
pub stray_at : (modules : List Module) (number at : ℕ) (m : Module) → number < length modules
    → m ≡ get_or modules number m → All HasUnits (take number modules) → StopsAt (bytes_as_words m.object.text) at
    → IsFirstStray modules number (4 * at)
stray_at modules number at m lt is before stops =
    let same : 4 * at / 4 ≡ at = omega arith in
    let found = slice_get_read modules (length modules) number m refl lt is in
    record {
      whole = omega arith;
      here = subst (λ (one : Option Module). IsSomeAnd one (λ n. StopsAt (bytes_as_words n.object.text) (4 * at / 4)))
          (sym found) (subst (StopsAt (bytes_as_words m.object.text)) (sym same) stops);
      before = before;
    }
