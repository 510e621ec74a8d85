-- What has run is a valid part.
use Rattle.std.specs.Prelude.{◌≡◌, ◌≢◌, ℕ, List, slice_get, Some, None}
use Rattle.cfi_model.specs.History.{History}
use Rattle.cfi_model.specs.Raw.{Raw}
use Rattle.cfi_model.specs.Words.{Tables}
use Rattle.cfi_valid.specs.Course.{Course}
use Rattle.cfi_valid.specs.Log.{IsLogged}
use Rattle.cfi_valid.specs.Valid.{IsEnded}
use Rattle.cfi_guest_part.specs.Part.{IsWithin, part_of}
use Rattle.cfi_guest_part.specs.Ran.{HasRun, IsHistoryOf, IsRunOf}

-- the part of a guest that has run, has stopped within the fuel of the plan, and whose log fits, is valid, and tells
-- how the guest has run
abbrev pub RunsMakeParts : Type 0
RunsMakeParts =
    (c : Course) (t : Tables) (h : History) (code : List ℕ) → IsHistoryOf c t h code → (number : ℕ) (guest : Raw) →
    HasRun c t h code number guest → guest.base.stop ≢ None → IsWithin c.plan.fuel guest →
    IsLogged c number guest.base.log → (entry : List ℕ) → slice_get c.plan.guests number ≡ Some entry →
    let part = part_of number entry guest in IsEnded c number part × IsRunOf c t h code number part
