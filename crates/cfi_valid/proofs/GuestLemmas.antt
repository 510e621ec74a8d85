-- A guest begins where it did with more modules loaded.
use Rattle.std.proofs.Common.{◌≡◌, ℕ, List, sym, subst}
use Rattle.cfi_plan.specs.declared.plan.Plan.{Plan}
use Rattle.cfi_valid.specs.Guests.{GuestBegins, EntersIn}
use Rattle.cfi_valid.specs.Loaded.{LoadedModule, placed_modules, loaded_by}

pub guest_begins_later : (plan : Plan) (old new : List LoadedModule) → loaded_by 0 new ≡ loaded_by 0 old
    → (entry : List ℕ) (address : ℕ) → GuestBegins plan old entry address → GuestBegins plan new entry address
guest_begins_later plan old new same entry address begins =
    subst (λ (ls : List LoadedModule). EntersIn plan (placed_modules ls) entry address) (sym same) begins
