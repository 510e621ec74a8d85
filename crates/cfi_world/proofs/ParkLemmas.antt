-- A guest inside a service, which is parked: it keeps no Bary word, and its QUIET word tells no epoch.
use Rattle.std.proofs.Common.{◌≡◌, ◌≢◌, ℕ, List, Option, Some, None, refl, sym, ◌∙◌, subst, inl, inr}
use Rattle.std.proofs.lemmas.Option.{none-some}
use Rattle.cfi_unit.specs.declared.unit.Unit.{Unit as CodeUnit}
use Rattle.cfi_unit.specs.declared.unit.Unit.TheVariants as units
use Rattle.cfi_word.specs.declared.services.TheConstants.{OPEN}
use Rattle.cfi_model.specs.declared.act.Wait.{Wait}
use Rattle.cfi_model.specs.declared.act.Wait.TheVariants as waits
use Rattle.cfi_model.specs.declared.quiet.Point.{Point}
use Rattle.cfi_model.specs.declared.quiet.Point.TheVariants.{Outside, Asking, Leaving, Found}
use Rattle.cfi_model.specs.declared.quiet.Quiet.{Quiet}
use Rattle.cfi_model.specs.declared.quiet.Quiet.TheVariants.{Unregistered, Parked, Published}
use Rattle.cfi_model.specs.History.{History, IsHistory}
use Rattle.cfi_model.specs.Raw.{Raw}
use Rattle.cfi_model.specs.Running.{IsGuest}
use Rattle.cfi_model.specs.Shows.{Shows, MayWait, KeepsWords}
use Rattle.cfi_model.specs.State.{State}
use Rattle.cfi_model.specs.Words.{Tables}
use Rattle.cfi_model.proofs.RunningLemmas.{running_shows}
use Rattle.cfi_world.specs.Seats.{Seat}
use Rattle.cfi_world.specs.Worlds.{FitsPoint, IsQuietSince, QuietFits}
use Rattle.cfi_world.proofs.RestLemmas.{going_runs}

-- a guest asks for a service
abbrev pub IsServing : Option Wait → Type 0
IsServing None = ⊥
IsServing (Some (waits.Tary at rd)) = ⊥
IsServing (Some (waits.Bary slot rd)) = ⊥
IsServing (Some (waits.Service number)) = Unit {0}

-- only a service waits in a service, and it keeps no table words
keeps_none : (code_words number : ℕ) (unit : CodeUnit) (s : State) (bary tary : Option ℕ)
    → MayWait code_words unit s (Some (waits.Service number)) → KeepsWords unit bary tary → bary ≡ None
keeps_none code_words number (units.Plain insn) s bary tary may keeps = absurd may
keeps_none code_words number (units.Load kind rd rs1 imm) s bary tary may keeps = absurd may
keeps_none code_words number (units.Store kind rs1 rs2 imm) s bary tary may keeps = absurd may
keeps_none code_words number (units.Branch c rs1 rs2 off) s bary tary may keeps = absurd may
keeps_none code_words number (units.Jump link off) s bary tary may keeps = absurd may
keeps_none code_words number (units.Check link rs1 imm slot) s bary tary may keeps = absurd may
keeps_none code_words number units.Service s bary tary may keeps = keeps.0

pub shown_keeps : (h : History) (code : List ℕ) (retries : ℕ) (s : State) (r : Raw) (number : ℕ)
    → Shows h code retries s r → r.waits ≡ Some (waits.Service number) → r.bary ≡ None
shown_keeps h code retries s r number (inl between) is =
    absurd (none-some (waits.Service number) (sym between.idle ∙ is))
shown_keeps h code retries s r number (inr inside) is =
    keeps_none _ number inside.unit s r.bary r.tary (subst (MayWait _ inside.unit s) is inside.waits) inside.keeps

-- inside a service a guest keeps no Bary word
bare_by : (h : History) (code : List ℕ) → IsHistory h code → (t : Tables) (retries : ℕ) (s : State) (r : Raw)
    → IsGuest h code retries s r → r.base.stop ≡ None → (point : Point) → FitsPoint t r point → point ≢ Outside
    → r.bary ≡ None
bare_by h code known t retries s r runs going Outside fits inside = absurd (inside refl)
bare_by h code known t retries s r runs going Asking fits inside =
    shown_keeps h code retries s r OPEN
    (running_shows h code known retries s r (going_runs h code retries s r runs going)) fits.0
bare_by h code known t retries s r runs going Leaving fits inside = fits.bare
bare_by h code known t retries s r runs going (Found epoch) fits inside = fits.0.bare

-- a guest that has not stopped, and is in no service, has published an epoch
pub record HasPublished (t : Tables) (guest : ℕ) (s : Seat) (quiet : Quiet) : Type 0 where
  pub epoch : ℕ
  pub is : quiet ≡ Published epoch
  pub since : IsQuietSince t guest s.guest epoch

pub has_published : (t : Tables) (guest : ℕ) (s : Seat) (quiet : Quiet) → QuietFits t guest s quiet
    → s.guest.base.stop ≡ None → s.point ≡ Outside → HasPublished t guest s quiet
has_published t guest s Unregistered fits going outside = absurd (fits going)
has_published t guest s Parked (inl inside) going outside = absurd (inside outside)
has_published t guest s Parked (inr stopped) going outside = absurd (stopped going)
has_published t guest s (Published epoch) fits going outside = record { epoch = epoch; is = refl; since = fits.1 }

-- one that keeps a Bary word is in no service
pub keeps_outside : (h : History) (code : List ℕ) → IsHistory h code → (t : Tables) (retries : ℕ) (shown : State)
    (s : Seat) → IsGuest h code retries shown s.guest → s.guest.base.stop ≡ None → FitsPoint t s.guest s.point
    → (word : ℕ) → s.guest.bary ≡ Some word → s.point ≡ Outside
keeps_outside h code known t retries shown s runs going fits word keeps = by s.point refl
  where
    never : s.guest.bary ≡ None → ⊥
    never none = none-some word (sym none ∙ keeps)

    bare : s.point ≢ Outside → s.guest.bary ≡ None
    bare inside = bare_by h code known t retries shown s.guest runs going s.point fits inside

    by : (point : Point) → s.point ≡ point → s.point ≡ Outside
    by Outside is = is
    by Asking is = absurd (never (bare (λ e. absurd (cc))))
    by Leaving is = absurd (never (bare (λ e. absurd (cc))))
    by (Found epoch) is = absurd (never (bare (λ e. absurd (cc))))

-- a guest inside a service that has not stopped is parked
pub is_parked : (t : Tables) (guest : ℕ) (s : Seat) (quiet : Quiet) → QuietFits t guest s quiet
    → s.guest.base.stop ≡ None → s.point ≢ Outside → quiet ≡ Parked
is_parked t guest s Unregistered fits going inside = absurd (fits going)
is_parked t guest s Parked fits going inside = refl
is_parked t guest s (Published epoch) fits going inside = absurd (inside fits.0)
