-- What holds of a world at every moment.
use Rattle.std.specs.Prelude.{◌≡◌, ◌≢◌, ◌⊎◌, ℕ, ◌+◌, ◌-◌, ◌^◌, ◌≤◌, ◌<◌, nat_lt, if◌then◌else◌, length, slice_get, Option, Some, None, ⊤}
use Rattle.cfi_unit.specs.declared.log.Stop.TheVariants.{Fuel}
use Rattle.cfi_word.specs.Rank.{stores_of}
use Rattle.cfi_word.specs.Word.{epoch_in}
use Rattle.cfi_word.specs.declared.limits.TheConstants.{GUESTS, MAX_OPENS}
use Rattle.cfi_word.specs.declared.services.TheConstants.{OPEN}
use Rattle.cfi_model.specs.declared.act.Wait.TheVariants as waits
use Rattle.cfi_model.specs.declared.history.Entry.{Entry}
use Rattle.cfi_model.specs.declared.quiet.Point.{Point}
use Rattle.cfi_model.specs.declared.quiet.Point.TheVariants.{Outside, Asking, Leaving, Found}
use Rattle.cfi_model.specs.declared.quiet.Quiet.{Quiet}
use Rattle.cfi_model.specs.declared.quiet.Quiet.TheVariants.{Unregistered, Parked, Published}
use Rattle.cfi_model.specs.InForce.{history_of, code_in_force}
use Rattle.cfi_model.specs.Running.{IsGuest}
use Rattle.cfi_model.specs.State.{State}
use Rattle.cfi_model.specs.Log.{last_policy, opens}
use Rattle.cfi_model.specs.Raw.{Raw}
use Rattle.cfi_model.specs.Tables.{IsTables}
use Rattle.cfi_model.specs.Words.{Tables, next_epoch, epoch_in_force, policy_in_force}
use Rattle.cfi_model.specs.World.{World, quiet_of}
use Rattle.cfi_world.specs.Seats.{Seat, seat_of}

-- a guest inside a service whose work is done keeps no Bary word, and goes on with its next fetch
pub record IsLeaving (r : Raw) : Type 0 where
  pub going : r.base.stop ≡ None
  pub waits : r.waits ≡ None
  pub bare : r.bary ≡ None

-- one that waits for its answer is in an open that may be logged
abbrev pub FitsPoint : Tables → Raw → Point → Type 0
FitsPoint t r Outside = ⊤
FitsPoint t r Asking = (r.waits ≡ Some (waits.Service OPEN)) × (opens r.base.log < MAX_OPENS)
FitsPoint t r Leaving = IsLeaving r
FitsPoint t r (Found epoch) = IsLeaving r × (epoch ≤ epoch_in_force t)

-- a guest has no more steps than its fuel, and one that would fetch has fewer; one that has stopped waits for nothing;
-- no policy that is logged is above the one in force
pub record IsSeat (t : Tables) (fuel : ℕ) (s : Seat) : Type 0 where
  pub steps_most : s.guest.base.steps ≤ fuel
  pub steps_left : s.guest.base.stop ≡ None → s.guest.waits ≡ None → s.point ≡ Outside
      → s.guest.base.steps < fuel
  pub stopped : s.guest.base.stop ≢ None → s.guest.waits ≡ None
  pub point : FitsPoint t s.guest s.point
  pub logged : last_policy s.guest.base.log ≤ policy_in_force t

-- the epoch that each Bary word has at least: that of the newest entry once all its words are stored, else the one
-- before
abbrev pub settled_epoch : Tables → ℕ
settled_epoch t = if nat_lt t.stored (stores_of t.code_words) then next_epoch t - 2 else next_epoch t - 1

-- a Bary word that a guest keeps is of this epoch at the earliest
pub record IsKeptSince (t : Tables) (floor word : ℕ) : Type 0 where
  pub least : floor ≤ epoch_in word
  pub most : epoch_in word ≤ epoch_in_force t

-- Since the guest published this epoch its Bary words are of a floor's epoch at least, which is not above those that
-- are stored, and no update has come too far above it: neither the newest one, nor the next one, where it has passed the
-- guest's test.
pub record IsQuietSince (t : Tables) (guest : ℕ) (r : Raw) (quiet : ℕ) : Type 0 where
  pub published : quiet ≤ epoch_in_force t
  pub floor : ℕ
  pub least : quiet ≤ floor + 1
  pub settled : floor ≤ settled_epoch t
  pub newest : next_epoch t ≤ floor + t.versions
  pub next : t.asked ≢ None → guest < t.tested → next_epoch t + 1 ≤ floor + t.versions
  pub kept : (word : ℕ) → r.bary ≡ Some word → IsKeptSince t floor word

-- a guest that is registered no more has stopped, and one that is parked is in a service, or has stopped in one; a
-- guest that has published is in none
abbrev pub QuietFits : Tables → (guest : ℕ) → Seat → Quiet → Type 0
QuietFits t guest s Unregistered = s.guest.base.stop ≢ None
QuietFits t guest s Parked = (s.point ≢ Outside) ⊎ (s.guest.base.stop ≢ None)
QuietFits t guest s (Published quiet) = (s.point ≡ Outside) × IsQuietSince t guest s.guest quiet

-- a guest runs over the history of the tables, or was stopped by the fuel that it then has had
pub record IsRunningSeat (t : Tables) (fuel guest : ℕ) (s : Seat) : Type 0 where
  pub retries : ℕ
  pub shown : State
  pub runs : IsGuest (history_of t) (code_in_force t) retries shown s.guest
  pub spent : s.guest.base.stop ≡ Some Fuel → s.guest.base.steps ≡ fuel
  pub quiet : QuietFits t guest s s.quiet

-- an update under way is one entry more, some day
abbrev pub pending : Option Entry → ℕ
pending None = 0
pending (Some entry) = 1

-- no number is registered that no guest has
pub record IsWorld (w : World) : Type 0 where
  pub tables : IsTables w.tables
  pub quiets_many : length w.quiets ≡ GUESTS
  pub points_many : length w.points ≡ GUESTS
  pub few : length w.guests ≤ GUESTS
  pub absent : (guest : ℕ) → slice_get w.guests guest ≡ None → quiet_of w guest ≡ Unregistered
  pub room : w.updates ≤ w.room
  pub room_fits : w.room < 2 ^ 32
  pub fuel_fits : w.fuel < 2 ^ 32
  pub entries_few : length w.tables.entries + pending w.tables.asked ≤ w.updates + 1
  pub seats : (guest : ℕ) (r : Raw) → slice_get w.guests guest ≡ Some r → IsSeat w.tables w.fuel (seat_of w guest r)
  pub running : (guest : ℕ) (r : Raw) → slice_get w.guests guest ≡ Some r
      → IsRunningSeat w.tables w.fuel guest (seat_of w guest r)
