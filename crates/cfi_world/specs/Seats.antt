-- A guest's seat in a world: the guest, how far it is in a service, and what its QUIET word tells. An event of
-- the guest is one load or store of a shared word, with the private work up to the next one.
use Rattle.std.specs.Prelude.{ℕ, ◌/◌, ◌==◌, nat_lt, ◌&&◌, Bool, true, false, is_none, is_some, if◌then◌else◌, slice_set, Option, Some, None}
use Rattle.cfi_word.specs.declared.limits.TheConstants.{MAX_OPENS}
use Rattle.cfi_word.specs.declared.services.TheConstants.{OPEN}
use Rattle.cfi_word.specs.Table.{Code, Tary, Bary}
use Rattle.cfi_model.specs.declared.act.Wait.{Wait}
use Rattle.cfi_model.specs.declared.act.Wait.TheVariants as waits
use Rattle.cfi_model.specs.declared.quiet.Point.{Point}
use Rattle.cfi_model.specs.declared.quiet.Point.TheVariants.{Outside, Asking, Leaving, Found}
use Rattle.cfi_model.specs.declared.quiet.Quiet.{Quiet}
use Rattle.cfi_model.specs.declared.quiet.Quiet.TheVariants.{Parked, Published}
use Rattle.cfi_model.specs.Begin.{begin_of}
use Rattle.cfi_model.specs.Log.{opens}
use Rattle.cfi_model.specs.Raw.{Raw}
use Rattle.cfi_model.specs.Run.{finish_of, serve_of}
use Rattle.cfi_model.specs.Service.{too_many}
use Rattle.cfi_model.specs.Words.{Tables, epoch_in_force, word_at}
use Rattle.cfi_model.specs.InForce.{tary_index}
use Rattle.cfi_model.specs.World.{World, quiet_of, point_of}
use Rattle.rv_guest.specs.Guest.{spent}

-- a guest, how far it is in a service, and its QUIET word
pub record Seat : Type 0 where
  pub guest : Raw
  pub point : Point
  pub quiet : Quiet

-- the seat of a guest of a world, and the world with another seat for it
abbrev pub seat_of : World → (guest : ℕ) → Raw → Seat
seat_of w guest r = record { guest = r; point = point_of w guest; quiet = quiet_of w guest }

-- a world with another seat of a guest
abbrev pub with_seat : World → (guest : ℕ) → Seat → World
with_seat w guest s = record w {
  quiets = slice_set w.quiets guest s.quiet;
  guests = slice_set w.guests guest s.guest;
  points = slice_set w.points guest s.point;
}

-- a guest that would fetch next, and has fetched as many instructions as it was given, stops with Fuel
abbrev pub rested : (fuel : ℕ) → Raw → Raw
rested fuel r = if is_none r.waits then spent fuel r else r

-- the guest fetches a code word, or loads the table word that it waits for
abbrev pub loads : Option Wait → Tables → Raw → Raw
loads None t r = begin_of r (word_at t (Code (r.base.pc / 4)))
loads (Some (waits.Tary at rd)) t r = finish_of r (word_at t (Tary (tary_index t.code_words at)))
loads (Some (waits.Bary slot rd)) t r = finish_of r (word_at t (Bary slot))
loads (Some (waits.Service number)) t r = r

-- a service needs an answer: it is an open that may be logged
abbrev pub needs_answer : (number : ℕ) → Raw → Bool
needs_answer number r = (number == OPEN) && nat_lt (opens r.base.log) MAX_OPENS

-- what comes after a service's work: a quiescent point, but for a guest that has stopped
abbrev pub left_by : Raw → Point
left_by r = if is_some r.base.stop then Outside else Leaving

-- a service begins with a store in the guest's QUIET word, in the event of which its work is done, or the guest begins
-- to wait for its answer
abbrev pub serves : (number : ℕ) → Seat → Seat
serves number s = record {
  guest = if needs_answer number s.guest then s.guest else serve_of s.guest too_many;
  point = if needs_answer number s.guest then Asking else left_by (serve_of s.guest too_many);
  quiet = Parked;
}

-- an event of a guest outside services, by what it waits for
abbrev pub seat_by : Option Wait → Tables → (fuel : ℕ) → Seat → Seat
seat_by (Some (waits.Service number)) t fuel s = serves number s
seat_by None t fuel s = record s { guest = rested fuel (loads None t s.guest) }
seat_by (Some (waits.Tary at rd)) t fuel s =
    record s { guest = rested fuel (loads (Some (waits.Tary at rd)) t s.guest) }
seat_by (Some (waits.Bary slot rd)) t fuel s =
    record s { guest = rested fuel (loads (Some (waits.Bary slot rd)) t s.guest) }

-- it ends with a quiescent point: a load of EPOCH, then a store in the guest's QUIET word, with which the guest goes on
abbrev pub seat_at : Point → Tables → (fuel : ℕ) → Seat → Seat
seat_at Outside t fuel s = seat_by s.guest.waits t fuel s
seat_at Asking t fuel s = s
seat_at Leaving t fuel s = record s { point = Found (epoch_in_force t) }
seat_at (Found epoch) t fuel s =
    record { guest = rested fuel s.guest; point = Outside; quiet = Published epoch }

-- a seat after one event of its guest
abbrev pub seat_after : Tables → (fuel : ℕ) → Seat → Seat
seat_after t fuel s = seat_at s.point t fuel s

-- the guest waits for an answer
abbrev pub is_asking : Point → Bool
is_asking Outside = false
is_asking Asking = true
is_asking Leaving = false
is_asking (Found epoch) = false
