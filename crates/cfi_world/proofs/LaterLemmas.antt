-- A seat at a later moment of the tables, when its guest has had no event.
use Rattle.std.proofs.Common.{◌≡◌, ◌≢◌, ℕ, ◌+◌, ◌<◌, ◌≤◌, None, refl, arith, inl, inr}
use Rattle.cfi_model.specs.declared.quiet.Point.{Point}
use Rattle.cfi_model.specs.declared.quiet.Point.TheVariants.{Outside, Asking, Leaving, Found}
use Rattle.cfi_model.specs.declared.quiet.Quiet.{Quiet}
use Rattle.cfi_model.specs.declared.quiet.Quiet.TheVariants.{Unregistered, Parked, Published}
use Rattle.cfi_model.specs.InForce.{history_of, code_in_force, GoesOn}
use Rattle.cfi_model.specs.Raw.{Raw}
use Rattle.cfi_model.specs.Running.{IsGuest}
use Rattle.cfi_model.specs.State.{State}
use Rattle.cfi_model.specs.Tables.{IsTables}
use Rattle.cfi_model.specs.Words.{Tables, next_epoch}
use Rattle.cfi_model.proofs.InForceLemmas.{history_is, extends, keeps, force_rises, policy_rises}
use Rattle.cfi_model.proofs.GrowLemmas.{running_grows}
use Rattle.cfi_world.proofs.SeatLemmas.{AreSeated}
use Rattle.cfi_world.specs.Seats.{Seat}
use Rattle.cfi_world.specs.Worlds.{IsQuietSince, QuietFits, FitsPoint, settled_epoch}

module _ (t u : Tables) (is : IsTables t) (later : IsTables u) (on : GoesOn t u) where
  -- the update has come no further above the guest's floor than its quiescent point lets it
  pub record IsAdmittedAt (guest floor : ℕ) : Type 0 where
    pub newest : next_epoch u ≤ floor + u.versions
    pub next : u.asked ≢ None → guest < u.tested → next_epoch u + 1 ≤ floor + u.versions

  -- so it is for each guest that has published an epoch
  abbrev pub Admits : (guest : ℕ) → Raw → Quiet → Type 0
  Admits guest r quiet =
      (q : ℕ) → quiet ≡ Published q → (since : IsQuietSince t guest r q) → IsAdmittedAt guest since.floor

  pub guest_later : (retries : ℕ) (s : State) (r : Raw) → IsGuest (history_of t) (code_in_force t) retries s r
      → IsGuest (history_of u) (code_in_force u) retries s r
  guest_later retries s r (inl runs) =
      inl (running_grows (history_of t) (history_of u) (extends t u is later on) (code_in_force t) (code_in_force u)
      (keeps t u is later on) (history_is t is) retries s r runs)
  guest_later retries s r (inr over) =
      inr (
        over.0,
        running_grows (history_of t) (history_of u) (extends t u is later on) (code_in_force t)
            (code_in_force u) (keeps t u is later on) (history_is t is) retries s over.0 over.1,
        over.2,
      )

  quiet_later : (guest : ℕ) (s : Seat) (quiet : Quiet) → settled_epoch t ≤ settled_epoch u
      → Admits guest s.guest quiet → QuietFits t guest s quiet → QuietFits u guest s quiet
  quiet_later guest s Unregistered rises admitted fits = fits
  quiet_later guest s Parked rises admitted fits = fits
  quiet_later guest s (Published q) rises admitted (outside, since) =
      let now = admitted q refl since in (
        outside,
        record {
          published = omega (arith, since.published, force_rises t u is later on);
          floor = since.floor;
          least = since.least;
          settled = omega (arith, since.settled, rises);
          newest = now.newest;
          next = now.next;
          kept = λ word e.
              let kept = since.kept word e in
              record { least = kept.least; most = omega (arith, kept.most, force_rises t u is later on) };
        },
      )

  point_later : (r : Raw) (point : Point) → FitsPoint t r point → FitsPoint u r point
  point_later r Outside fits = tt
  point_later r Asking fits = fits
  point_later r Leaving fits = fits
  point_later r (Found epoch) fits = (fits.0, omega (arith, fits.1, force_rises t u is later on))

  pub seat_later : (fuel guest : ℕ) (s : Seat) → settled_epoch t ≤ settled_epoch u → Admits guest s.guest s.quiet
      → AreSeated t is fuel guest s → AreSeated u later fuel guest s
  seat_later fuel guest s rises admitted both = record {
    seat = record {
      steps_most = both.seat.steps_most;
      steps_left = both.seat.steps_left;
      stopped = both.seat.stopped;
      point = point_later s.guest s.point both.seat.point;
      logged = omega (arith, both.seat.logged, policy_rises t u is later on);
    };
    running = record {
      retries = both.running.retries;
      shown = both.running.shown;
      runs = guest_later both.running.retries both.running.shown s.guest both.running.runs;
      spent = both.running.spent;
      quiet = quiet_later guest s s.quiet rises admitted both.running.quiet;
    };
  }
