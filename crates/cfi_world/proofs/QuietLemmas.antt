-- What a guest has published never falls, and who is registered exists.
use Rattle.std.proofs.Common.{◌≡◌, ℕ, zero, suc, ◌+◌, ◌-◌, ◌≤◌, List, length, slice_get, Option, Some, None, refl, sym, ap, ◌∙◌, subst, arith, inl, inr}
use Rattle.std.proofs.Math.Seq.{take-length}
use Rattle.cfi_model.specs.declared.quiet.Point.{Point}
use Rattle.cfi_model.specs.declared.quiet.Point.TheVariants.{Outside, Asking, Leaving, Found}
use Rattle.cfi_model.specs.declared.quiet.Quiet.{Quiet}
use Rattle.cfi_model.specs.declared.quiet.Quiet.TheVariants.{Unregistered, Parked, Published}
use Rattle.cfi_model.specs.Raw.{Raw}
use Rattle.cfi_model.specs.Words.{epoch_in_force}
use Rattle.cfi_model.specs.World.{World, point_of, quiet_of}
use Rattle.cfi_model.proofs.InForceLemmas.{force_rises}
use Rattle.cfi_world.specs.Laws.{MayTurns, world_after}
use Rattle.cfi_world.specs.Moments.{world_at}
use Rattle.cfi_world.specs.Outcomes.{HasGuest, IsRefusal, PublishesNoneAbove}
use Rattle.cfi_world.specs.Seats.{seat_of}
use Rattle.cfi_world.specs.Turns.{turn_of}
use Rattle.cfi_world.specs.Worlds.{IsWorld, QuietFits}
use Rattle.cfi_world.specs.declared.event.Event.{Event}
use Rattle.cfi_world.proofs.MomentLemmas.{next_world, on_between, past_world, world_is}
use Rattle.cfi_world.proofs.MovesLemmas.{IsIdlePoint, Moves, quiet_moves}

pub never_told : (q : ℕ) → Unregistered ≡ Published q → ⊥
never_told q e = absurd (cc)

-- who refuses an update exists
pub by_guest : (w : World) (is : IsWorld w) (guest quiet : ℕ) → quiet_of w guest ≡ Published quiet → (o : Option Raw)
    → slice_get w.guests guest ≡ o → HasGuest w guest
by_guest w is guest quiet published None none = absurd (never_told quiet (sym (is.absent guest none) ∙ published))
by_guest w is guest quiet published (Some r) here = (r, here)

pub refusal_guest : (w : World) (guest quiet : ℕ) → IsWorld w → IsRefusal w guest quiet → HasGuest w guest
refusal_guest w guest quiet is refusal =
    by_guest w is guest quiet refusal.published (slice_get w.guests guest) refl

-- ---- what was published before

-- what a guest publishes is not below this, nor what it has found and is to publish
abbrev pub IsNotBelow : (least : ℕ) → Quiet → Point → Type 0
IsNotBelow least Unregistered point = Unit {0}
IsNotBelow least (Published epoch) point = least ≤ epoch
IsNotBelow least Parked Outside = Unit {0}
IsNotBelow least Parked Asking = Unit {0}
IsNotBelow least Parked Leaving = Unit {0}
IsNotBelow least Parked (Found epoch) = least ≤ epoch

-- where it has found nothing
idle_not : (least : ℕ) (quiet : Quiet) (point : Point) → IsNotBelow least quiet point → IsNotBelow least quiet Leaving
idle_not least Unregistered point told = tt
idle_not least (Published epoch) point told = told
idle_not least Parked point told = tt

-- where it finds what is in force
finds_not : (least force : ℕ) (quiet : Quiet) (point : Point) → least ≤ force → IsNotBelow least quiet point
    → IsNotBelow least quiet (Found force)
finds_not least force Unregistered point low told = tt
finds_not least force (Published epoch) point low told = told
finds_not least force Parked point low told = low

-- and where it parks
parks_not : (least : ℕ) (point : Point) → IsIdlePoint point → IsNotBelow least Parked point
parks_not least Outside idle = tt
parks_not least Asking idle = tt
parks_not least Leaving idle = tt
parks_not least (Found epoch) idle = absurd idle

module _ (w : World) (is : IsWorld w) (guest least : ℕ) (low : least ≤ epoch_in_force w.tables)
    (told : IsNotBelow least (quiet_of w guest) (point_of w guest)) (event : Event) where
  moves_not : (quiet : Quiet) (point : Point) → Moves w is guest event quiet point → IsNotBelow least quiet point
  moves_not quiet point (inl (same, inl still)) =
      subst (λ q. IsNotBelow least q point) (sym same)
      (subst (IsNotBelow least (quiet_of w guest)) (sym still) told)
  moves_not quiet point (inl (same, inr (inl leaving))) =
      subst (λ q. IsNotBelow least q point) (sym same)
      (subst (IsNotBelow least (quiet_of w guest)) (sym leaving)
      (idle_not least (quiet_of w guest) (point_of w guest) told))
  moves_not quiet point (inl (same, inr (inr finds))) =
      subst (λ q. IsNotBelow least q point) (sym same)
      (subst (IsNotBelow least (quiet_of w guest)) (sym finds)
      (finds_not least (epoch_in_force w.tables) (quiet_of w guest) (point_of w guest) low told))
  moves_not quiet point (inr (inl tells)) =
      subst (λ q. IsNotBelow least q point) (sym tells.says)
      (subst (IsNotBelow least Parked) tells.found
      (subst (λ q. IsNotBelow least q (point_of w guest)) tells.parked told))
  moves_not quiet point (inr (inr (inl (parked, idle)))) =
      subst (λ q. IsNotBelow least q point) (sym parked) (parks_not least point idle)
  moves_not quiet point (inr (inr (inr gone))) = subst (λ q. IsNotBelow least q point) (sym gone) tt

  turn_not : IsNotBelow least (quiet_of (turn_of w event).world guest) (point_of (turn_of w event).world guest)
  turn_not =
      let v : World = (turn_of w event).world in
      moves_not (quiet_of v guest) (point_of v guest) (quiet_moves w is guest event)

-- over a run
pub published_low : (w : World) (is : IsWorld w) (guest epoch : ℕ) → quiet_of w guest ≡ Published epoch
    → epoch ≤ epoch_in_force w.tables
published_low w is guest epoch published =
    let here = by_guest w is guest epoch published (slice_get w.guests guest) refl in
    let fits = subst (QuietFits w.tables guest (seat_of w guest here.0)) published
    (is.running guest here.0 here.1).quiet in
    fits.1.published

module _ (w : World) (is : IsWorld w) (run : List Event) (may : MayTurns w run) (guest least : ℕ) where
  abbrev at : (moment : ℕ) → World
  at moment = world_at w run moment

  abbrev Holds : (moment : ℕ) → Type 0
  Holds moment = IsNotBelow least (quiet_of (at moment) guest) (point_of (at moment) guest)

  next_by : (n : ℕ) → least ≤ epoch_in_force (at n).tables → Holds n → (o : Option Event) → slice_get run n ≡ o
      → Holds (n + 1)
  next_by n low told None none =
      subst (λ (v : World). IsNotBelow least (quiet_of v guest) (point_of v guest)) (sym (past_world w run n none)) told
  next_by n low told (Some event) here =
      subst (λ (v : World). IsNotBelow least (quiet_of v guest) (point_of v guest))
      (sym (next_world w run n event here))
      (turn_not (at n) (world_is w is run may n) guest least low told event)

  pub holds_from : (n k : ℕ) → least ≤ epoch_in_force (at n).tables → Holds n → Holds (n + k)
  holds_from n zero low told =
      let none : n ≡ n + 0 = omega arith in subst Holds none told
  holds_from n (suc k) low told =
      let same : n + k + 1 ≡ n + suc k = omega arith in
      let up = force_rises (at n).tables (at (n + k)).tables (world_is w is run may n).tables
      (world_is w is run may (n + k)).tables (on_between w is run may n (n + k) (omega arith)) in
      subst Holds same
      (next_by (n + k) (omega (arith, low, up)) (holds_from n k low told) (slice_get run (n + k)) refl)

pub publishes_none_above : PublishesNoneAbove
publishes_none_above w is run may guest quiet refusal moment within epoch published =
    let here = published_low (world_at w run moment) (world_is w is run may moment) guest epoch published in
    let first =
    subst (λ q. IsNotBelow epoch q (point_of (world_at w run moment) guest)) (sym published) (omega arith) in
    let last = holds_from w is run may guest epoch moment (length run - moment) here first in
    let sum : moment + (length run - moment) ≡ length run = omega (arith, within) in
    let end : world_at w run (moment + (length run - moment)) ≡ world_after w run =
    ap (world_at w run) sum ∙ ap (λ list. world_after w list) (take-length run) in
    subst (λ q. IsNotBelow epoch q (point_of (world_after w run) guest)) refusal.published
    (subst (λ (v : World). IsNotBelow epoch (quiet_of v guest) (point_of v guest)) end last)
