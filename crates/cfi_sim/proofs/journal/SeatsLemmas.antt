-- An event of a guest, and a release, leave the world in agreement with the journal.
use Rattle.std.proofs.Common.{◌≡◌, ◌≢◌, ℕ, ◌<◌, ◌≤◌, cond, is_some, Bool, true, false, List, length, length-set, slice_get, slice_set, slice_index_or, Option, Some, None, refl, sym, ◌∙◌, ap, subst, arith, inl, inr}
use Rattle.std.proofs.lemmas.Bool.{cases_eq}
use Rattle.std.proofs.lemmas.List.{get_or-set_same, get_or-set_other}
use Rattle.std.proofs.lemmas.Option.{slice_get_within, slice_get-get_or}
use Rattle.cfi_model.specs.declared.act.Wait.{Wait}
use Rattle.cfi_model.specs.declared.act.Wait.TheVariants as waits
use Rattle.cfi_model.specs.declared.quiet.Point.{Point}
use Rattle.cfi_model.specs.declared.quiet.Point.TheVariants.{Outside, Asking, Leaving, Found}
use Rattle.cfi_model.specs.declared.quiet.Quiet.{Quiet}
use Rattle.cfi_model.specs.declared.quiet.Quiet.TheVariants.{Unregistered, Parked, Published}
use Rattle.cfi_model.specs.Raw.{Raw}
use Rattle.cfi_model.specs.Run.{serve_of}
use Rattle.cfi_model.specs.Service.{too_many}
use Rattle.cfi_model.specs.Words.{epoch_in_force}
use Rattle.cfi_model.specs.World.{World, quiet_of, point_of}
use Rattle.cfi_plan.specs.declared.plan.Plan.{Plan}
use Rattle.cfi_sim.specs.Agrees.{IsOfPlan, HasFound, GuestsAgree}
use Rattle.cfi_world.specs.Seats.{Seat, seat_of, with_seat, needs_answer, left_by, serves, seat_by, seat_at, seat_after}
use Rattle.cfi_world.specs.Worlds.{IsWorld}
use Rattle.cfi_world.proofs.OthersLemmas.{set_apart}

published_same : (a b : ℕ) → Published a ≡ Published b → a ≡ b
published_same a b e = cc

never_published : (quiet : ℕ) → Unregistered ≡ Published quiet → ⊥
never_published quiet e = absurd (cc)

parked_apart : (quiet : ℕ) → Parked ≡ Published quiet → ⊥
parked_apart quiet e = absurd (cc)

pub set_one : {X : Type 0} (xs : List X) (k : ℕ) (x v : X) → slice_get xs k ≡ Some x
    → slice_get (slice_set xs k v) k ≡ Some v
set_one xs k x v there =
    let inside = slice_get_within xs k x there in
    slice_get-get_or (slice_set xs k v) k v (omega (arith, inside, length-set xs k v))
    ∙ ap (λ y. Some y) (get_or-set_same xs k v v inside)

-- what an element of a list is after one was set
set_cases : {X : Type 0} (xs : List X) (k other : ℕ) (v d : X) (P : X → Type 0) → k < length xs
    → (other ≡ k → P v) → (other ≢ k → P (slice_index_or xs other d)) → P (slice_index_or (slice_set xs k v) other d)
set_cases {X} xs k other v d P within here there = elim (cases_eq other k) [
  | inl same ↦
      subst P (sym (ap (λ (n : ℕ). slice_index_or (slice_set xs k v) n d) same ∙ get_or-set_same xs k v d within))
      (here same)
  | inr apart ↦ subst P (sym (get_or-set_other xs k other v d apart)) (there apart)
]

module _ (plan : Plan) (w : World) (is : IsWorld w) (agrees : GuestsAgree plan w) (guest : ℕ) (r : Raw)
    (here : slice_get w.guests guest ≡ Some r) where
  inside : guest < length w.guests
  inside = slice_get_within w.guests guest r here

  -- a guest has another seat
  module _ (s : Seat) (least : (quiet : ℕ) → s.quiet ≡ Published quiet → plan.first ≤ quiet)
      (found : HasFound plan.first s.point) where
    abbrev new : World
    new = with_seat w guest s

    quiets : (other quiet : ℕ) → quiet_of new other ≡ Published quiet → IsOfPlan plan new other quiet
    quiets other quiet =
        set_cases w.quiets guest other s.quiet Unregistered
        (λ (q : Quiet). q ≡ Published quiet → IsOfPlan plan new other quiet)
        (omega (arith, inside, is.few, is.quiets_many))
        (λ same published. record {
          known = omega (arith, same, inside, agrees.count);
          r = s.guest;
          there = ap (slice_get new.guests) same ∙ set_one w.guests guest r s.guest here;
          least = least quiet published;
        })
        (λ apart published.
        let of = agrees.quiets other quiet published in
        record {
          known = of.known;
          r = of.r;
          there = set_apart w.guests guest other s.guest (λ e. apart (sym e)) ∙ of.there;
          least = of.least;
        })

    points : (other : ℕ) → HasFound plan.first (point_of new other)
    points other =
        set_cases w.points guest other s.point Outside (HasFound plan.first)
        (omega (arith, inside, is.few, is.points_many)) (λ same. found) (λ apart. agrees.points other)

    pub seat_agrees : GuestsAgree plan new
    seat_agrees = record {
      count = length-set w.guests guest s.guest ∙ agrees.count;
      fuel = agrees.fuel;
      room = agrees.room;
      quiets = quiets;
      points = points;
    }

  -- ---- the seat after an event of its own

  module _ (force : plan.first ≤ epoch_in_force w.tables) where
    abbrev seat : Seat
    seat = seat_of w guest r

    least_before : (quiet : ℕ) → seat.quiet ≡ Published quiet → plan.first ≤ quiet
    least_before quiet published = (agrees.quiets guest quiet published).least

    left_found : (stopped : Bool) → HasFound plan.first (cond stopped Outside Leaving)
    left_found true = tt
    left_found false = tt

    either_found : (need : Bool) (after : Raw) → HasFound plan.first (cond need Asking (left_by after))
    either_found true after = tt
    either_found false after = left_found (is_some after.base.stop)

    turned_by : (wait : Option Wait) → GuestsAgree plan (with_seat w guest (seat_by wait w.tables w.fuel seat))
    turned_by (Some (waits.Service number)) =
        seat_agrees (serves number seat) (λ quiet published. absurd (parked_apart quiet published))
        (either_found (needs_answer number r) (serve_of r too_many))
    turned_by None = seat_agrees (seat_by None w.tables w.fuel seat) least_before (agrees.points guest)
    turned_by (Some (waits.Tary at rd)) =
        seat_agrees (seat_by (Some (waits.Tary at rd)) w.tables w.fuel seat) least_before (agrees.points guest)
    turned_by (Some (waits.Bary slot rd)) =
        seat_agrees (seat_by (Some (waits.Bary slot rd)) w.tables w.fuel seat) least_before (agrees.points guest)

    turned_at : (point : Point) → seat.point ≡ point
        → GuestsAgree plan (with_seat w guest (seat_at point w.tables w.fuel seat))
    turned_at Outside at = turned_by r.waits
    turned_at Asking at = seat_agrees (seat_at Asking w.tables w.fuel seat) least_before (agrees.points guest)
    turned_at Leaving at = seat_agrees (seat_at Leaving w.tables w.fuel seat) least_before force
    turned_at (Found epoch) at =
        seat_agrees (seat_at (Found epoch) w.tables w.fuel seat)
        (λ quiet published.
        let same = published_same epoch quiet published in
        subst (λ (n : ℕ). plan.first ≤ n) same (subst (HasFound plan.first) at (agrees.points guest))) tt

    pub turn_agrees : GuestsAgree plan (with_seat w guest (seat_after w.tables w.fuel seat))
    turn_agrees = turned_at seat.point refl

  -- ---- an answer, and a release

  pub answer_agrees : (v : Raw)
      → GuestsAgree plan
      (record w { guests = slice_set w.guests guest v; points = slice_set w.points guest Leaving })
  answer_agrees v = record {
    count = length-set w.guests guest v ∙ agrees.count;
    fuel = agrees.fuel;
    room = agrees.room;
    quiets = λ other quiet published.
        let of = agrees.quiets other quiet published in
        elim (cases_eq other guest) [
          | inl same ↦ record {
            known = of.known;
            r = v;
            there = ap (slice_get (slice_set w.guests guest v)) same ∙ set_one w.guests guest r v here;
            least = of.least;
          }
          | inr apart ↦ record {
            known = of.known;
            r = of.r;
            there = set_apart w.guests guest other v (λ e. apart (sym e)) ∙ of.there;
            least = of.least;
          }
        ];
    points = λ other.
        set_cases w.points guest other Leaving Outside (HasFound plan.first)
        (omega (arith, inside, is.few, is.points_many)) (λ same. tt) (λ apart. agrees.points other);
  }

  pub release_agrees : GuestsAgree plan (record w { quiets = slice_set w.quiets guest Unregistered })
  release_agrees = record {
    count = agrees.count;
    fuel = agrees.fuel;
    room = agrees.room;
    quiets = λ other quiet.
        set_cases w.quiets guest other Unregistered Unregistered
        (λ (q : Quiet). q ≡ Published quiet
        → IsOfPlan plan (record w { quiets = slice_set w.quiets guest Unregistered }) other quiet)
        (omega (arith, inside, is.few, is.quiets_many))
        (λ same published. absurd (never_published quiet published))
        (λ apart published.
        let of = agrees.quiets other quiet published in
        record { known = of.known; r = of.r; there = of.there; least = of.least });
    points = agrees.points;
  }
