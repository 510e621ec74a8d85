-- A world with later tables, and one with another seat for a guest.
use Rattle.std.proofs.Common.{◌≡◌, ◌≢◌, ℕ, ◌+◌, ◌<◌, ◌≤◌, List, length, length-set, slice_get, slice_set, Some, None, refl, sym, ◌∙◌, ap, subst, arith, inl, inr}
use Rattle.std.proofs.lemmas.Bool.{cases_eq}
use Rattle.std.proofs.lemmas.List.{get_or-set_same, get_or-set_other}
use Rattle.std.proofs.lemmas.Option.{slice_get_within, slice_get-get_or, get_or_from_slice_get, none-some}
use Rattle.cfi_model.specs.declared.quiet.Point.{Point}
use Rattle.cfi_model.specs.declared.quiet.Point.TheVariants.{Outside}
use Rattle.cfi_model.specs.declared.quiet.Quiet.{Quiet}
use Rattle.cfi_model.specs.declared.quiet.Quiet.TheVariants.{Unregistered}
use Rattle.cfi_model.specs.InForce.{GoesOn}
use Rattle.cfi_model.specs.Raw.{Raw}
use Rattle.cfi_model.specs.Tables.{IsTables}
use Rattle.cfi_model.specs.Words.{Tables}
use Rattle.cfi_model.specs.World.{World, quiet_of, point_of}
use Rattle.cfi_world.specs.Seats.{Seat, seat_of, with_seat}
use Rattle.cfi_world.specs.Worlds.{IsWorld, pending, settled_epoch}
use Rattle.cfi_world.proofs.OthersLemmas.{set_apart}
use Rattle.cfi_world.proofs.LaterLemmas.{Admits, seat_later}
use Rattle.cfi_world.proofs.SeatLemmas.{AreSeated}

-- the element at another place
set_other : {X : Type 0} (xs : List X) (k other : ℕ) (v x : X) → other ≢ k → slice_get (slice_set xs k v) other ≡ Some x
    → slice_get xs other ≡ Some x
set_other xs k other v x apart is =
    let inside : other < length xs =
    omega (arith, slice_get_within (slice_set xs k v) other x is, length-set xs k v) in
    let value = get_or_from_slice_get (slice_set xs k v) other x x is in
    slice_get-get_or xs other x inside ∙ ap Some (sym (get_or-set_other xs k other v x apart) ∙ value)

-- the element that was set
set_same : {X : Type 0} (xs : List X) (k : ℕ) (v x : X) → slice_get (slice_set xs k v) k ≡ Some x → x ≡ v
set_same xs k v x is =
    let inside : k < length xs =
    omega (arith, slice_get_within (slice_set xs k v) k x is, length-set xs k v) in
    sym (get_or_from_slice_get (slice_set xs k v) k x x is) ∙ get_or-set_same xs k v x inside

-- ---- seats

pub seated_in : (w : World) (is : IsWorld w) (guest : ℕ) (r : Raw) → slice_get w.guests guest ≡ Some r
    → AreSeated w.tables is.tables w.fuel guest (seat_of w guest r)
seated_in w is guest r e = record { seat = is.seats guest r e; running = is.running guest r e }

-- the same guests at a later moment of the tables
module _ (w : World) (is : IsWorld w) (u : Tables) (later : IsTables u) (on : GoesOn w.tables u) (count : ℕ) where
  abbrev next : World
  next = record w { tables = u; updates = count }

  abbrev pub AdmitsAll : Type 0
  AdmitsAll = (guest : ℕ) (r : Raw) → slice_get w.guests guest ≡ Some r
      → Admits w.tables u is.tables later on guest r (quiet_of w guest)

  pub world_later : settled_epoch w.tables ≤ settled_epoch u → AdmitsAll → count ≤ w.room
      → length u.entries + pending u.asked ≤ count + 1 → IsWorld next
  world_later rises admitted room few =
      let seats : (guest : ℕ) (r : Raw) → slice_get w.guests guest ≡ Some r
      → AreSeated u later w.fuel guest (seat_of w guest r) = λ guest r e.
      seat_later w.tables u is.tables later on w.fuel guest (seat_of w guest r) rises (admitted guest r e)
      (seated_in w is guest r e) in
      record {
        tables = later;
        quiets_many = is.quiets_many;
        points_many = is.points_many;
        few = is.few;
        absent = is.absent;
        room = room;
        room_fits = is.room_fits;
        fuel_fits = is.fuel_fits;
        entries_few = few;
        seats = λ guest r e. (seats guest r e).seat;
        running = λ guest r e. (seats guest r e).running;
      }

-- another seat for one guest
abbrev seat_by : Raw → Point → Quiet → Seat
seat_by guest point quiet = record { guest = guest; point = point; quiet = quiet }

same_seat : (r r' : Raw) (p p' : Point) (q q' : Quiet) → r ≡ r' → p ≡ p' → q ≡ q' → seat_by r p q ≡ seat_by r' p' q'
same_seat r r' p p' q q' a b c =
    ap (λ x. seat_by x p q) a ∙ ap (λ x. seat_by r' x q) b ∙ ap (λ x. seat_by r' p' x) c

module _ (w : World) (is : IsWorld w) (guest : ℕ) (old : Raw) (here : slice_get w.guests guest ≡ Some old) (s : Seat)
    (both : AreSeated w.tables is.tables w.fuel guest s) where
  abbrev after : World
  after = with_seat w guest s

  pub inside : guest < length w.guests
  inside = slice_get_within w.guests guest old here

  own_seat : (r : Raw) → slice_get after.guests guest ≡ Some r → seat_of after guest r ≡ s
  own_seat r e =
      same_seat r s.guest (point_of after guest) s.point (quiet_of after guest) s.quiet
      (set_same w.guests guest s.guest r e)
      (get_or-set_same w.points guest s.point Outside (omega (arith, inside, is.few, is.points_many)))
      (get_or-set_same w.quiets guest s.quiet Unregistered (omega (arith, inside, is.few, is.quiets_many)))

  other_seat : (other : ℕ) (r : Raw) → other ≢ guest → seat_of w other r ≡ seat_of after other r
  other_seat other r apart =
      same_seat r r (point_of w other) (point_of after other) (quiet_of w other) (quiet_of after other) refl
      (sym (get_or-set_other w.points guest other s.point Outside apart))
      (sym (get_or-set_other w.quiets guest other s.quiet Unregistered apart))

  seat_after_all : (other : ℕ) (r : Raw) → slice_get after.guests other ≡ Some r
      → AreSeated w.tables is.tables w.fuel other (seat_of after other r)
  seat_after_all other r e = elim (cases_eq other guest) [
    | inl same ↦
        subst (λ g. AreSeated w.tables is.tables w.fuel g (seat_of after g r)) (sym same)
        (subst (AreSeated w.tables is.tables w.fuel guest)
        (sym (own_seat r (subst (λ g. slice_get after.guests g ≡ Some r) same e))) both)
    | inr apart ↦
        subst (AreSeated w.tables is.tables w.fuel other) (other_seat other r apart)
        (seated_in w is other r (set_other w.guests guest other s.guest r apart e))
  ]

  -- who is absent was so
  absent_after : (other : ℕ) → slice_get after.guests other ≡ None → quiet_of after other ≡ Unregistered
  absent_after other none = elim (cases_eq other guest) [
    | inl same ↦
        let within = slice_get-get_or (slice_set w.guests guest s.guest) other old
        (omega (arith, inside, length-set w.guests guest s.guest, same)) in
        absurd (none-some _ (sym none ∙ within))
    | inr apart ↦
        get_or-set_other w.quiets guest other s.quiet Unregistered apart
        ∙ is.absent other (sym (set_apart w.guests guest other s.guest (λ e. apart (sym e))) ∙ none)
  ]

  pub world_seated : IsWorld after
  world_seated = record {
    tables = is.tables;
    quiets_many = length-set w.quiets guest s.quiet ∙ is.quiets_many;
    points_many = length-set w.points guest s.point ∙ is.points_many;
    few = omega (arith, length-set w.guests guest s.guest, is.few);
    absent = absent_after;
    room = is.room;
    room_fits = is.room_fits;
    fuel_fits = is.fuel_fits;
    entries_few = is.entries_few;
    seats = λ other r e. (seat_after_all other r e).seat;
    running = λ other r e. (seat_after_all other r e).running;
  }
