-- What an event makes of a guest's QUIET word, and of how far it is in a service.
use Rattle.std.proofs.Common.{◌≡◌, ℕ, ◌+◌, ◌==◌, ◌&&◌, ◌||◌, ◌⊎◌, cond, Bool, true, false, length, length-set, slice_get, slice_set, slice_index_or, is_some, Option, Some, None, refl, sym, ap, ◌∙◌, subst, arith, inl, inr}
use Rattle.std.proofs.lemmas.Bool.{cases_eq, cases_lt}
use Rattle.std.proofs.lemmas.List.{get_or_past, get_or-set_same, get_or-set_other}
use Rattle.std.proofs.lemmas.Option.{slice_get_within}
use Rattle.cfi_word.specs.declared.lists.Image.{Image}
use Rattle.cfi_word.specs.declared.limits.TheConstants.{MAX_EPOCH}
use Rattle.cfi_model.specs.declared.act.Wait.{Wait}
use Rattle.cfi_model.specs.declared.act.Wait.TheVariants as waits
use Rattle.cfi_model.specs.declared.phase.Phase.{Phase}
use Rattle.cfi_model.specs.declared.phase.Phase.TheVariants as phases
use Rattle.cfi_model.specs.declared.quiet.Point.{Point}
use Rattle.cfi_model.specs.declared.quiet.Point.TheVariants.{Outside, Asking, Leaving, Found}
use Rattle.cfi_model.specs.declared.quiet.Quiet.{Quiet}
use Rattle.cfi_model.specs.declared.quiet.Quiet.TheVariants.{Unregistered, Parked, Published}
use Rattle.cfi_model.specs.Phases.{phase_of}
use Rattle.cfi_model.specs.Raw.{Raw}
use Rattle.cfi_model.specs.Run.{serve_of}
use Rattle.cfi_model.specs.Service.{Reply, too_many}
use Rattle.cfi_model.specs.Words.{epoch_in_force}
use Rattle.cfi_model.specs.World.{World, point_of, quiet_of}
use Rattle.cfi_world.specs.Seats.{Seat, needs_answer, seat_of, seat_at, seat_by, seat_after, with_seat, is_asking}
use Rattle.cfi_world.specs.Turns.{Turn, answered, answer_turn, begin_turn, did, guest_turn, is_registered, nothing, passed_turn, refused, release_turn, reply_in, seated, turn_of, update_turn}
use Rattle.cfi_world.specs.Updates.{begun, is_idle}
use Rattle.cfi_world.specs.Worlds.{IsWorld}
use Rattle.cfi_world.specs.declared.event.Event.{Event}
use Rattle.cfi_world.specs.declared.event.Event.TheVariants as events
use Rattle.cfi_world.specs.declared.event.Turned.TheVariants.{EpochsSpent}
use Rattle.cfi_world.proofs.ChoiceLemmas.{neither, not_some}
use Rattle.cfi_world.proofs.ParkLemmas.{is_parked}

-- it has found nothing in EPOCH
abbrev pub IsIdlePoint : Point → Type 0
IsIdlePoint Outside = Unit {0}
IsIdlePoint Asking = Unit {0}
IsIdlePoint Leaving = Unit {0}
IsIdlePoint (Found epoch) = ⊥

-- where a guest parks
park_idle : (need stops : Bool) → IsIdlePoint (cond need Asking (cond stops Outside Leaving))
park_idle true stops = tt
park_idle false true = tt
park_idle false false = tt

module _ (w : World) (is : IsWorld w) (guest : ℕ) where
  abbrev told : Quiet
  told = quiet_of w guest

  abbrev placed : Point
  placed = point_of w guest

  -- the word stays, and the guest may have its answer, or find the epoch in force
  abbrev pub StaysTold : Quiet → Point → Type 0
  StaysTold quiet point =
      (quiet ≡ told) × ((point ≡ placed) ⊎ ((point ≡ Leaving) ⊎ (point ≡ Found (epoch_in_force w.tables))))

  -- or it publishes what it has found, with an event of its own
  pub record Tells (event : Event) (quiet : Quiet) : Type 0 where
    pub epoch : ℕ
    pub own : event ≡ events.Guest guest
    pub found : placed ≡ Found epoch
    pub parked : told ≡ Parked
    pub says : quiet ≡ Published epoch

  -- or it parks, or is registered no more
  abbrev pub Moves : Event → Quiet → Point → Type 0
  Moves event quiet point =
      StaysTold quiet point
      ⊎ (Tells event quiet ⊎ (((quiet ≡ Parked) × IsIdlePoint point) ⊎ (quiet ≡ Unregistered)))

  abbrev pub MovesTo : Event → World → Type 0
  MovesTo event v = Moves event (quiet_of v guest) (point_of v guest)

  abbrev stays : (event : Event) → MovesTo event w
  stays event = inl (refl, inl refl)

  either_moves : (event : Event) (b : Bool) (x y : Turn) → MovesTo event x.world → MovesTo event y.world
      → MovesTo event (cond b x y).world
  either_moves event true x y one other = one
  either_moves event false x y one other = other

  -- a guest's own events
  module _ (r : Raw) (here : slice_get w.guests guest ≡ Some r) (going : r.base.stop ≡ None) where
    abbrev s : Seat
    s = seat_of w guest r

    abbrev own : Event
    own = events.Guest guest

    waits_moves : (wait : Option Wait) → (let v = seat_by wait w.tables w.fuel s in Moves own v.quiet v.point)
    waits_moves None = stays own
    waits_moves (Some (waits.Tary address rd)) = stays own
    waits_moves (Some (waits.Bary slot rd)) = stays own
    waits_moves (Some (waits.Service number)) =
        inr (inr (inl (refl, park_idle (needs_answer number r) (is_some (serve_of r too_many).base.stop))))

    found_not : (epoch : ℕ) → Found epoch ≡ Outside → ⊥
    found_not epoch e = absurd (cc)

    points_move : (point : Point) → point_of w guest ≡ point
        → (let v = seat_at point w.tables w.fuel s in Moves own v.quiet v.point)
    points_move Outside point = waits_moves r.waits
    points_move Asking point = stays own
    points_move Leaving point = inl (refl, inr (inr refl))
    points_move (Found epoch) point =
        inr (inl (record {
          epoch = epoch;
          own = refl;
          found = point;
          parked = is_parked w.tables guest s (quiet_of w guest) (is.running guest r here).quiet going
              (λ outside. absurd (found_not epoch (sym point ∙ outside)));
          says = refl;
        }))

    own_moves : MovesTo own (with_seat w guest (seat_after w.tables w.fuel s))
    own_moves =
        let inside = slice_get_within w.guests guest r here in
        let new : Seat = seat_after w.tables w.fuel s in
        subst (λ q. Moves own q (point_of (with_seat w guest new) guest))
        (sym (get_or-set_same w.quiets guest new.quiet Unregistered (omega (arith, inside, is.few, is.quiets_many))))
        (subst (Moves own new.quiet)
        (sym (get_or-set_same w.points guest new.point Outside (omega (arith, inside, is.few, is.points_many))))
        (points_move (point_of w guest) refl))

  seated_moves : (other : ℕ) (r : Raw) → slice_get w.guests other ≡ Some r → r.base.stop ≡ None
      → MovesTo (events.Guest other) (with_seat w other (seat_after w.tables w.fuel (seat_of w other r)))
  seated_moves other r here going = elim (cases_eq guest other) [
    | inl same ↦
        subst (λ k. MovesTo (events.Guest k) (with_seat w k (seat_after w.tables w.fuel (seat_of w k r)))) same
        (own_moves r (subst (λ k. slice_get w.guests k ≡ Some r) (sym same) here) going)
    | inr apart ↦
        let new : Seat = seat_after w.tables w.fuel (seat_of w other r) in
        inl (
          get_or-set_other w.quiets other guest new.quiet Unregistered apart,
          inl (get_or-set_other w.points other guest new.point Outside apart),
        )
  ]

  guest_by : (other : ℕ) (r : Raw) → slice_get w.guests other ≡ Some r → (still : Bool)
      → is_some r.base.stop || is_asking (point_of w other) ≡ still
      → MovesTo (events.Guest other) (cond still (nothing w)
      (seated w other (seat_after w.tables w.fuel (seat_of w other r)))).world
  guest_by other r here true test = stays (events.Guest other)
  guest_by other r here false test =
      seated_moves other r here
      (not_some r.base.stop (neither (is_some r.base.stop) (is_asking (point_of w other)) test).0)

  guest_moves : (other : ℕ) (o : Option Raw) → slice_get w.guests other ≡ o
      → MovesTo (events.Guest other) (guest_turn w other o).world
  guest_moves other None here = stays (events.Guest other)
  guest_moves other (Some r) here =
      guest_by other r here (is_some r.base.stop || is_asking (point_of w other)) refl

  -- the updater's
  refused_moves : (other : ℕ) (quiet : Quiet) → MovesTo events.Update (refused w other quiet).world
  refused_moves other Unregistered = stays events.Update
  refused_moves other Parked = stays events.Update
  refused_moves other (Published quiet) = stays events.Update

  update_moves : (phase : Phase) → MovesTo events.Update (update_turn w phase).world
  update_moves phases.Idle = stays events.Update
  update_moves (phases.Testing other) =
      either_moves events.Update _ (passed_turn w) (refused w other (quiet_of w other)) (stays events.Update)
      (refused_moves other (quiet_of w other))
  update_moves (phases.Code next) = stays events.Update
  update_moves (phases.Tary next) = stays events.Update
  update_moves phases.Epoch = stays events.Update
  update_moves (phases.Bary next) = stays events.Update

  begin_moves : (image : Option Image) → MovesTo (events.Begin image) (begin_turn w image).world
  begin_moves image =
      let event : Event = events.Begin image in
      let next : World = record w { tables = begun image w.tables; updates = w.updates + 1 } in
      let spent : Turn = record { world = w; answer = EpochsSpent } in
      either_moves event (is_idle (phase_of w.tables))
      (cond (epoch_in_force w.tables == MAX_EPOCH) spent (did next)) (nothing w)
      (either_moves event (epoch_in_force w.tables == MAX_EPOCH) spent (did next) (stays event) (stays event))
      (stays event)

  -- an answer
  answered_moves : (event : Event) (other : ℕ) (reply : Reply) (r : Raw) → slice_get w.guests other ≡ Some r
      → MovesTo event (answered w other reply r)
  answered_moves event other reply r here = elim (cases_eq guest other) [
    | inl same ↦
        let inside = slice_get_within w.guests other r here in
        inl (
          refl,
          inr (inl (ap (λ k. slice_index_or (slice_set w.points k Leaving) guest Outside) (sym same)
              ∙ get_or-set_same w.points guest Leaving Outside (omega (arith, inside, same, is.few, is.points_many)))),
        )
    | inr apart ↦ inl (refl, inl (get_or-set_other w.points other guest Leaving Outside apart))
  ]

  answer_moves : (event : Event) (other : ℕ) (reply : Reply) (o : Option Raw) → slice_get w.guests other ≡ o
      → MovesTo event (answer_turn w other reply o).world
  answer_moves event other reply None here = stays event
  answer_moves event other reply (Some r) here =
      either_moves event (is_asking (point_of w other)) (did (answered w other reply r)) (nothing w)
      (answered_moves event other reply r here) (stays event)

  -- a release
  released_moves : (event : Event) (other : ℕ)
      → MovesTo event (record w { quiets = slice_set w.quiets other Unregistered })
  released_moves event other = elim (cases_eq guest other) [
    | inl same ↦
        inr (inr (inr (ap (λ k. slice_index_or (slice_set w.quiets k Unregistered) guest Unregistered) (sym same)
        ∙ none guest)))
    | inr apart ↦ inl (get_or-set_other w.quiets other guest Unregistered Unregistered apart, inl refl)
  ]
    where
      none : (k : ℕ) → slice_index_or (slice_set w.quiets k Unregistered) k Unregistered ≡ Unregistered
      none k = elim (cases_lt k (length w.quiets)) [
        | inl inside ↦ get_or-set_same w.quiets k Unregistered Unregistered inside
        | inr past ↦
            get_or_past (slice_set w.quiets k Unregistered) k Unregistered
            (omega (arith, past, length-set w.quiets k Unregistered))
      ]

  release_moves : (other : ℕ) (o : Option Raw) → MovesTo (events.Release other) (release_turn w other o).world
  release_moves other None = stays (events.Release other)
  release_moves other (Some r) =
      either_moves (events.Release other)
      (is_some r.base.stop && (is_registered (quiet_of w other) && is_idle (phase_of w.tables)))
      (did (record w { quiets = slice_set w.quiets other Unregistered })) (nothing w)
      (released_moves (events.Release other) other) (stays (events.Release other))

  -- so does every event
  pub quiet_moves : (event : Event) → MovesTo event (turn_of w event).world
  quiet_moves (events.Guest other) = guest_moves other (slice_get w.guests other) refl
  quiet_moves (events.Begin image) = begin_moves image
  quiet_moves events.Update = update_moves (phase_of w.tables)
  quiet_moves (events.Answer other answer) =
      answer_moves (events.Answer other answer) other (reply_in answer) (slice_get w.guests other) refl
  quiet_moves (events.Release other) = release_moves other (slice_get w.guests other)
