-- A guest after its own event.
use Rattle.std.proofs.Common.{◌≡◌, ℕ, ◌/◌, ◌||◌, cond, Bool, true, false, length-set, slice_get, slice_set, is_some, Option, Some, None, ◌⊎◌, inl, inr, refl, sym, ap, ◌∙◌, subst, arith}
use Rattle.std.proofs.lemmas.List.{get_or-set_same}
use Rattle.std.proofs.lemmas.Option.{slice_get_within, slice_get-get_or}
use Rattle.cfi_unit.specs.declared.log.Stop.{Stop}
use Rattle.cfi_unit.specs.declared.log.Stop.TheVariants.{Fuel}
use Rattle.cfi_word.specs.Table.{Code, Tary, Bary}
use Rattle.cfi_model.specs.declared.act.Wait.{Wait}
use Rattle.cfi_model.specs.declared.act.Wait.TheVariants as waits
use Rattle.cfi_model.specs.declared.quiet.Point.{Point}
use Rattle.cfi_model.specs.declared.quiet.Point.TheVariants.{Outside, Asking, Leaving, Found}
use Rattle.cfi_model.specs.InForce.{history_of, code_in_force, tary_index}
use Rattle.cfi_model.specs.Raw.{Raw}
use Rattle.cfi_model.specs.Fits.{Fits}
use Rattle.cfi_model.specs.Run.{Word, finish_as, take_one, take_word}
use Rattle.cfi_model.specs.Running.{IsRunning}
use Rattle.cfi_model.specs.State.{State}
use Rattle.cfi_model.specs.Words.{word_at}
use Rattle.cfi_model.specs.World.{World, point_of, quiet_of}
use Rattle.cfi_world.specs.Seats.{seat_of, seat_at, seat_by, seat_after, rested, is_asking}
use Rattle.cfi_model.specs.Service.{Reply}
use Rattle.cfi_world.specs.Turns.{answer_turn, answered, did, guest_turn, nothing, seated, turn_of}
use Rattle.cfi_world.specs.Worlds.{FitsPoint, IsWorld}
use Rattle.cfi_world.proofs.ChoiceLemmas.{neither, not_some}
use Rattle.cfi_world.proofs.ParkLemmas.{IsServing, has_published}
use Rattle.cfi_world.specs.declared.event.Event.TheVariants.{Guest}
use Rattle.cfi_world.proofs.FitLemmas.{fetch_fits, bary_fits, tary_fits}
use Rattle.cfi_world.proofs.RestLemmas.{Goes, Stops, rest_of}

set_there : (gs : _) (guest : ℕ) (r v : Raw) → slice_get gs guest ≡ Some r
    → slice_get (slice_set gs guest v) guest ≡ Some v
set_there gs guest r v here =
    let inside = slice_get_within gs guest r here in
    slice_get-get_or (slice_set gs guest v) guest v (omega (arith, inside, length-set gs guest v))
    ∙ ap Some (get_or-set_same gs guest v v inside)

module _ (w : World) (guest : ℕ) (r : Raw) (here : slice_get w.guests guest ≡ Some r) where
  abbrev own : World
  own = (turn_of w (Guest guest)).world

  own_by : (still : Bool) → is_some r.base.stop || is_asking (point_of w guest) ≡ still
      → (slice_get own.guests guest ≡ Some r)
      ⊎ ((is_some r.base.stop || is_asking (point_of w guest) ≡ false)
      × (slice_get own.guests guest ≡ Some (seat_after w.tables w.fuel (seat_of w guest r)).guest))
  own_by true is =
      inl (ap (λ o. slice_get (guest_turn w guest o).world.guests guest) here
      ∙ ap (λ b. slice_get (cond b (nothing w)
      (seated w guest (seat_after w.tables w.fuel (seat_of w guest r)))).world.guests guest) is ∙ here)
  own_by false is = inr (
    is,
    ap (λ o. slice_get (guest_turn w guest o).world.guests guest) here
        ∙ ap (λ b. slice_get (cond b (nothing w)
        (seated w guest (seat_after w.tables w.fuel (seat_of w guest r)))).world.guests guest) is
        ∙ set_there w.guests guest r (seat_after w.tables w.fuel (seat_of w guest r)).guest here,
  )

  -- it has no event, or goes on
  pub own_event : (slice_get own.guests guest ≡ Some r)
      ⊎ ((is_some r.base.stop || is_asking (point_of w guest) ≡ false)
      × (slice_get own.guests guest ≡ Some (seat_after w.tables w.fuel (seat_of w guest r)).guest))
  own_event = own_by (is_some r.base.stop || is_asking (point_of w guest)) refl

  -- a guest that has not stopped, and waits for no service, goes on
  asks_by : (point : Point) → FitsPoint w.tables r point → (IsServing r.waits → ⊥) → is_asking point ≡ false
  asks_by Outside fits other = refl
  asks_by Asking fits other = absurd (other (subst IsServing (sym fits.0) tt))
  asks_by Leaving fits other = refl
  asks_by (Found epoch) fits other = refl

  pub goes : IsWorld w → r.base.stop ≡ None → (IsServing r.waits → ⊥)
      → slice_get own.guests guest ≡ Some (seat_after w.tables w.fuel (seat_of w guest r)).guest
  goes is going other =
      let asks = asks_by (point_of w guest) (is.seats guest r here).point other in
      let test : is_some r.base.stop || is_asking (point_of w guest) ≡ false =
      ap (λ o. is_some o || is_asking (point_of w guest)) going ∙ asks in
      ap (λ o. slice_get (guest_turn w guest o).world.guests guest) here
      ∙ ap (λ b. slice_get (cond b (nothing w)
      (seated w guest (seat_after w.tables w.fuel (seat_of w guest r)))).world.guests guest) test
      ∙ set_there w.guests guest r (seat_after w.tables w.fuel (seat_of w guest r)).guest here

  -- and gets no answer
  pub answer_leaves : IsWorld w → (IsServing r.waits → ⊥) → (reply : Reply)
      → slice_get (answer_turn w guest reply (slice_get w.guests guest)).world.guests guest ≡ Some r
  answer_leaves is other reply =
      let asks = asks_by (point_of w guest) (is.seats guest r here).point other in
      ap (λ o. slice_get (answer_turn w guest reply o).world.guests guest) here
      ∙ ap (λ b. slice_get (cond b (did (answered w guest reply r)) (nothing w)).world.guests guest) asks ∙ here

  -- the word that it fetches or loads
  abbrev pub word_for : Option Wait → ℕ
  word_for None = word_at w.tables (Code (r.base.pc / 4))
  word_for (Some (waits.Tary at rd)) = word_at w.tables (Tary (tary_index w.tables.code_words at))
  word_for (Some (waits.Bary slot rd)) = word_at w.tables (Bary slot)
  word_for (Some (waits.Service number)) = 0

  -- what it is then
  taken_by : (wait : Option Wait) → r.waits ≡ wait → (IsServing wait → ⊥)
      → (seat_by wait w.tables w.fuel (seat_of w guest r)).guest ≡ rested w.fuel (take_one r (Word (word_for wait)))
  taken_by None is other = ap (λ x. rested w.fuel (take_word x r (word_for None))) (sym is)
  taken_by (Some (waits.Tary at rd)) is other =
      let word : ℕ = word_for (Some (waits.Tary at rd)) in
      ap (rested w.fuel) (ap (λ x. finish_as x r word) is ∙ sym (ap (λ x. take_word x r word) is))
  taken_by (Some (waits.Bary slot rd)) is other =
      let word : ℕ = word_for (Some (waits.Bary slot rd)) in
      ap (rested w.fuel) (ap (λ x. finish_as x r word) is ∙ sym (ap (λ x. take_word x r word) is))
  taken_by (Some (waits.Service number)) is other = absurd (other tt)

  -- where it has not stopped, and is in no service, it has taken that word
  abbrev pub taken : Raw
  taken = take_one r (Word (word_for r.waits))

  pub after_own : IsWorld w → r.base.stop ≡ None → point_of w guest ≡ Outside → (IsServing r.waits → ⊥)
      → slice_get own.guests guest ≡ Some (rested w.fuel taken)
  after_own is going outside other =
      goes is going other ∙ ap Some (ap (λ p. (seat_at p w.tables w.fuel (seat_of w guest r)).guest) outside)
      ∙ ap Some (taken_by r.waits refl other)

  -- so is each of its own events: it leaves the guest, or stops it at most, or takes a word outside services
  pub record TakesOwn : Type 0 where
    pub going : r.base.stop ≡ None
    pub outside : point_of w guest ≡ Outside
    pub after : slice_get own.guests guest ≡ Some (rested w.fuel taken)

  pub data OwnEvent : Type 0 where
    Left : slice_get own.guests guest ≡ Some r → OwnEvent
    Rested : slice_get own.guests guest ≡ Some (rested w.fuel r) → OwnEvent
    Took : TakesOwn → OwnEvent

  event_by : (is : IsWorld w) → r.base.stop ≡ None → (IsServing r.waits → ⊥) → (point : Point)
      → point_of w guest ≡ point → OwnEvent
  event_by is going other Outside at =
      Took (record { going = going; outside = at; after = after_own is going at other })
  event_by is going other Asking at =
      Left (goes is going other
      ∙ ap Some (ap (λ p. (seat_at p w.tables w.fuel (seat_of w guest r)).guest) at))
  event_by is going other Leaving at =
      Left (goes is going other
      ∙ ap Some (ap (λ p. (seat_at p w.tables w.fuel (seat_of w guest r)).guest) at))
  event_by is going other (Found epoch) at =
      Rested (goes is going other
      ∙ ap Some (ap (λ p. (seat_at p w.tables w.fuel (seat_of w guest r)).guest) at))

  pub own_is : IsWorld w → (IsServing r.waits → ⊥) → OwnEvent
  own_is is other = elim own_event [
    | inl stays ↦ Left stays
    | inr goes ↦
        event_by is (not_some r.base.stop (neither (is_some r.base.stop) (is_asking (point_of w guest)) goes.0).0) other
        (point_of w guest) refl
  ]

  -- which fits
  fits_by : (is : IsWorld w) → r.base.stop ≡ None → point_of w guest ≡ Outside → (retries : ℕ) (s : State)
      → IsRunning (history_of w.tables) (code_in_force w.tables) retries s r → (wait : Option Wait) → r.waits ≡ wait
      → (IsServing wait → ⊥) → Fits (history_of w.tables) (code_in_force w.tables) r (Word (word_for wait))
  fits_by is going outside retries s runs None idle other = fetch_fits w.tables is.tables retries s r runs going idle
  fits_by is going outside retries s runs (Some (waits.Tary at rd)) wait other =
      let told = has_published w.tables guest (seat_of w guest r) (quiet_of w guest) (is.running guest r here).quiet
      going outside in
      tary_fits w.tables is.tables guest r told.epoch at rd told.since (is.seats guest r here).logged wait
  fits_by is going outside retries s runs (Some (waits.Bary slot rd)) wait other =
      bary_fits w.tables is.tables r slot rd wait
  fits_by is going outside retries s runs (Some (waits.Service number)) wait other = absurd (other tt)

  pub own_fits : (is : IsWorld w) → r.base.stop ≡ None → point_of w guest ≡ Outside → (retries : ℕ) (s : State)
      → IsRunning (history_of w.tables) (code_in_force w.tables) retries s r → (IsServing r.waits → ⊥)
      → Fits (history_of w.tables) (code_in_force w.tables) r (Word (word_for r.waits))
  own_fits is going outside retries s runs other = fits_by is going outside retries s runs r.waits refl other

-- a guest that is not stopped by its fuel then is as the machine is
pub not_rested : (fuel : ℕ) (r : Raw) → (rested fuel r).base.stop ≡ None → rested fuel r ≡ r
not_rested fuel r going = elim (rest_of fuel r) [
  | Goes same left ↦ same
  | Stops ends steps ↦ absurd (never (ap (λ x. x.base.stop) ends.is) going)
]
  where
    never : {o : Option Stop} → o ≡ Some Fuel → o ≡ None → ⊥
    never some none = absurd (cc)
