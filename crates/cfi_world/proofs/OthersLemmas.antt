-- A guest that has no event stays as it is, and only the updater changes the tables.
use Rattle.std.proofs.Common.{◌≡◌, ◌≢◌, ℕ, ◌+◌, ◌==◌, cond, Bool, true, false, List, length, length-set, slice_get, slice_set, Option, Some, None, refl, sym, ◌∙◌, ap, arith, inl, inr}
use Rattle.std.proofs.lemmas.Bool.{cases_lt}
use Rattle.std.proofs.lemmas.List.{get_or-set_other}
use Rattle.std.proofs.lemmas.Option.{slice_get-get_or, slice_get_past}
use Rattle.cfi_word.specs.declared.limits.TheConstants.{MAX_EPOCH}
use Rattle.cfi_model.specs.declared.phase.Phase.{Phase}
use Rattle.cfi_model.specs.declared.phase.Phase.TheVariants as phases
use Rattle.cfi_model.specs.declared.quiet.Quiet.{Quiet}
use Rattle.cfi_model.specs.declared.quiet.Quiet.TheVariants.{Unregistered, Parked, Published}
use Rattle.cfi_model.specs.Phases.{phase_of}
use Rattle.cfi_model.specs.Raw.{Raw}
use Rattle.cfi_model.specs.Service.{Reply}
use Rattle.cfi_model.specs.Words.{epoch_in_force}
use Rattle.cfi_model.specs.World.{World, quiet_of}
use Rattle.cfi_world.specs.Laws.{IsAnothers, IsUpdates}
use Rattle.cfi_world.specs.Turns.{Turn, did, nothing, guest_turn, refused, update_turn, answer_turn, release_turn, reply_in, turn_of}
use Rattle.cfi_world.specs.Updates.{is_idle, begun}
use Rattle.cfi_world.specs.declared.event.Event.{Event}
use Rattle.cfi_world.specs.declared.event.Event.TheVariants as events
use Rattle.cfi_world.specs.declared.event.Turned.TheVariants.{EpochsSpent}

either_guests : (k : ℕ) (gs : List Raw) (b : Bool) (x y : Turn) → slice_get x.world.guests k ≡ slice_get gs k
    → slice_get y.world.guests k ≡ slice_get gs k → slice_get (cond b x y).world.guests k ≡ slice_get gs k
either_guests k gs true x y one other = one
either_guests k gs false x y one other = other

-- an element that was not set
pub set_apart : {X : Type 0} (xs : List X) (k other : ℕ) (v : X) → k ≢ other
    → slice_get (slice_set xs k v) other ≡ slice_get xs other
set_apart xs k other v apart = elim (cases_lt other (length xs)) [
  | inl inside ↦
      slice_get-get_or (slice_set xs k v) other v (omega (arith, inside, length-set xs k v))
      ∙ ap Some (get_or-set_other xs k other v v (λ e. apart (sym e))) ∙ sym (slice_get-get_or xs other v inside)
  | inr past ↦
      slice_get_past (slice_set xs k v) other (omega (arith, past, length-set xs k v))
      ∙ sym (slice_get_past xs other past)
]

module _ (w : World) where
  guest_stays : (guest other : ℕ) (o : Option Raw) → guest ≢ other
      → slice_get (guest_turn w guest o).world.guests other ≡ slice_get w.guests other
  guest_stays guest other None apart = refl
  guest_stays guest other (Some r) apart =
      either_guests other w.guests _ _ _ refl (set_apart w.guests guest other _ apart)

  refused_stays : (guest other : ℕ) (quiet : Quiet)
      → slice_get (refused w guest quiet).world.guests other ≡ slice_get w.guests other
  refused_stays guest other Unregistered = refl
  refused_stays guest other Parked = refl
  refused_stays guest other (Published quiet) = refl

  update_stays : (other : ℕ) (phase : Phase)
      → slice_get (update_turn w phase).world.guests other ≡ slice_get w.guests other
  update_stays other phases.Idle = refl
  update_stays other (phases.Testing guest) =
      either_guests other w.guests _ _ _ refl (refused_stays guest other (quiet_of w guest))
  update_stays other (phases.Code index) = refl
  update_stays other (phases.Tary index) = refl
  update_stays other phases.Epoch = refl
  update_stays other (phases.Bary slot) = refl

  answer_stays : (guest other : ℕ) (reply : Reply) (o : Option Raw) → guest ≢ other
      → slice_get (answer_turn w guest reply o).world.guests other ≡ slice_get w.guests other
  answer_stays guest other reply None apart = refl
  answer_stays guest other reply (Some r) apart =
      either_guests other w.guests _ _ _ (set_apart w.guests guest other _ apart) refl

  release_stays : (guest other : ℕ) (o : Option Raw)
      → slice_get (release_turn w guest o).world.guests other ≡ slice_get w.guests other
  release_stays guest other None = refl
  release_stays guest other (Some r) = either_guests other w.guests _ _ _ refl refl

  begin_stays : (other : ℕ) (idle spent : Bool) (new : World) → slice_get new.guests other ≡ slice_get w.guests other
      → slice_get (cond idle (cond spent (record { world = w; answer = EpochsSpent }) (did new))
      (nothing w)).world.guests
      other ≡ slice_get w.guests other
  begin_stays other true true new same = refl
  begin_stays other true false new same = same
  begin_stays other false spent new same = refl

  pub others_stay : (event : Event) (other : ℕ) → IsAnothers event other
      → slice_get (turn_of w event).world.guests other ≡ slice_get w.guests other
  others_stay (events.Guest guest) other apart = guest_stays guest other (slice_get w.guests guest) apart
  others_stay (events.Begin image) other apart =
      begin_stays other (is_idle (phase_of w.tables)) (epoch_in_force w.tables == MAX_EPOCH)
      (record w { tables = begun image w.tables; updates = w.updates + 1 }) refl
  others_stay events.Update other apart = update_stays other (phase_of w.tables)
  others_stay (events.Answer guest answer) other apart =
      answer_stays guest other (reply_in answer) (slice_get w.guests guest) apart
  others_stay (events.Release guest) other apart = release_stays guest other (slice_get w.guests guest)

  either_same : (b : Bool) (x y : Turn) → x.world.tables ≡ w.tables → y.world.tables ≡ w.tables
      → (cond b x y).world.tables ≡ w.tables
  either_same true x y one other = one
  either_same false x y one other = other

  guest_same : (guest : ℕ) (o : Option Raw) → (guest_turn w guest o).world.tables ≡ w.tables
  guest_same guest None = refl
  guest_same guest (Some r) = either_same _ _ _ refl refl

  answer_same : (guest : ℕ) (reply : Reply) (o : Option Raw) → (answer_turn w guest reply o).world.tables ≡ w.tables
  answer_same guest reply None = refl
  answer_same guest reply (Some r) = either_same _ _ _ refl refl

  release_same : (guest : ℕ) (o : Option Raw) → (release_turn w guest o).world.tables ≡ w.tables
  release_same guest None = refl
  release_same guest (Some r) = either_same _ _ _ refl refl

  -- only the updater's events change the tables
  pub only_updates : (event : Event) → (IsUpdates event → ⊥) → (turn_of w event).world.tables ≡ w.tables
  only_updates (events.Guest guest) other = guest_same guest (slice_get w.guests guest)
  only_updates (events.Begin image) other = absurd (other tt)
  only_updates events.Update other = absurd (other tt)
  only_updates (events.Answer guest answer) other = answer_same guest (reply_in answer) (slice_get w.guests guest)
  only_updates (events.Release guest) other = release_same guest (slice_get w.guests guest)
