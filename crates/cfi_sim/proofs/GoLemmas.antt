-- An event of a guest, as a simulation under way makes it.
use Rattle.std.proofs.Common.{◌≡◌, ℕ, ◌+◌, ◌||◌, ◌⊎◌, inl, inr, cond, Bool, true, false, List, slice_get, is_some, Option, Some, None, refl, sym, ◌∙◌, ap, subst}
use Rattle.std.specs.List.{All}
use Rattle.cfi_aux.specs.declared.modules.Module.{Module}
use Rattle.cfi_aux.specs.Sound.{IsSoundModule}
use Rattle.cfi_ledger.specs.Policies.{HavePolicies}
use Rattle.cfi_ledger.proofs.PolicyLemmas.{journal_policies}
use Rattle.cfi_model.specs.Raw.{Raw}
use Rattle.cfi_model.specs.Service.{argument}
use Rattle.cfi_model.specs.Words.{policy_in_force}
use Rattle.cfi_model.specs.World.{World, point_of}
use Rattle.cfi_sim.specs.Events.{GuestTurns, IsGuestEvent}
use Rattle.cfi_sim.specs.Reach.{OfGuest}
use Rattle.cfi_sim.specs.Stage.{after_event}
use Rattle.cfi_sim.specs.inner.Standing.{Whole, AnswersOpen, HasDone, IsThere, IsUnderWay}
use Rattle.cfi_sim.proofs.journal.HappensLemmas.{holds_after, policy_is, turned_beside}
use Rattle.cfi_sim.proofs.journal.SeatsLemmas.{set_one}
use Rattle.cfi_modules.specs.Series.{CanBeTaken}
use Rattle.cfi_world.specs.Seats.{Seat, seat_of, seat_after, is_asking}
use Rattle.cfi_world.specs.Turns.{Turns, nothing, seated, guest_turn, turn_of}
use Rattle.cfi_world.specs.declared.event.Event.TheVariants as events
use Rattle.cfi_world.specs.declared.event.Turned.{Turned}
use Rattle.cfi_world.specs.declared.event.Turned.TheVariants.{Nothing, Did, Asks, VersionsSpent, EpochsSpent}

abbrev pub with_world : World → Whole → Whole
with_world w x = record x { stage = record x.stage { world = w } }

abbrev pub one_event : Whole → Whole
one_event x = record x { stage = record x.stage { events = x.stage.events + 1 } }

pub all_sound : (modules : List Module) → All CanBeTaken modules → All IsSoundModule modules
all_sound modules taken = λ k d within. (taken k d within).sound

asked_there : (w : World) (guest other number : ℕ) (o : Option Raw) → slice_get w.guests guest ≡ o
    → (guest_turn w guest o).answer ≡ Asks other number → IsThere (guest_turn w guest o).world guest
asked_there w guest other number None here answer = absurd (cc)
asked_there w guest other number (Some r) here answer =
    by_still (is_some r.base.stop || is_asking (point_of w guest)) answer
  where
    by_still : (still : Bool)
        → (cond still (nothing w) (seated w guest (seat_after w.tables w.fuel (seat_of w guest r)))).answer
        ≡ Asks other number
        → IsThere (cond still (nothing w) (seated w guest (seat_after w.tables w.fuel (seat_of w guest r)))).world guest
    by_still true answer = absurd (cc)
    by_still false answer = (
      (seat_after w.tables w.fuel (seat_of w guest r)).guest,
      set_one w.guests guest r (seat_after w.tables w.fuel (seat_of w guest r)).guest here,
    )

-- an event of a guest spends nothing
abbrev pub SpendsNothing : Turned → Type 0
SpendsNothing Nothing = Unit {0}
SpendsNothing Did = Unit {0}
SpendsNothing (Asks guest number) = Unit {0}
SpendsNothing (VersionsSpent guest quiet) = ⊥
SpendsNothing EpochsSpent = ⊥

spends_nothing : (w : World) (guest : ℕ) (o : Option Raw) → SpendsNothing (guest_turn w guest o).answer
spends_nothing w guest None = tt
spends_nothing w guest (Some r) = by_still (is_some r.base.stop || is_asking (point_of w guest))
  where
    by_asking : (s : Seat) (asking : Bool) → SpendsNothing (cond asking (Asks guest (argument s.guest.base)) Did)
    by_asking s true = tt
    by_asking s false = tt

    by_still : (still : Bool) → SpendsNothing
        (cond still (nothing w) (seated w guest (seat_after w.tables w.fuel (seat_of w guest r)))).answer
    by_still true = tt
    by_still false =
        let after = seat_after w.tables w.fuel (seat_of w guest r) in by_asking after (is_asking after.point)

-- each module came with its policy
pub have_policies : (x : Whole) → IsUnderWay x → HavePolicies x.plan x.stage.state
have_policies x under =
    journal_policies x.plan x.modules x.stage.journal x.stage.state under.plan.modules.most_starts (record {
      opening = under.going.opening;
      opens = under.going.opens;
      leads = under.going.holds.stands.leads;
    })

module _ (old : Whole) (under : IsUnderWay old) (guest : ℕ) (mid : World) (turned : Turned)
    (turns : Turns old.stage.world (events.Guest guest) mid turned) where
  sound : All IsSoundModule old.modules
  sound = all_sound old.modules under.taken

  -- an open finds the policy and the guest
  pub mid_policy : policy_in_force mid.tables ≡ old.stage.state.policy
  mid_policy =
      let beside = turned_beside old.plan old.modules sound under.going.opening old.stage under.going.holds guest in
      ap (λ (w : World). policy_in_force w.tables) turns.world
      ∙ ap (λ t. policy_in_force t) beside.tables
      ∙ policy_is old.plan old.modules sound under.going.opening old.stage under.going.holds

  pub mid_there : (other number : ℕ) → turned ≡ Asks other number → IsThere mid guest
  mid_there other number asks =
      subst (λ (w : World). IsThere w guest) (sym turns.world)
      (asked_there old.stage.world guest other number (slice_get old.stage.world.guests guest) refl
      (sym turns.answer ∙ asks))

  -- the event has happened
  done : (world : World)
      → (let turn = turn_of old.stage.world (events.Guest guest) in
      GuestTurns old.plan old.stage.state turn.world world guest turn.answer)
      → HasDone (IsGuestEvent old.plan guest) old (one_event (with_world world old))
  done world is_turn =
      let event : IsGuestEvent old.plan guest old.stage (after_event world old.stage) =
      record { world = world; turns = is_turn; is = refl } in
      record {
        event = event;
        plan = refl;
        modules = refl;
        under_way = record {
          plan = under.plan;
          taken = under.taken;
          named = under.named;
          going = record {
            opening = under.going.opening;
            opens = under.going.opens;
            holds = holds_after old.plan old.modules sound under.going.opening old.stage under.going.holds
                (OfGuest guest) (after_event world old.stage) event tt;
          };
        };
      }

  pub did : turned ≡ Did → HasDone (IsGuestEvent old.plan guest) old (one_event (with_world mid old))
  did is =
      let turn = turn_of old.stage.world (events.Guest guest) in
      done mid
      (subst (GuestTurns old.plan old.stage.state turn.world mid guest) (sym (sym turns.answer ∙ is)) turns.world)

  pub asked : (other number : ℕ) → turned ≡ Asks other number → (new : Whole)
      → AnswersOpen (with_world mid old) new guest number
      → HasDone (IsGuestEvent old.plan guest) old (one_event new)
  asked other number is new answers =
      let turn = turn_of old.stage.world (events.Guest guest) in
      let turned_as : GuestTurns old.plan old.stage.state turn.world answers.world guest turn.answer =
      subst (GuestTurns old.plan old.stage.state turn.world answers.world guest) (sym (sym turns.answer ∙ is))
      (subst
      (λ (w : World). GuestTurns old.plan old.stage.state w answers.world guest (Asks other number)) turns.world
      answers.answered) in
      subst (λ (x : Whole). HasDone (IsGuestEvent old.plan guest) old (one_event x)) (sym answers.is)
      (done answers.world turned_as)

  went : SpendsNothing turned
  went = subst SpendsNothing (sym turns.answer)
      (spends_nothing old.stage.world guest (slice_get old.stage.world.guests guest))

  pub only_did : turned ≡ Did ⊎ ((a : ℕ) × (b : ℕ) × (turned ≡ VersionsSpent a b)) ⊎ turned ≡ EpochsSpent
      → turned ≡ Did
  only_did (inl is) = is
  only_did (inr (inl (a, b, is))) = absurd (subst SpendsNothing is went)
  only_did (inr (inr is)) = absurd (subst SpendsNothing is went)
