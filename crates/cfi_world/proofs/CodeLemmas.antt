-- What the code of a turn makes is the turn.
use Rattle.std.proofs.Common.{◌≡◌, ℕ, ◌+◌, ◌^◌, ◌<◌, ◌≤◌, ◌&&◌, ◌||◌, Bool, true, false, cond, not, List, length, slice_get, slice_set, slice_index_or, is_some, Option, Some, None, refl, sym, ◌∙◌, ap, subst, arith}
use Rattle.std.proofs.lemmas.Option.{slice_get-get_or}
use Rattle.cfi_unit.specs.declared.log.Stop.{Stop}
use Rattle.cfi_word.specs.declared.limits.TheConstants.{MAX_POLICY}
use Rattle.cfi_model.specs.declared.quiet.Point.TheVariants.{Outside, Leaving}
use Rattle.cfi_model.specs.declared.quiet.Quiet.TheVariants.{Unregistered}
use Rattle.cfi_model.specs.InForce.{in_force}
use Rattle.cfi_model.specs.Phases.{phase_of}
use Rattle.cfi_model.specs.Run.{serve_of}
use Rattle.cfi_model.specs.Service.{Reply}
use Rattle.cfi_model.specs.Tables.{IsTables}
use Rattle.cfi_model.proofs.InForceLemmas.{force_within}
use Rattle.cfi_model.proofs.TableLemmas.{force_policy}
use Rattle.rv_guest.specs.Guest.{MayAnswer as Accepts}
use Rattle.cfi_model.specs.Log.{last_policy}
use Rattle.cfi_model.specs.Raw.{Raw}
use Rattle.cfi_model.specs.Words.{Tables, policy_in_force}
use Rattle.cfi_model.specs.World.{World, quiet_of, point_of}
use Rattle.cfi_world.specs.Premises.{MayAnswer}
use Rattle.cfi_world.specs.Seats.{Seat, seat_of, with_seat, seat_after, is_asking}
use Rattle.cfi_world.specs.Updates.{is_idle}
use Rattle.cfi_world.specs.Turns.{Turn, did, seated, nothing, guest_turn, turned_by, answered, answer_turn, is_registered, release_turn}
use Rattle.cfi_world.specs.Worlds.{FitsPoint, IsWorld}
use Rattle.cfi_world.specs.declared.event.Turned.{Turned}
use Rattle.cfi_world.specs.declared.event.Turned.TheVariants.{Did}
use Rattle.cfi_world.proofs.WorldLemmas.{guest_by, answer_by, release_by}
use Rattle.cfi_world.proofs.ChoiceLemmas.{neither, not_some, asks_it}

-- the item at a place, read with a default of its own
pub item_is : {X : Type 0} (xs : List X) (k : ℕ) (x : X) → k < length xs → x ≡ slice_index_or xs k x
    → slice_get xs k ≡ Some x
item_is xs k x within is = slice_get-get_or xs k x within ∙ ap Some (sym is)

pub same_item : {X : Type 0} (xs : List X) (k : ℕ) (x y : X) → k < length xs → x ≡ slice_index_or xs k x
    → y ≡ slice_index_or xs k y → x ≡ y
same_item xs k x y within one other =
    let both = sym (item_is xs k x within one) ∙ item_is xs k y within other in
    cc

-- what the tests of an option tell
pub some_by : (stop told : Option Stop) (b : Bool) → told ≡ stop → is_some told ≡ not b → b ≡ false
    → is_some stop ≡ true
some_by stop told b same is test = ap is_some (sym same) ∙ is ∙ ap not test

all_three : (a b c : Bool) → a ≡ true → b ≡ true → c ≡ true → a && (b && c) ≡ true
all_three true true true x y z = refl
all_three true true false x y z = absurd (cc)
all_three true false c x y z = absurd (cc)
all_three false b c x y z = absurd (cc)

force_most : (t : Tables) → IsTables t → policy_in_force t ≤ MAX_POLICY
force_most t is = omega (arith, force_policy t is, is.policies_fit (in_force t) (force_within t is))

module _ (w : World) (is : IsWorld w) (guest : ℕ) (r : Raw) (here : slice_get w.guests guest ≡ Some r) where
  -- what an event of the guest needs
  pub steps_fit : r.base.stop ≡ None → point_of w guest ≡ Outside → r.waits ≡ None → r.base.steps + 1 < 2 ^ 32
  steps_fit going outside idle =
      let left = (is.seats guest r here).steps_left going idle outside in
      omega (arith, left, is.fuel_fits)

  pub logs_fit : last_policy r.base.log ≤ policy_in_force w.tables
  logs_fit = (is.seats guest r here).logged

  module _ (free : is_some r.base.stop || is_asking (point_of w guest) ≡ false) where
    pub going : r.base.stop ≡ None
    going = not_some r.base.stop (neither (is_some r.base.stop) (is_asking (point_of w guest)) free).0

    -- the guest has gone on to this seat
    pub gone_kept : (s : Seat) → s ≡ seat_after w.tables w.fuel (seat_of w guest r) → IsWorld (with_seat w guest s)
    gone_kept s is_after =
        subst (λ x. IsWorld (with_seat w guest x)) (sym is_after) (guest_by w is guest r here false free)

    pub gone_is : (s : Seat) (answer : Turned) → s ≡ seat_after w.tables w.fuel (seat_of w guest r)
        → answer ≡ turned_by guest s
        → record { world = with_seat w guest s; answer = answer } ≡ guest_turn w guest (slice_get w.guests guest)
    gone_is s answer is_after tells =
        let turn : Turned → Turn = λ a. record { world = with_seat w guest s; answer = a } in
        let new : Seat = seat_after w.tables w.fuel (seat_of w guest r) in
        ap turn tells ∙ ap (seated w guest) is_after
        ∙ sym (ap (λ b. cond b (nothing w) (seated w guest new)) free) ∙ ap (guest_turn w guest) (sym here)

  -- the guest waits for the answer to its open
  module _ (asks : is_asking (point_of w guest) ≡ true) where
    pub may_answer : (reply : Reply) → MayAnswer w reply → Accepts reply r
    may_answer reply may =
        let point = subst (FitsPoint w.tables r) (asks_it (point_of w guest) asks) (is.seats guest r here).point in
        record {
          waiting = point.0;
          inside = may.inside;
          few = λ other. point.1;
          rises = omega (arith, logs_fit, may.policy);
          most = omega (arith, may.policy, force_most w.tables is.tables);
        }

    pub ended_kept : (reply : Reply) → MayAnswer w reply → (new : Raw) → new ≡ serve_of r reply
        → IsWorld (record w {
          guests = slice_set w.guests guest new;
          points = slice_set w.points guest Leaving;
        })
    ended_kept reply may new is_new =
        subst (λ x. IsWorld
        (record w { guests = slice_set w.guests guest x; points = slice_set w.points guest Leaving }))
        (sym is_new) (answer_by w is guest reply may r here true asks)

    pub ended_is : (reply : Reply) (new : Raw) → new ≡ serve_of r reply
        → record {
          world = record w { guests = slice_set w.guests guest new; points = slice_set w.points guest Leaving };
          answer = Did;
        } ≡ answer_turn w guest reply (slice_get w.guests guest)
    ended_is reply new is_new =
        ap (λ x. did
        (record w { guests = slice_set w.guests guest x; points = slice_set w.points guest Leaving })) is_new
        ∙ sym (ap (λ b. cond b (did (answered w guest reply r)) (nothing w)) asks) ∙ ap (answer_turn w guest reply)
        (sym here)

  -- the guest has stopped and is registered, and no update is under way
  module _ (stopped : is_some r.base.stop ≡ true) (registered : is_registered (quiet_of w guest) ≡ true)
      (idle : is_idle (phase_of w.tables) ≡ true) where
    may_go : is_some r.base.stop && (is_registered (quiet_of w guest) && is_idle (phase_of w.tables)) ≡ true
    may_go = all_three (is_some r.base.stop) (is_registered (quiet_of w guest))
        (is_idle (phase_of w.tables)) stopped registered idle

    pub released_kept : IsWorld (record w { quiets = slice_set w.quiets guest Unregistered })
    released_kept = release_by w is guest r here true may_go

    pub released_is : record { world = record w { quiets = slice_set w.quiets guest Unregistered }; answer = Did }
        ≡ release_turn w guest (slice_get w.guests guest)
    released_is =
        sym (ap (λ b. cond b (did (record w { quiets = slice_set w.quiets guest Unregistered })) (nothing w)) may_go)
        ∙ ap (release_turn w guest) (sym here)
