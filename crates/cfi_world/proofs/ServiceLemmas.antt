-- The seat after an event within a service, and after an answer.
use Rattle.std.proofs.Common.{◌≡◌, ◌≢◌, ℕ, ◌<◌, ◌≤◌, ◌==◌, ◌&&◌, nat_lt, Bool, true, false, cond, is_some, List, Option, Some, None, refl, sym, ◌∙◌, ap, subst, arith, rules, inl, inr}
use Rattle.std.specs.List.{All}
use Rattle.std.proofs.lemmas.Bool.{eq-eqb}
use Rattle.std.proofs.lemmas.List.Elements.{All-nil}
use Rattle.std.proofs.lemmas.Option.{none-some}
use Rattle.cfi_unit.specs.declared.log.Stop.{Stop}
use Rattle.cfi_unit.specs.declared.log.Stop.TheVariants.{Fuel}
use Rattle.cfi_word.specs.Rank.{stores_of}
use Rattle.cfi_word.specs.declared.limits.TheConstants.{MAX_OPENS}
use Rattle.cfi_word.specs.declared.services.TheConstants.{OPEN, TOO_MANY}
use Rattle.cfi_model.specs.declared.act.Wait.{Wait}
use Rattle.cfi_model.specs.declared.act.Wait.TheVariants as waits
use Rattle.cfi_model.specs.declared.history.Entry.{Entry}
use Rattle.cfi_model.specs.declared.quiet.Point.{Point}
use Rattle.cfi_model.specs.declared.quiet.Point.TheVariants.{Outside, Asking, Leaving, Found}
use Rattle.cfi_model.specs.declared.quiet.Quiet.TheVariants.{Parked, Published}
use Rattle.cfi_model.specs.Data.{LiesInData}
use Rattle.cfi_model.specs.InForce.{in_force, history_of, code_in_force}
use Rattle.cfi_model.specs.Fits.{Fits, FitsReply, FitsOpen}
use Rattle.cfi_model.specs.History.{History}
use Rattle.cfi_model.specs.Log.{last_policy, opens}
use Rattle.cfi_model.specs.Raw.{Raw}
use Rattle.cfi_model.specs.Run.{Served, serve_as, serve_of}
use Rattle.cfi_model.specs.Service.{Reply, too_many}
use Rattle.cfi_model.specs.Tables.{IsTables, MayBeAsked}
use Rattle.cfi_model.specs.Words.{Tables, epoch_in_force, policy_in_force}
use Rattle.cfi_model.proofs.InForceLemmas.{force_within}
use Rattle.cfi_model.proofs.TableLemmas.{force_policy}
use Rattle.cfi_world.specs.Seats.{Seat, rested, needs_answer, left_by, seat_by, seat_at, seat_after}
use Rattle.cfi_world.specs.Worlds.{IsLeaving, IsQuietSince, QuietFits, FitsPoint, settled_epoch}
use Rattle.cfi_world.proofs.ChoiceLemmas.{is_there, not_some}
use Rattle.cfi_world.proofs.FetchLemmas.{fetched, found_bary, found_tary}
use Rattle.cfi_world.proofs.ParkLemmas.{is_parked}
use Rattle.cfi_world.proofs.RestLemmas.{fuel_rests, going_runs, guest_rests, same_bary, same_log}
use Rattle.cfi_world.proofs.SeatLemmas.{AreSeated, HasGone, IsBroughtAt, FitsForce, seat_stays}
use Rattle.cfi_world.proofs.SettledLemmas.{settled_near, settled_next, settled_reach}

-- ---- a guest in a service

-- a guest that waits has not stopped
going_by : (o : Option Stop) (wait : Option Wait) (w : Wait) → (o ≢ None → wait ≡ None) → wait ≡ Some w → o ≡ None
going_by None wait w stopped is = refl
going_by (Some stop) wait w stopped is =
    let none : wait ≡ None = stopped (λ e. absurd (cc)) in
    absurd (cc)

-- tests and what they tell
last_false : (a b : Bool) → a ≡ true → a && b ≡ false → b ≡ false
last_false true b one none = none
last_false false b one none = absurd (cc)

needs_both : (a b : Bool) → a && b ≡ true → (a ≡ true) × (b ≡ true)
needs_both true true e = (refl, refl)
needs_both true false e = absurd (cc)
needs_both false b e = absurd (cc)

never_below : (a b : ℕ) → nat_lt a b ≡ false → a < b → ⊥
never_below a b e less =
    let test : nat_lt a b ≡ true = search (rules, arith) in
    absurd (cc)

never_free : TOO_MANY ≡ 0 → ⊥
never_free e = absurd (omega arith)

-- an answer is that which came
answers : (t : Tables) (is : IsTables t) (given : Option Reply) (reply : Reply) → IsBroughtAt t is given reply
    → FitsForce t is given (Served reply)
answers t is given reply brought = λ other came.
    let same : reply ≡ other = cc in
    subst (IsBroughtAt t is given) same brought

module _ (t : Tables) (is : IsTables t) (fuel guest : ℕ) (s : Seat) (both : AreSeated t is fuel guest s) where
  abbrev h : History
  h = history_of t

  abbrev code : List ℕ
  code = code_in_force t

  abbrev r : Raw
  r = s.guest

  -- the answer with which a service ends fits
  reply_fits : (number : ℕ) → r.waits ≡ Some (waits.Service number) → (reply : Reply)
      → (number ≡ OPEN → FitsOpen reply r.base) → Fits h code r (Served reply)
  reply_fits number is_wait reply fits = subst (λ w. FitsReply w r reply) (sym is_wait) fits

  -- what the end of a service leaves
  served_steps : (number : ℕ) → r.waits ≡ Some (waits.Service number) → (reply : Reply)
      → (serve_of r reply).base.steps ≤ fuel
  served_steps number is_wait reply =
      subst (λ n. n ≤ fuel) (sym (ap (λ w. (serve_as w r reply).base.steps) is_wait)) both.seat.steps_most

  leaves : (number : ℕ) → r.waits ≡ Some (waits.Service number) → (reply : Reply)
      → (serve_of r reply).base.stop ≡ None → IsLeaving (serve_of r reply)
  leaves number is_wait reply going = record {
    going = going;
    waits = ap (λ w. (serve_as w r reply).waits) is_wait;
    bare = ap (λ w. (serve_as w r reply).bary) is_wait;
  }

  -- an open that needs no answer finds too many logged
  finds_many : (number : ℕ) → needs_answer number r ≡ false → number ≡ OPEN → FitsOpen too_many r.base
  finds_many number no_need opens_it =
      let many : nat_lt (opens r.base.log) MAX_OPENS ≡ false = last_false (number == OPEN) _
      (eq-eqb number OPEN opens_it) no_need in
      record {
        answer = record {
          inside = All-nil LiesInData;
          few = λ other. absurd (other refl);
          rises = λ free. absurd (never_free free);
          most = λ free. absurd (never_free free);
        };
        exact = λ below. absurd (never_below (opens r.base.log) MAX_OPENS many below);
      }

  -- the service's work is done, and the guest has stopped, or is to leave it
  works : (number : ℕ) → r.base.stop ≡ None → r.waits ≡ Some (waits.Service number)
      → needs_answer number r ≡ false → (stops : Bool) → is_some (serve_of r too_many).base.stop ≡ stops
      → HasGone t is None fuel guest s both (record {
        guest = serve_of r too_many;
        point = cond stops Outside Leaving;
        quiet = Parked;
      })
  works number going is_wait needs true stops =
      seat_stays t is None fuel guest s both going (Served too_many)
      (reply_fits number is_wait too_many (finds_many number needs))
      (answers t is None too_many (record { brings = refl; force = λ free. absurd (never_free free) }))
      (serve_of r too_many) refl (served_steps number is_wait too_many) Outside tt
      (inr (is_there (serve_of r too_many).base.stop stops))
  works number going is_wait needs false stops =
      seat_stays t is None fuel guest s both going (Served too_many)
      (reply_fits number is_wait too_many (finds_many number needs))
      (answers t is None too_many (record { brings = refl; force = λ free. absurd (never_free free) }))
      (serve_of r too_many) refl (served_steps number is_wait too_many) Leaving
      (leaves number is_wait too_many (not_some (serve_of r too_many).base.stop stops))
      (inl (λ e. absurd (cc)))

  -- the guest parks, and the service's work is done or needs an answer
  parks : (number : ℕ) → r.base.stop ≡ None → r.waits ≡ Some (waits.Service number)
      → (need : Bool) → needs_answer number r ≡ need
      → HasGone t is None fuel guest s both (record {
        guest = cond need r (serve_of r too_many);
        point = cond need Asking (left_by (serve_of r too_many));
        quiet = Parked;
      })
  parks number going is_wait true needs =
      let parts = needs_both (number == OPEN) _ needs in
      let opens_it : number ≡ OPEN = (let test : (number == OPEN) ≡ true = parts.0 in search (rules, arith)) in
      let few : opens r.base.log < MAX_OPENS =
      (let test : nat_lt (opens r.base.log) MAX_OPENS ≡ true = parts.1 in search (rules, arith)) in
      record {
        seated = record {
          seat = record {
            steps_most = both.seat.steps_most;
            steps_left = λ on idle outside. absurd (cc);
            stopped = both.seat.stopped;
            point = (is_wait ∙ ap (λ n. Some (waits.Service n)) opens_it, few);
            logged = both.seat.logged;
          };
          running = record {
            retries = both.running.retries;
            shown = both.running.shown;
            runs = both.running.runs;
            spent = both.running.spent;
            quiet = inl (λ e. absurd (cc));
          };
        };
        moves = inl (refl, refl);
      }
  parks number going is_wait false needs =
      works number going is_wait needs (is_some (serve_of r too_many).base.stop) refl

  -- every event of a guest that is in no service
  after_by : (wait : Option Wait) → r.waits ≡ wait → r.base.stop ≡ None → s.point ≡ Outside
      → HasGone t is None fuel guest s both (seat_by wait t fuel s)
  after_by None is_wait going outside = fetched t is fuel guest s both going outside is_wait
  after_by (Some (waits.Tary at rd)) is_wait going outside =
      found_tary t is fuel guest s both going outside at rd is_wait
  after_by (Some (waits.Bary slot rd)) is_wait going outside =
      found_bary t is fuel guest s both going outside slot rd is_wait
  after_by (Some (waits.Service number)) is_wait going outside =
      parks number going is_wait (needs_answer number r) refl

  -- a parked guest that stays so
  stays_parked : (point : Point) → point ≢ Outside → FitsPoint t r point → s.quiet ≡ Parked
      → HasGone t is None fuel guest s both (record s { point = point })
  stays_parked point inside fits parked = record {
    seated = record {
      seat = record {
        steps_most = both.seat.steps_most;
        steps_left = λ on idle outside. absurd (inside outside);
        stopped = both.seat.stopped;
        point = fits;
        logged = both.seat.logged;
      };
      running = record {
        retries = both.running.retries;
        shown = both.running.shown;
        runs = both.running.runs;
        spent = both.running.spent;
        quiet = subst (QuietFits t guest (record s { point = point })) (sym parked) (inl inside);
      };
    };
    moves = inl (refl, refl);
  }

  -- what a guest publishes, which keeps no Bary word
  published_since : (epoch : ℕ) → epoch ≤ epoch_in_force t → (new : Raw) → new.bary ≡ None
      → IsQuietSince t guest new epoch
  published_since epoch low new none = record {
    published = low;
    floor = settled_epoch t;
    least = omega (arith, low, settled_near t is);
    settled = omega arith;
    newest = settled_reach t is;
    next = λ asked tested. settled_next t is (asked_idle t.asked asked is.asked_fits);
    kept = λ word e. absurd (none-some word (sym none ∙ e));
  }
    where
      asked_idle : (asked : Option Entry) → asked ≢ None → MayBeAsked t asked → stores_of t.code_words ≤ t.stored
      asked_idle None some may = absurd (some refl)
      asked_idle (Some entry) some may = omega (arith, may.idle)

  -- the store that ends the service
  publishes : (epoch : ℕ) → IsLeaving r → epoch ≤ epoch_in_force t
      → HasGone t is None fuel guest s both
      (record { guest = rested fuel r; point = Outside; quiet = Published epoch })
  publishes epoch leaving low =
      let left = fuel_rests fuel r both.seat.steps_most (λ stop. absurd (none-some Fuel (sym leaving.going ∙ stop)))
      (λ stops. leaving.waits) in
      let runs = going_runs h code both.running.retries both.running.shown r both.running.runs leaving.going in
      record {
        seated = record {
          seat = record {
            steps_most = left.most;
            steps_left = λ on idle outside. left.left on idle;
            stopped = left.stopped;
            point = tt;
            logged = subst (λ l. last_policy l ≤ policy_in_force t) (sym (same_log fuel r)) both.seat.logged;
          };
          running = record {
            retries = both.running.retries;
            shown = both.running.shown;
            runs = guest_rests h code both.running.retries both.running.shown fuel r runs;
            spent = left.spent;
            quiet = (refl, published_since epoch low (rested fuel r) (same_bary fuel r ∙ leaving.bare));
          };
        };
        moves = inl (refl, refl);
      }

  -- every event of a guest that has not stopped
  at_by : (point : Point) → s.point ≡ point → r.base.stop ≡ None
      → HasGone t is None fuel guest s both (seat_at point t fuel s)
  at_by Outside is_point going = after_by r.waits refl going is_point
  at_by Asking is_point going = record { seated = both; moves = inl (refl, refl) }
  at_by Leaving is_point going =
      let fits = subst (FitsPoint t r) is_point both.seat.point in
      stays_parked (Found (epoch_in_force t)) (λ e. absurd (cc)) (fits, omega arith)
      (is_parked t guest s s.quiet both.running.quiet going (λ e. absurd (cc)))
  at_by (Found epoch) is_point going =
      let fits = subst (FitsPoint t r) is_point both.seat.point in
      publishes epoch fits.0 fits.1

  pub seat_goes : r.base.stop ≡ None → HasGone t is None fuel guest s both (seat_after t fuel s)
  seat_goes going = at_by s.point refl going

  -- the answer to its open
  pub answered : s.point ≡ Asking → (reply : Reply) → reply.policy ≡ policy_in_force t → reply.cause ≢ TOO_MANY
      → All LiesInData reply.fills
      → HasGone t is (Some reply) fuel guest s both
      (record s { guest = serve_of r reply; point = Leaving })
  answered is_point reply policy some inside =
      let point = subst (FitsPoint t r) is_point both.seat.point in
      let going = going_by r.base.stop r.waits (waits.Service OPEN) both.seat.stopped point.0 in
      let most = is.policies_fit (in_force t) (force_within t is) in
      let parked = is_parked t guest s s.quiet both.running.quiet going (λ e. absurd (cc)) in
      let stop : (serve_of r reply).base.stop ≡ None = ap (λ w. (serve_as w r reply).base.stop) point.0 ∙ going in
      subst (λ quiet. HasGone t is (Some reply) fuel guest s both
      (record { guest = serve_of r reply; point = Leaving; quiet = quiet })) (sym parked)
      (seat_stays t is (Some reply) fuel guest s both going (Served reply)
      (reply_fits OPEN point.0 reply
      (λ opens_it. record {
        answer = record {
          inside = inside;
          few = λ other. point.1;
          rises = λ free. omega (arith, both.seat.logged, policy);
          most = λ free. omega (arith, policy, force_policy t is, most);
        };
        exact = λ below. some;
      }))
      (answers t is (Some reply) reply (record { brings = refl; force = λ free. omega (arith, policy) }))
      (serve_of r reply) refl (served_steps OPEN point.0 reply) Leaving (leaves OPEN point.0 reply stop)
      (inl (λ e. absurd (cc))))
