-- A seat after one access of its guest.
use Rattle.std.proofs.Common.{◌≡◌, ◌≢◌, ℕ, ◌+◌, ◌-◌, ◌≤◌, List, Option, Some, None, refl, sym, ◌∙◌, ap, subst, arith, ◌⊎◌, inl, inr}
use Rattle.cfi_unit.specs.declared.log.Stop.TheVariants.{Fuel}
use Rattle.cfi_model.specs.declared.quiet.Point.{Point}
use Rattle.cfi_model.specs.declared.quiet.Point.TheVariants.{Outside}
use Rattle.cfi_model.specs.declared.quiet.Quiet.{Quiet}
use Rattle.cfi_model.specs.declared.quiet.Quiet.TheVariants.{Parked}
use Rattle.cfi_model.specs.InForce.{in_force, history_of, code_in_force}
use Rattle.cfi_model.specs.Fits.{Fits}
use Rattle.cfi_model.specs.History.{History, IsEpoch, allows_at}
use Rattle.cfi_model.specs.Log.{last_policy}
use Rattle.cfi_model.specs.Raw.{Raw}
use Rattle.cfi_model.specs.Run.{Take, take_one}
use Rattle.cfi_model.specs.Running.{IsRunning, EndsUnit}
use Rattle.cfi_model.specs.Service.{Reply}
use Rattle.cfi_model.specs.Shows.{end_of, reply_in}
use Rattle.cfi_model.specs.State.{State}
use Rattle.cfi_model.specs.Tables.{IsTables}
use Rattle.cfi_model.specs.Words.{Tables, policy_in_force}
use Rattle.cfi_model.proofs.AfterLemmas.{effect_logs, effect_unspent}
use Rattle.cfi_model.proofs.AdvanceLemmas.{Running, advance}
use Rattle.cfi_model.proofs.EndLemmas.{effect_units}
use Rattle.cfi_model.proofs.RunningLemmas.{rests_run, goes_on, running_is, running_shows}
use Rattle.cfi_model.proofs.ShownLemmas.{shows_running, shows_units, shown_log, shown_stop}
use Rattle.cfi_model.proofs.TableLemmas.{force_policy}
use Rattle.cfi_model.proofs.InForceLemmas.{history_is, force_within, later_rises, epoch_within}
use Rattle.cfi_world.specs.Laws.{IsBrought, IsStepped}
use Rattle.cfi_world.specs.Seats.{Seat, rested}
use Rattle.cfi_world.specs.Worlds.{IsQuietSince, IsKeptSince, QuietFits, FitsPoint, IsSeat, IsRunningSeat}
use Rattle.cfi_world.proofs.RestLemmas.{fuel_not, fuel_rests, going_runs, guest_rests, same_bary, same_pc, same_tary, same_log, came}
use Rattle.cfi_world.proofs.TriesLemmas.{ended_counted}

module _ (t : Tables) (is : IsTables t) where
  abbrev h : History
  h = history_of t

  abbrev code : List ℕ
  code = code_in_force t

  abbrev force : ℕ
  force = policy_in_force t

  -- the policy of an epoch that is or was in force is not above the one in force
  low_policy : (epoch : ℕ) → IsEpoch h epoch → h.policy epoch ≤ force
  low_policy epoch known =
      subst (λ p. h.policy epoch ≤ p) (sym (force_policy t is))
      (later_rises t is (epoch - t.first) (in_force t) (epoch_within t is epoch known) (force_within t is))

  -- after an access the guest shows what it showed, or the policy machine's next state
  abbrev pub Moves : (given : Option Reply) → (retries : ℕ) → State → (r now : Raw) → (more : ℕ) → State → Type 0
  Moves given retries s r now more after =
      ((more ≡ retries) × (after ≡ s)) ⊎ IsStepped h code given retries s r now more after

  -- after an access the guest runs, and has logged no policy above that in force
  pub record HasMoved (given : Option Reply) (retries : ℕ) (s : State) (r : Raw) (take : Take) : Type 0 where
    pub more : ℕ
    pub after : State
    pub moves : Moves given retries s r (take_one r take) more after
    pub runs : IsRunning h code more after (take_one r take)
    pub logged : last_policy (take_one r take).base.log ≤ policy_in_force t
    pub unspent : (take_one r take).base.stop ≢ Some Fuel
    pub idle : (take_one r take).base.stop ≢ None → (take_one r take).waits ≡ None

  -- an answer is the one that is given, or a refusal, and its policy is not above the one in force
  pub record IsBroughtAt (given : Option Reply) (reply : Reply) : Type 0 where
    pub brings : IsBrought given reply
    pub force : reply.cause ≡ 0 → reply.policy ≤ force

  abbrev pub FitsForce : (given : Option Reply) → Take → Type 0
  FitsForce given take = (reply : Reply) → reply_in take ≡ Some reply → IsBroughtAt given reply

  -- a unit that goes on has not ended
  never_both : (retries : ℕ) (s : State) (r : Raw) (take : Take) → Running h code s retries (take_one r take)
      → EndsUnit h code retries s r take → ⊥
  never_both retries s r take on e =
      let still = shows_units h code retries s (take_one r take) (shows_running h code s retries (take_one r take) on) in
      let counts = ap (λ b. b.units) e.rests.between.base ∙ ap (λ x. x.units) e.step.is
      ∙ effect_units e.step.unit (h.policy e.step.epoch) (allows_at h e.step.epoch) e.step.reply s in
      omega (arith, still, counts)

  pub moved : (given : Option Reply) (retries : ℕ) (s : State) (r : Raw) → IsRunning h code retries s r
      → last_policy r.base.log ≤ force
      → r.base.stop ≡ None → (take : Take) → Fits h code r take → FitsForce given take → HasMoved given retries s r take
  moved given retries s r runs low going take fits answer =
      let known = history_is t is in
      let before = running_shows h code known retries s r runs in
      let s_going : s.stop ≡ None = sym (shown_stop h code retries s r before) ∙ going in
      let running = running_is h code known retries s r runs in
      elim (advance h code s retries known r running take fits) [
        | inl within ↦ elim (goes_on h code known retries s r runs take fits) [
          | inl on ↦
              let shows = running_shows h code known retries s (take_one r take) on in
              record {
                more = retries;
                after = s;
                moves = inl (refl, refl);
                runs = on;
                logged = subst (λ l. last_policy l ≤ force)
                    (shown_log h code retries s r before ∙ sym (shown_log h code retries s (take_one r take) shows)) low;
                unspent = λ stop.
                    fuel_not s (sym (shown_stop h code retries s (take_one r take) shows) ∙ stop) s_going;
                idle = λ stops. absurd (stops (shown_stop h code retries s (take_one r take) shows ∙ s_going));
              }
          | inr e ↦ absurd (never_both retries s r take (inr within) e)
        ]
        | inr e ↦
            let step = e.step in
            let low_s : last_policy s.log ≤ force =
            subst (λ l. last_policy l ≤ force) (shown_log h code retries s r before) low in
            let log = effect_logs step.unit (h.policy step.epoch) (allows_at h step.epoch) step.reply s force low_s
            (low_policy step.epoch step.known)
            (λ service free. (answer step.reply
            (came (end_of r take) step.reply s step.unit service step.answered)).force free) in
            let base = e.between.base in
            let counted = ended_counted h code known s retries r running take fits e running in
            record {
              more = retries + e.more;
              after = e.new;
              moves = inr (record {
                end = end_of r take;
                bary = refl;
                tary = refl;
                step = step;
                brings = λ reply is. (answer reply is).brings;
                least = omega arith;
                tries = counted.tries;
                repeated = counted.repeated;
                retried = ap (λ n. retries + n) counted.same;
                logged = λ some. e.logged (λ none. some (omega (arith, none)));
                picks = e.picks;
                begins = λ going. (e.between.fresh going).0;
                fresh = λ going. (e.between.fresh going).2;
              });
              runs = rests_run h code (retries + e.more) e.new (take_one r take)
                  (record { ready = e.ready; between = e.between; held = e.held });
              logged = subst (λ l. last_policy l ≤ force) (sym (ap (λ b. b.log) base ∙ ap (λ x. x.log) step.is)) log;
              unspent = λ stop. effect_unspent step.unit (h.policy step.epoch) (allows_at h step.epoch) step.reply s
                  step.going (sym (ap (λ x. x.stop) step.is) ∙ sym (ap (λ b. b.stop) base) ∙ stop);
              idle = λ stops. e.between.idle;
            }
      ]

  -- ---- the seat after an event of its guest

  pub record AreSeated (fuel guest : ℕ) (s : Seat) : Type 0 where
    pub seat : IsSeat t fuel s
    pub running : IsRunningSeat t fuel guest s

  -- a seat after an event of its guest
  pub record HasGone (given : Option Reply) (fuel guest : ℕ) (s : Seat) (both : AreSeated fuel guest s) (new : Seat)
      : Type 0 where
    pub seated : AreSeated fuel guest new
    pub moves : Moves given both.running.retries both.running.shown s.guest new.guest seated.running.retries seated.running.shown

  pub quiet_rests : (fuel guest : ℕ) (r new : Raw) (quiet : ℕ) (since : IsQuietSince t guest r quiet)
      → ((word : ℕ) → new.bary ≡ Some word → IsKeptSince t since.floor word)
      → IsQuietSince t guest (rested fuel new) quiet
  quiet_rests fuel guest r new quiet since keeps = record {
    published = since.published;
    floor = since.floor;
    least = since.least;
    settled = since.settled;
    newest = since.newest;
    next = since.next;
    kept = λ word e. keeps word (sym (same_bary fuel new) ∙ e);
  }

  -- what the rest leaves of a move
  moves_rest : (given : Option Reply) (retries : ℕ) (s : State) (r now : Raw) (fuel more : ℕ) (after : State)
      → Moves given retries s r now more after → Moves given retries s r (rested fuel now) more after
  moves_rest given retries s r now fuel more after (inl same) = inl same
  moves_rest given retries s r now fuel more after (inr stepped) = inr (record {
    end = stepped.end;
    bary = stepped.bary;
    tary = stepped.tary;
    step = stepped.step;
    brings = stepped.brings;
    least = stepped.least;
    tries = stepped.tries;
    repeated = stepped.repeated;
    retried = stepped.retried;
    logged = stepped.logged;
    picks = stepped.picks;
    begins = λ going. same_pc fuel now ∙ stepped.begins going;
    fresh = λ going. same_tary fuel now ∙ stepped.fresh going;
  })

  -- what an access makes of a guest
  abbrev pub moved_on : (given : Option Reply) (fuel guest : ℕ) (s : Seat) (both : AreSeated fuel guest s)
      → s.guest.base.stop ≡ None → (take : Take) → Fits h code s.guest take → FitsForce given take
      → HasMoved given both.running.retries both.running.shown s.guest take
  moved_on given fuel guest s both going take fits answer =
      moved given both.running.retries both.running.shown s.guest
      (going_runs h code both.running.retries both.running.shown s.guest both.running.runs going) both.seat.logged going
      take fits answer

  -- a guest that may fetch next
  pub seat_moved : (given : Option Reply) (fuel guest : ℕ) (s : Seat) (both : AreSeated fuel guest s)
      → s.guest.base.stop ≡ None → (take : Take) → Fits h code s.guest take → FitsForce given take → (new : Raw)
      → new ≡ take_one s.guest take → new.base.steps ≤ fuel
      → (quiet : Quiet) (point : Point) → FitsPoint t (rested fuel new) point
      → QuietFits t guest (record { guest = rested fuel new; point = point; quiet = quiet }) quiet
      → HasGone given fuel guest s both (record { guest = rested fuel new; point = point; quiet = quiet })
  seat_moved given fuel guest s both going take fits answer new is_new most quiet point points quiets =
      let m = moved_on given fuel guest s both going take fits answer in
      let left = fuel_rests fuel new most (subst (λ x. x.base.stop ≢ Some Fuel) (sym is_new) m.unspent)
      (subst (λ x. x.base.stop ≢ None → x.waits ≡ None) (sym is_new) m.idle) in
      record {
        seated = record {
          seat = record {
            steps_most = left.most;
            steps_left = λ on idle outside. left.left on idle;
            stopped = left.stopped;
            point = points;
            logged = subst (λ l. last_policy l ≤ force) (sym (same_log fuel new))
                (subst (λ x. last_policy x.base.log ≤ force) (sym is_new) m.logged);
          };
          running = record {
            retries = m.more;
            shown = m.after;
            runs = guest_rests h code m.more m.after fuel new
                (subst (IsRunning h code m.more m.after) (sym is_new) m.runs);
            spent = left.spent;
            quiet = quiets;
          };
        };
        moves = moves_rest given both.running.retries both.running.shown s.guest new fuel m.more m.after
            (subst (λ x. Moves given both.running.retries both.running.shown s.guest x m.more m.after) (sym is_new) m.moves);
      }

  -- a guest inside a service, and one that has stopped in it
  pub seat_stays : (given : Option Reply) (fuel guest : ℕ) (s : Seat) (both : AreSeated fuel guest s)
      → s.guest.base.stop ≡ None → (take : Take) → Fits h code s.guest take → FitsForce given take → (new : Raw)
      → new ≡ take_one s.guest take → new.base.steps ≤ fuel
      → (point : Point) → FitsPoint t new point → (point ≢ Outside) ⊎ (new.base.stop ≢ None)
      → HasGone given fuel guest s both (record { guest = new; point = point; quiet = Parked })
  seat_stays given fuel guest s both going take fits answer new is_new most point points inside =
      let m = moved_on given fuel guest s both going take fits answer in
      record {
        seated = record {
          seat = record {
            steps_most = most;
            steps_left = λ on idle outside. absurd (never inside on outside);
            stopped = subst (λ x. x.base.stop ≢ None → x.waits ≡ None) (sym is_new) m.idle;
            point = points;
            logged = subst (λ x. last_policy x.base.log ≤ force) (sym is_new) m.logged;
          };
          running = record {
            retries = m.more;
            shown = m.after;
            runs = inl (subst (IsRunning h code m.more m.after) (sym is_new) m.runs);
            spent = λ stop. absurd (subst (λ x. x.base.stop ≢ Some Fuel) (sym is_new) m.unspent stop);
            quiet = inside;
          };
        };
        moves = subst (λ x. Moves given both.running.retries both.running.shown s.guest x m.more m.after) (sym is_new)
            m.moves;
      }
    where
      never : (point ≢ Outside) ⊎ (new.base.stop ≢ None) → new.base.stop ≡ None → point ≡ Outside → ⊥
      never (inl within) on outside = within outside
      never (inr stopped) on outside = stopped on
