-- Where guests stand, and what stops them with Halt.
use Rattle.std.proofs.Common.{◌≡◌, ◌≢◌, ℕ, ◌/◌, List, [], ◌∷◌, slice_get, Some, None, refl, sym, ◌∙◌, ap, subst, inl, inr}
use Rattle.cfi_unit.specs.declared.log.Stop.TheVariants.{Fuel, Halt}
use Rattle.cfi_word.specs.Table.{Code}
use Rattle.cfi_model.specs.History.{History, IsHistory}
use Rattle.cfi_model.specs.InForce.{history_of, code_in_force}
use Rattle.cfi_model.specs.Raw.{Raw}
use Rattle.cfi_model.specs.Fits.{Along}
use Rattle.cfi_model.specs.Run.{Take, run_of}
use Rattle.cfi_model.specs.Running.{IsGuest, IsHeld, IsRunning, IsSpent}
use Rattle.cfi_model.specs.State.{State}
use Rattle.cfi_model.specs.Words.{word_at}
use Rattle.cfi_model.specs.World.{World}
use Rattle.cfi_model.proofs.AdvanceLemmas.{goes_on}
use Rattle.cfi_model.proofs.HaltLemmas.{only_checks_halt}
use Rattle.cfi_model.proofs.InForceLemmas.{history_is}
use Rattle.cfi_model.proofs.RunningLemmas.{running_shows, running_steps}
use Rattle.cfi_world.specs.Checks.{IsHalted, IsPlaced}
use Rattle.cfi_world.specs.Laws.{answer_in, IsRefined}
use Rattle.cfi_world.specs.Premises.{MayTurn}
use Rattle.cfi_world.specs.Turns.{turn_of}
use Rattle.cfi_world.specs.Worlds.{IsWorld}
use Rattle.cfi_world.specs.declared.event.Event.{Event}
use Rattle.cfi_world.proofs.CountLemmas.{running_repeated}
use Rattle.cfi_world.proofs.RefineLemmas.{refines}
use Rattle.cfi_model.proofs.ShownLemmas.{shown_stop}
use Rattle.cfi_world.proofs.FitLemmas.{fetch_fits}
use Rattle.cfi_world.proofs.WorldLemmas.{turn_kept}

some_same : (x y : Raw) → Some x ≡ Some y → x ≡ y
some_same x y e = cc

-- a guest that the fuel stopped has stopped
never : (last r : Raw) → r.base.stop ≡ None → IsSpent last r → ⊥
never last r going spent =
    let stop : r.base.stop ≡ Some Fuel = ap (λ x. x.base.stop) spent.is in
    let both : None ≡ Some Fuel = sym going ∙ stop in
    absurd (cc)

-- what a guest shows has stopped only where it has
going_shown : (h : History) (code : List ℕ) → IsHistory h code → (retries : ℕ) (s : State) (r : Raw)
    → IsGuest h code retries s r → r.base.stop ≡ None → s.stop ≡ None
going_shown h code known retries s r (inl runs) going =
    sym (shown_stop h code retries s r (running_shows h code known retries s r runs)) ∙ going
going_shown h code known retries s r (inr over) going = absurd (never over.0 r going over.2)

-- a guest that a check stopped shows it
halted_shown : (h : History) (code : List ℕ) → IsHistory h code → (retries : ℕ) (s : State) (r : Raw)
    → IsGuest h code retries s r → (target : ℕ) → r.base.stop ≡ Some (Halt target) → s.stop ≡ Some (Halt target)
halted_shown h code known retries s r (inl runs) target halts =
    sym (shown_stop h code retries s r (running_shows h code known retries s r runs)) ∙ halts
halted_shown h code known retries s r (inr over) target halts =
    let stop : r.base.stop ≡ Some Fuel = ap (λ x. x.base.stop) over.2.is in
    let both : Some (Halt target) ≡ Some Fuel = sym halts ∙ stop in
    absurd (cc)

-- a guest that has stopped has taken nothing since, and stands where it was held
held_by : (h : History) (code : List ℕ) (retries : ℕ) (s : State) (r : Raw) (runs : IsRunning h code retries s r)
    → s.stop ≢ None → (takes : List Take) → Along h code runs.start takes → r ≡ run_of runs.start takes
    → IsHeld h code s r
held_by h code retries s r runs stops [] along same = subst (IsHeld h code s) (sym same) (runs.rests.held stops)
held_by h code retries s r runs stops (t ∷ takes) along same =
    absurd (stops (goes_on h code s retries runs.start runs.rests.between t along.0))

running_held : (h : History) (code : List ℕ) (retries : ℕ) (s : State) (r : Raw) → IsRunning h code retries s r
    → s.stop ≢ None → IsHeld h code s r
running_held h code retries s r runs stops = held_by h code retries s r runs stops runs.takes runs.along runs.is

module _ (w : World) (is : IsWorld w) where
  -- a guest that runs, and one that the fuel stopped
  placed_by : (r : Raw) (retries : ℕ) (s : State)
      → IsGuest (history_of w.tables) (code_in_force w.tables) retries s r → IsPlaced w r
  placed_by r retries s (inl runs) =
      let repeated = running_repeated (history_of w.tables) (code_in_force w.tables) (history_is w.tables is.tables)
      retries s r runs in
      record {
        retries = retries;
        s = s;
        last = r;
        is = inl refl;
        ready = runs.rests.ready;
        led = runs;
        tries = repeated.0;
        stands = repeated.1;
        held = running_held (history_of w.tables) (code_in_force w.tables) retries s r runs;
        steps = λ going idle. running_steps (history_of w.tables) (code_in_force w.tables) (history_is w.tables is.tables)
            retries s r runs idle (word_at w.tables (Code (r.base.pc / 4)))
            (fetch_fits w.tables is.tables retries s r runs going idle);
      }
  placed_by r retries s (inr over) =
      let repeated = running_repeated (history_of w.tables) (code_in_force w.tables) (history_is w.tables is.tables)
      retries s over.0 over.1 in
      record {
        retries = retries;
        s = s;
        last = over.0;
        is = inr over.2;
        ready = over.1.rests.ready;
        led = over.1;
        tries = repeated.0;
        stands = repeated.1;
        held = running_held (history_of w.tables) (code_in_force w.tables) retries s over.0 over.1;
        steps = λ going idle. absurd (never over.0 r going over.2);
      }

  pub placed : (guest : ℕ) (r : Raw) → slice_get w.guests guest ≡ Some r → IsPlaced w r
  placed guest r here =
      let seat = is.running guest r here in
      placed_by r seat.retries seat.shown seat.runs

  halted_by : (event : Event) → MayTurn w event → (guest : ℕ) (r now : Raw)
      → slice_get (turn_of w event).world.guests guest ≡ Some now → r.base.stop ≡ None → (retries : ℕ) (s : State)
      → IsGuest (history_of w.tables) (code_in_force w.tables) retries s r
      → IsRefined w (turn_of w event).world (answer_in event) guest r retries s → (target : ℕ)
      → now.base.stop ≡ Some (Halt target) → IsHalted w r s target
  halted_by event may guest r now there going retries s runs refined target halts =
      let new : World = (turn_of w event).world in
      let same : refined.now ≡ now = some_same refined.now now (sym refined.there ∙ there) in
      let later_is = history_is new.tables (turn_kept w is event may).tables in
      let stop : refined.after.stop ≡ Some (Halt target) =
      halted_shown (history_of new.tables) (code_in_force new.tables) later_is refined.more refined.after refined.now
      refined.runs target (ap (λ x. x.base.stop) same ∙ halts) in
      let started = going_shown (history_of w.tables) (code_in_force w.tables) (history_is w.tables is.tables) retries s
      r runs going in
      elim refined.moves [
        | inl stays ↦
            let both : None ≡ Some (Halt target) = sym started ∙ sym (ap (λ x. x.stop) stays.1) ∙ stop in
            absurd (cc)
        | inr stepped ↦ record {
          end = stepped.end;
          bary = stepped.bary;
          tary = stepped.tary;
          forbidden = only_checks_halt (history_of w.tables) (code_in_force w.tables) stepped.end s refined.after
              stepped.step target stop;
        }
      ]

  pub halted : (event : Event) → MayTurn w event → (guest : ℕ) (r now : Raw) → slice_get w.guests guest ≡ Some r
      → slice_get (turn_of w event).world.guests guest ≡ Some now → r.base.stop ≡ None → (retries : ℕ) (s : State)
      → IsGuest (history_of w.tables) (code_in_force w.tables) retries s r
      → (target : ℕ) → now.base.stop ≡ Some (Halt target) → IsHalted w r s target
  halted event may guest r now here there going retries s runs target halts =
      halted_by event may guest r now there going retries s runs (refines w is guest r here retries s runs event may)
      target halts
