-- What the steps of a guest that shows a state come to.
use Rattle.std.proofs.Common.{◌≡◌, ◌≢◌, true, ℕ, zero, suc, ◌+◌, ◌*◌, ◌≤◌, List, Option, Some, None, refl, sym, ◌∙◌, ap, subst, arith, inl, inr}
use Rattle.std.proofs.lemmas.Bool.{cases_eq}
use Rattle.cfi_unit.specs.declared.log.Log.{Log}
use Rattle.cfi_unit.specs.declared.log.Stop.{Stop}
use Rattle.cfi_unit.specs.declared.log.Stop.TheVariants as stops
use Rattle.cfi_unit.specs.declared.unit.Unit.{Unit as CodeUnit}
use Rattle.cfi_unit.specs.declared.unit.Unit.TheVariants as units
use Rattle.cfi_word.specs.declared.sizes.TheConstants.{RETRY_STEPS}
use Rattle.cfi_model.specs.declared.act.Wait.{Wait}
use Rattle.cfi_model.specs.declared.act.Wait.TheVariants as waits
use Rattle.cfi_model.specs.History.{History, IsHistory}
use Rattle.cfi_model.specs.Log.{pick_entries}
use Rattle.cfi_model.specs.Raw.{Raw}
use Rattle.cfi_model.specs.Shows.{IsReady, IsPlaceIn, IsRetried, IsBetween, IsInside, Shows, few_of}
use Rattle.cfi_model.specs.State.{State}
use Rattle.cfi_model.proofs.AfterLemmas.{effect_unspent}
use Rattle.cfi_model.proofs.ShownLemmas.{never_retried, shown_stop}
use Rattle.cfi_model.proofs.StartLemmas.{started}
use Rattle.cfi_valid.specs.Loaded.{Members, Cells}
use Rattle.cfi_valid.specs.Replay.{Replays, shown_stop as stop_shown}
use Rattle.cfi_valid.specs.Steps.{begun_most, HasBegun, is_check, MeetsCheck}

-- ---- stops

-- the fuel stops no replay
pub replay_unspent : (cells : Cells) (code : List ℕ) (members : Members) (log : List Log) (count : ℕ)
    (old new : State) → Replays cells code members log count old new → old.stop ≡ None
    → new.stop ≢ Some stops.Fuel
replay_unspent cells code members log zero old new same going spent =
    let none : new.stop ≡ None = ap (λ (x : State). x.stop) same ∙ going in
    absurd (cc)
replay_unspent cells code members log (suc count) old new more going spent =
    let p = more.2 in
    effect_unspent p.unit p.pick (λ slot target. p.allowed) p.reply more.0 p.going
    (sym (ap (λ (x : State). x.stop) p.is) ∙ spent)

pub stop_same : (stop : Option Stop) → stop ≢ Some stops.Fuel → stop ≡ stop_shown stop
stop_same None apart = refl
stop_same (Some (stops.Exit code)) apart = refl
stop_same (Some (stops.Halt target)) apart = refl
stop_same (Some (stops.Align address)) apart = refl
stop_same (Some stops.Fuel) apart = absurd (apart refl)

-- ---- the unit that is begun

-- what of a unit was run before its end
few_by : (unit : CodeUnit) (wait : Option Wait) (at few : ℕ) → IsPlaceIn unit wait at few → few ≤ begun_most None unit
few_by (units.Plain insn) wait at few place = place.1
few_by (units.Load kind rd rs1 imm) wait at few place = place.1
few_by (units.Store kind rs1 rs2 imm) wait at few place = place.1
few_by (units.Branch c rs1 rs2 off) wait at few place = place.1
few_by (units.Jump link off) wait at few place = place.1
few_by (units.Check link rs1 imm slot) wait at few place = place.1
few_by units.Service None at few place = omega (arith, place.1)
few_by units.Service (Some (waits.Tary address rd)) at few place = omega (arith, place.1)
few_by units.Service (Some (waits.Bary slot rd)) at few place = omega (arith, place.1)
few_by units.Service (Some (waits.Service number)) at few place = omega (arith, place.1)

few_idle : (unit : CodeUnit) (at few : ℕ) → IsPlaceIn unit None at few → few ≤ few_of unit
few_idle (units.Plain insn) at few place = place.1
few_idle (units.Load kind rd rs1 imm) at few place = place.1
few_idle (units.Store kind rs1 rs2 imm) at few place = place.1
few_idle (units.Branch c rs1 rs2 off) at few place = place.1
few_idle (units.Jump link off) at few place = place.1
few_idle (units.Check link rs1 imm slot) at few place = place.1
few_idle units.Service at few place = place.1

-- only a check is tried again
check_retried : (h : History) (unit : CodeUnit) (s : State) → IsRetried h unit s → is_check unit ≡ true
check_retried h (units.Check link rs1 imm slot) s retried = refl
check_retried h (units.Plain insn) s retried = absurd retried
check_retried h (units.Load kind rd rs1 imm) s retried = absurd retried
check_retried h (units.Store kind rs1 rs2 imm) s retried = absurd retried
check_retried h (units.Branch c rs1 rs2 off) s retried = absurd retried
check_retried h (units.Jump link off) s retried = absurd retried
check_retried h units.Service s retried = absurd retried

-- ---- steps

module _ (h : History) (code : List ℕ) (known : IsHistory h code) (retries : ℕ) (s : State) (r : Raw)
    (ready : IsReady h s) (picked : pick_entries s.log ≡ 0 → retries ≡ 0)
    (single : h.count + h.ahead ≡ 1 → retries ≡ 0) where
  -- the steps of a guest that shows the state, as they are told with a stop
  pub record HasShown (stop : Option Stop) : Type 0 where
    pub repeats : ℕ
    pub begun : ℕ
    pub sum : r.base.steps ≡ s.steps + RETRY_STEPS * repeats + begun
    pub begins : HasBegun code stop s begun
    pub unpicked : pick_entries s.log ≡ 0 → ¬ MeetsCheck code s → repeats ≡ 0
    pub single_only : h.count + h.ahead ≡ 1 → repeats ≡ 0

  -- no unit was begun
  idle_begins : (stop : Option Stop) → (stop ≡ None → s.stop ≡ None) → (stop ≡ Some stops.Fuel → s.stop ≡ None)
      → HasBegun code stop s 0
  idle_begins (Some (stops.Exit number)) going spent = refl
  idle_begins (Some (stops.Halt address)) going spent = refl
  idle_begins (Some (stops.Align address)) going spent = refl
  idle_begins (Some stops.Fuel) going spent =
      let from = started h code s.pc known (ready.start (spent refl)) in
      record { unit = from.unit; stands = from.stands; few = omega arith }
  idle_begins None going spent =
      let from = started h code s.pc known (ready.start (going refl)) in
      record { unit = from.unit; stands = from.stands; few = omega arith }

  between_steps : (stop : Option Stop) → (stop ≡ None → s.stop ≡ None) → (stop ≡ Some stops.Fuel → s.stop ≡ None)
      → IsBetween retries s r → HasShown stop
  between_steps stop going spent between = record {
    repeats = retries;
    begun = 0;
    sum = ap (λ (b : State). b.steps) between.base ∙ omega arith;
    begins = idle_begins stop going spent;
    unpicked = λ none meets. picked none;
    single_only = single;
  }

  -- a unit was, and is not ended
  module _ (inside : IsInside h code retries s r) where
    none_more : inside.more ≢ 0 → is_check inside.unit ≡ true
    none_more some = check_retried h inside.unit s (inside.retried some)

    inside_steps : (stop : Option Stop) → HasBegun code stop s inside.few → HasShown stop
    inside_steps stop begins = record {
      repeats = retries + inside.more;
      begun = inside.few;
      sum = ap (λ (b : State). b.steps) inside.base ∙ omega arith;
      begins = begins;
      unpicked = λ none meets. elim (cases_eq inside.more 0) [
        | inl zero_more ↦ omega (arith, picked none, zero_more)
        | inr some ↦
            absurd (meets (record {
              going = inside.going;
              unit = inside.unit;
              stands = inside.stands;
              check = none_more some;
            }))
      ];
      single_only = λ one. elim (cases_eq inside.more 0) [
        | inl zero_more ↦ omega (arith, single one, zero_more)
        | inr some ↦ absurd (never_retried h code known inside.unit s one (inside.retried some))
      ];
    }

    going_begins : HasBegun code None s inside.few
    going_begins = record {
      unit = inside.unit;
      stands = inside.stands;
      few = few_by inside.unit r.waits inside.at inside.few inside.place;
    }

    spent_begins : r.waits ≡ None → HasBegun code (Some stops.Fuel) s inside.few
    spent_begins idle = record {
      unit = inside.unit;
      stands = inside.stands;
      few = few_idle inside.unit inside.at inside.few
          (subst (λ (w : Option Wait). IsPlaceIn inside.unit w inside.at inside.few) idle inside.place);
    }

  -- a guest that runs tells its own stop
  pub running_steps : r.base.stop ≢ Some stops.Fuel → Shows h code retries s r → HasShown r.base.stop
  running_steps unspent (inl between) =
      let same = shown_stop h code retries s r (inl between) in
      between_steps r.base.stop (λ none. sym same ∙ none) (λ some. absurd (unspent some)) between
  running_steps unspent (inr inside) =
      let none : r.base.stop ≡ None = shown_stop h code retries s r (inr inside) ∙ inside.going in
      subst HasShown (sym none) (inside_steps inside None (going_begins inside))

  -- one that the fuel stopped afterwards tells that
  pub spent_steps : r.base.stop ≡ None → r.waits ≡ None → Shows h code retries s r → HasShown (Some stops.Fuel)
  spent_steps going idle (inl between) =
      let same = shown_stop h code retries s r (inl between) in
      between_steps (Some stops.Fuel) (λ none. absurd (cc)) (λ some. sym same ∙ going) between
  spent_steps going idle (inr inside) = inside_steps inside (Some stops.Fuel) (spent_begins inside idle)
