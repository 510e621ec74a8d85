-- A guest that would fetch next goes on, or the fuel stops it.
use Rattle.std.proofs.Common.{◌≡◌, ◌≢◌, ℕ, ◌<◌, ◌≤◌, ◌==◌, ◌&&◌, Bool, true, false, cond, is_none, List, Option, Some, None, refl, sym, ◌∙◌, ap, subst, arith, rules, inl, inr}
use Rattle.cfi_unit.specs.declared.log.Stop.TheVariants.{Fuel}
use Rattle.cfi_unit.specs.declared.unit.Unit.{Unit as CodeUnit}
use Rattle.cfi_unit.specs.declared.unit.Unit.TheVariants as units
use Rattle.cfi_model.specs.History.{History}
use Rattle.cfi_model.specs.Raw.{Raw}
use Rattle.cfi_model.specs.Running.{IsRunning, IsSpent, IsGuest}
use Rattle.cfi_model.specs.Service.{Reply}
use Rattle.cfi_model.specs.Shows.{End, IsAnswered}
use Rattle.cfi_model.specs.State.{State}
use Rattle.cfi_world.specs.Seats.{rested}
use Rattle.rv_guest.specs.Guest.{spent, is_spent}

is_nothing : {X : Type 0} (o : Option X) → is_none o ≡ true → o ≡ None
is_nothing None is = refl
is_nothing (Some x) is = absurd (cc)

both_true : (a b : Bool) → a && b ≡ true → (a ≡ true) × (b ≡ true)
both_true true true is = (refl, refl)
both_true true false is = absurd (cc)
both_true false b is = absurd (cc)

module _ (fuel : ℕ) (r : Raw) where
  -- it goes on as it is, or the fuel stops it
  pub data Rest : Type 0 where
    Goes : rested fuel r ≡ r → (r.base.stop ≡ None → r.waits ≡ None → r.base.steps ≢ fuel) → Rest
    Stops : IsSpent r (rested fuel r) → r.base.steps ≡ fuel → Rest

  abbrev with_stop : Bool → Raw
  with_stop done = record r { base = record r.base { stop = cond done (Some Fuel) r.base.stop } }

  spent_not : r.base.stop ≡ None → r.base.steps ≡ fuel → is_spent fuel r ≡ false → ⊥
  spent_not going steps on =
      let same : (r.base.steps == fuel) ≡ true = search (rules, arith) in
      let over : is_spent fuel r ≡ true = ap (λ o. is_none o && (r.base.steps == fuel)) going ∙ same in
      absurd (cc)

  busy : is_none r.waits ≡ false → r.waits ≡ None → ⊥
  busy is idle =
      let none : is_none r.waits ≡ true = ap (λ o. is_none o) idle in
      absurd (cc)

  rest_by : (idle done : Bool) → is_none r.waits ≡ idle → is_spent fuel r ≡ done → Rest
  rest_by true true is over =
      let parts = both_true (is_none r.base.stop) (r.base.steps == fuel) over in
      let steps : r.base.steps ≡ fuel = (let test : (r.base.steps == fuel) ≡ true = parts.1 in search (rules, arith)) in
      Stops (record {
        going = is_nothing r.base.stop parts.0;
        idle = is_nothing r.waits is;
        is = ap (λ b. cond b (spent fuel r) r) is ∙ ap with_stop over;
      }) steps
  rest_by true false is on =
      Goes (ap (λ b. cond b (spent fuel r) r) is ∙ ap with_stop on)
      (λ going idle steps. spent_not going steps on)
  rest_by false done is on =
      Goes (ap (λ b. cond b (spent fuel r) r) is) (λ going idle steps. busy is idle)

  pub rest_of : Rest
  rest_of = rest_by (is_none r.waits) (is_spent fuel r) refl refl

-- the fuel that is left
pub record HasFuel (fuel : ℕ) (r : Raw) : Type 0 where
  pub most : r.base.steps ≤ fuel
  pub left : r.base.stop ≡ None → r.waits ≡ None → r.base.steps < fuel
  pub stopped : r.base.stop ≢ None → r.waits ≡ None
  pub spent : r.base.stop ≡ Some Fuel → r.base.steps ≡ fuel

pub fuel_rests : (fuel : ℕ) (r : Raw) → r.base.steps ≤ fuel → r.base.stop ≢ Some Fuel
    → (r.base.stop ≢ None → r.waits ≡ None) → HasFuel fuel (rested fuel r)
fuel_rests fuel r most unspent idle = elim (rest_of fuel r) [
  | Goes same left ↦ subst (HasFuel fuel) (sym same) (record {
    most = most;
    left = λ going quiet.
        let other = left going quiet in
        omega (arith, most, other);
    stopped = idle;
    spent = λ stop. absurd (unspent stop);
  })
  | Stops ends steps ↦ subst (HasFuel fuel) (sym ends.is) (record {
    most = most;
    left = λ going quiet. absurd (cc);
    stopped = λ stops. ends.idle;
    spent = λ stop. steps;
  })
]

-- and that it runs, or was stopped
pub guest_rests : (h : History) (code : List ℕ) (retries : ℕ) (s : State) (fuel : ℕ) (r : Raw)
    → IsRunning h code retries s r → IsGuest h code retries s (rested fuel r)
guest_rests h code retries s fuel r runs = elim (rest_of fuel r) [
  | Goes same left ↦ inl (subst (IsRunning h code retries s) (sym same) runs)
  | Stops ends steps ↦ inr (r, runs, ends)
]

-- of its parts it leaves the log, the address, the kept words, the wait and the count of units as they are
pub same_log : (fuel : ℕ) (r : Raw) → (rested fuel r).base.log ≡ r.base.log
same_log fuel r = elim (rest_of fuel r) [
  | Goes same left ↦ ap (λ x. x.base.log) same
  | Stops ends steps ↦ ap (λ x. x.base.log) ends.is
]

pub same_bary : (fuel : ℕ) (r : Raw) → (rested fuel r).bary ≡ r.bary
same_bary fuel r = elim (rest_of fuel r) [
  | Goes same left ↦ ap (λ x. x.bary) same
  | Stops ends steps ↦ ap (λ x. x.bary) ends.is
]

pub same_pc : (fuel : ℕ) (r : Raw) → (rested fuel r).base.pc ≡ r.base.pc
same_pc fuel r = elim (rest_of fuel r) [
  | Goes same left ↦ ap (λ x. x.base.pc) same
  | Stops ends steps ↦ ap (λ x. x.base.pc) ends.is
]

pub same_waits : (fuel : ℕ) (r : Raw) → (rested fuel r).waits ≡ r.waits
same_waits fuel r = elim (rest_of fuel r) [
  | Goes same left ↦ ap (λ x. x.waits) same
  | Stops ends steps ↦ ap (λ x. x.waits) ends.is
]

pub same_units : (fuel : ℕ) (r : Raw) → (rested fuel r).base.units ≡ r.base.units
same_units fuel r = elim (rest_of fuel r) [
  | Goes same left ↦ ap (λ x. x.base.units) same
  | Stops ends steps ↦ ap (λ x. x.base.units) ends.is
]

pub same_tary : (fuel : ℕ) (r : Raw) → (rested fuel r).tary ≡ r.tary
same_tary fuel r = elim (rest_of fuel r) [
  | Goes same left ↦ ap (λ x. x.tary) same
  | Stops ends steps ↦ ap (λ x. x.tary) ends.is
]

-- a guest that has not stopped runs
pub going_runs : (h : History) (code : List ℕ) (retries : ℕ) (s : State) (r : Raw) → IsGuest h code retries s r
    → r.base.stop ≡ None → IsRunning h code retries s r
going_runs h code retries s r (inl runs) going = runs
going_runs h code retries s r (inr over) going =
    let stop : r.base.stop ≡ Some Fuel = ap (λ x. x.base.stop) over.2.is in
    absurd (cc)

-- it has stopped for one reason, or none
pub fuel_not : (s : State) → s.stop ≡ Some Fuel → s.stop ≡ None → ⊥
fuel_not s some none = absurd (cc)

-- the answer with which a service has ended
pub came : (end : End) (reply : Reply) (s : State) (unit : CodeUnit) → unit ≡ units.Service
    → IsAnswered unit end reply s
    → end.reply ≡ Some reply
came end reply s unit same answered = (subst (λ u. IsAnswered u end reply s) same answered).came
