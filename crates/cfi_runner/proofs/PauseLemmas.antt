-- A guest that pauses.
use Rattle.std.proofs.Common.{◌≡◌, ◌≤◌, ◌<◌, ℕ, ◌==◌, ◌&&◌, is_none, true, cond, Some, refl, sym, ap, subst, ◌∙◌, rules, arith}
use Rattle.cfi_unit.specs.declared.log.Stop.TheVariants as stops
use Rattle.cfi_model.specs.declared.act.Act.TheVariants as acts
use Rattle.cfi_model.specs.Begin.{begin_of, act_of}
use Rattle.cfi_model.specs.Log.{last_policy}
use Rattle.cfi_model.specs.Raw.{Raw}
use Rattle.cfi_tables.specs.Key.{Key}
use Rattle.cfi_tables.specs.declared.view.PassView.{PassView}
use Rattle.rv_guest.specs.Guest.{spent, is_spent}
use Rattle.cfi_runner.specs.Picks.{HasPicked}
use Rattle.cfi_runner.specs.Seen.{policy_seen}
use Rattle.cfi_runner.specs.Run.{CanRunOn, HasRunOn, PausesAt}
use Rattle.cfi_runner.specs.declared.pause.Pause.{Pause}
use Rattle.cfi_runner.specs.declared.pause.Pause.TheVariants as pauses
use Rattle.cfi_runner.proofs.ActLemmas.{Tells}
use Rattle.cfi_runner.proofs.PickedLemmas.{picks_within}
use Rattle.cfi_runner.proofs.SeenLemmas.{policy_later}
use Rattle.cfi_runner.proofs.WayLemmas.{IsOnWay, IsUnderWay, HasBegun, low}

module _ (k : Key) (fuel : ℕ) (p : PassView) (old : Raw) (can : CanRunOn k fuel p old) where
  has_run : (q : PassView) (last : Raw) → IsOnWay k p old q last → (pause : Pause) (new : Raw)
      → PausesAt pause fuel last new → new.base.steps ≤ fuel → new.base.log ≡ last.base.log
      → HasRunOn k fuel p q old new pause
  has_run q last way pause new pauses within log = record {
    last = last;
    taken = way.taken;
    pauses = pauses;
    within = within;
    keeps = way.keeps;
    logged = subst (λ l. last_policy l ≤ policy_seen k q.sight) (sym log) (low k fuel p old can q last way);
    picked = subst (HasPicked (policy_seen k p.sight) (policy_seen k q.sight) old.base.log) (sym log)
        (picks_within (policy_seen k p.sight) (policy_seen k q.sight) old.base.log last.base.log way.logs.to
        (policy_later k p.sight q.sight can.sight way.keeps.sees) (low k fuel p old can q last way));
  }

  module _ (q : PassView) (now : Raw) (u : IsUnderWay k p old q now) (new : PassView) (word : ℕ)
      (begun : HasBegun k fuel p old can q now u new word) (below : now.base.steps < fuel) where
    within : (begin_of now word).base.steps ≤ fuel
    within = omega (arith, begun.steps, below)

    pub asks : (number : ℕ) → act_of now word ≡ acts.Service number
        → HasRunOn k fuel p new old (begin_of now word) (pauses.Service number)
    asks number is =
        let tells : Tells (acts.Service number) (begin_of now word) =
        subst (λ a. Tells a (begin_of now word)) is begun.tells in
        has_run new (begin_of now word) begun.way (pauses.Service number) (begin_of now word)
        (refl, tells.0, tells.1) within refl

    pub halts : (target : ℕ) → act_of now word ≡ acts.Halt target
        → HasRunOn k fuel p new old (begin_of now word) (pauses.Halt target)
    halts target is =
        let tells : Tells (acts.Halt target) (begin_of now word) =
        subst (λ a. Tells a (begin_of now word)) is begun.tells in
        has_run new (begin_of now word) begun.way (pauses.Halt target) (begin_of now word)
        (refl, tells.0, tells.1) within refl

    pub aligns : (address : ℕ) → act_of now word ≡ acts.Align address
        → HasRunOn k fuel p new old (begin_of now word) (pauses.Align address)
    aligns address is =
        let tells : Tells (acts.Align address) (begin_of now word) =
        subst (λ a. Tells a (begin_of now word)) is begun.tells in
        has_run new (begin_of now word) begun.way (pauses.Align address) (begin_of now word)
        (refl, tells.0, tells.1) within refl

    -- nothing was asked for
    pub goes_on : act_of now word ≡ acts.Done → IsUnderWay k p old new (begin_of now word)
    goes_on is =
        let tells : Tells acts.Done (begin_of now word) = subst (λ a. Tells a (begin_of now word)) is begun.tells in
        record { way = begun.way; idle = tells.0; going = tells.1 }

  -- the fuel is spent
  pub spends : (q : PassView) (now : Raw) → IsUnderWay k p old q now → now.base.steps ≡ fuel
      → HasRunOn k fuel p q old (spent fuel now) pauses.Fuel
  spends q now u steps =
      let same : (now.base.steps == fuel) ≡ true = search (rules, arith) in
      let is : is_spent fuel now ≡ true = ap (λ o. is_none o && (now.base.steps == fuel)) u.going ∙ same in
      has_run q now u.way pauses.Fuel (spent fuel now) (
        record {
          going = u.going;
          idle = u.idle;
          is = ap (λ b. record now { base = record now.base { stop = cond b (Some stops.Fuel) now.base.stop } }) is;
        },
        steps,
      )
      (omega (arith, steps)) refl
