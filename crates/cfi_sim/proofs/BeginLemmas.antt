-- Updates that begin, as a simulation under way makes them.
use Rattle.std.proofs.Common.{◌≡◌, ◌≤◌, Bool, true, false, None, sym, ap, subst, arith}
use Rattle.cfi_plan.specs.declared.journal.JournalLine.TheVariants.{RefreshEpochs}
use Rattle.cfi_sim.specs.declared.aim.Aim.TheVariants.{Refreshing}
use Rattle.cfi_sim.specs.declared.limits.TheConstants.{MAX_UPDATES}
use Rattle.cfi_sim.specs.Events.{IsRefreshEvent}
use Rattle.cfi_sim.specs.Reach.{Happening, OfRefresh, Happens}
use Rattle.cfi_sim.specs.Stage.{Stage}
use Rattle.cfi_sim.specs.inner.Making.{MakesBy, BeginsBy}
use Rattle.cfi_sim.specs.inner.Standing.{Whole, HasDone, IsUnderWay}
use Rattle.cfi_sim.proofs.GoLemmas.{all_sound}
use Rattle.cfi_sim.proofs.journal.HappensLemmas.{HasRoomFor, holds_after}

-- ---- what goes on

-- after an event the simulation is under way still
pub under_after : (x : Whole) → IsUnderWay x → (happening : Happening) (new : Stage)
    → Happens x.plan x.modules x.stage new happening → HasRoomFor happening new
    → IsUnderWay (record x { stage = new })
under_after x under happening new event room = record {
  plan = under.plan;
  taken = under.taken;
  named = under.named;
  going = record {
    opening = under.going.opening;
    opens = under.going.opens;
    holds = holds_after x.plan x.modules (all_sound x.modules under.taken) under.going.opening x.stage
        under.going.holds happening new event room;
  };
}

-- no more updates have begun than there is room for
pub updates_few : (x : Whole) → IsUnderWay x → x.stage.world.updates ≤ MAX_UPDATES
updates_few x under =
    let agrees = under.going.holds.agrees in
    omega (arith, agrees.world.room, agrees.guests.room)

-- what has happened to the stage alone
pub done_so : (P : (old new : Stage) → Type 0) (x y : Whole) → y ≡ record x { stage = y.stage } → P x.stage y.stage
    → IsUnderWay (record x { stage = y.stage }) → HasDone P x y
done_so P x y is event under = record {
  event = event;
  plan = ap (λ (w : Whole). w.plan) is;
  modules = ap (λ (w : Whole). w.modules) is;
  under_way = subst IsUnderWay (sym is) under;
}

-- ---- a refresh

pub refresh_by : (x y : Whole) → IsUnderWay x → (happened : Bool)
    → BeginsBy Refreshing RefreshEpochs None x y happened → MakesBy IsRefreshEvent x y happened
refresh_by x y under true has = record {
  done = done_so IsRefreshEvent x y has.is has.begins
      (under_after x under OfRefresh y.stage has.begins has.within.updates);
  within = has.within;
}
refresh_by x y under false none = none None
