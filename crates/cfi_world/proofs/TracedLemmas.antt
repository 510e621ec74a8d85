-- What the check of a guest has found at the moments of a run, and that an event which leaves the guest leaves it.
use Rattle.std.proofs.Common.{◌≡◌, ℕ, ℤ, ◌+◌, Bool, List, slice_get, None, refl, sym, ◌∙◌}
use Rattle.cfi_unit.specs.declared.unit.Unit.TheVariants as units
use Rattle.cfi_model.specs.History.{History, IsHistory}
use Rattle.cfi_model.specs.InForce.{history_of, code_in_force}
use Rattle.cfi_model.specs.Raw.{Raw}
use Rattle.cfi_model.specs.Running.{IsGuest}
use Rattle.cfi_model.specs.Shows.{IsReady, Stands}
use Rattle.cfi_model.specs.State.{State, register, displaced}
use Rattle.cfi_model.specs.Words.{Tables}
use Rattle.cfi_model.specs.World.{World}
use Rattle.cfi_model.proofs.InForceLemmas.{history_is}
use Rattle.cfi_model.proofs.RunningLemmas.{running_shows}
use Rattle.cfi_model.proofs.ShownLemmas.{shown_stop}
use Rattle.cfi_world.specs.Laws.{MayTurns}
use Rattle.cfi_world.specs.Moments.{LeavesTry, world_at}
use Rattle.cfi_world.specs.Worlds.{IsWorld}
use Rattle.cfi_world.specs.declared.event.Event.{Event}
use Rattle.cfi_world.proofs.MomentLemmas.{next_on, world_is}
use Rattle.cfi_world.proofs.RestLemmas.{going_runs}
use Rattle.cfi_world.proofs.TraceLemmas.{HoldsTry, found_in, holds_later}
use Rattle.cfi_world.proofs.GuestLemmas.{stands_before}

-- a run of events, and a guest
pub record Over : Type 0 where
  pub w : World
  pub is : IsWorld w
  pub run : List Event
  pub may : MayTurns w run
  pub guest : ℕ

module _ (o : Over) where
  abbrev guest : ℕ
  guest = o.guest

  abbrev pub at : (moment : ℕ) → World
  at moment = world_at o.w o.run moment

  pub at_is : (moment : ℕ) → IsWorld (at moment)
  at_is moment = world_is o.w o.is o.run o.may moment

  abbrev pub tables : (moment : ℕ) → Tables
  tables moment = (at moment).tables

  abbrev pub h : (moment : ℕ) → History
  h moment = history_of (tables moment)

  abbrev pub code : (moment : ℕ) → List ℕ
  code moment = code_in_force (tables moment)

  pub known : (moment : ℕ) → IsHistory (h moment) (code moment)
  known moment = history_is (tables moment) (at_is moment).tables

  -- what holds of the words that the guest's check has found, if it is in one
  abbrev pub Traced : (now : ℕ) → State → Raw → Type 0
  Traced now s r =
      r.base.stop ≡ None → (link : Bool) (rs1 : ℕ) (imm : ℤ) (slot : ℕ)
      → Stands (code now) s.pc (units.Check link rs1 imm slot)
      → HoldsTry o.w o.run guest (found_in s r) now slot (displaced (register s rs1) imm) r.bary r.tary

  -- a guest that has not stopped shows a state that has not
  pub shown_going : (m k : ℕ) (p : State) (x : Raw) → IsGuest (h m) (code m) k p x → x.base.stop ≡ None → p.stop ≡ None
  shown_going m k p x guest_is goes =
      let runs = going_runs (h m) (code m) k p x guest_is goes in
      sym (shown_stop (h m) (code m) k p x (running_shows (h m) (code m) (known m) k p x runs)) ∙ goes

  -- an event that leaves the guest
  pub traced_later : (n : ℕ) (r : Raw) (s : State) → IsReady (h n) s → (r.base.stop ≡ None → s.stop ≡ None)
      → LeavesTry o.w o.run guest n → Traced n s r → Traced (n + 1) s r
  traced_later n r s ready going leaves traced goes link rs1 imm slot stands =
      let on = next_on o.w o.is o.run o.may n (slice_get o.run n) refl in
      let before = stands_before (tables n) (tables (n + 1)) (at_is n).tables (at_is (n + 1)).tables on s ready
      (going goes) (units.Check link rs1 imm slot) stands in
      holds_later o.w o.run guest (found_in s r) n slot (displaced (register s rs1) imm) r.bary r.tary leaves
      (traced goes link rs1 imm slot before)
