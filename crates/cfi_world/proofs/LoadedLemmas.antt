-- How early the Bary words are that a guest loads in a run: the settled epoch never falls.
use Rattle.std.proofs.Common.{◌≡◌, ℕ, zero, suc, ◌+◌, ◌-◌, ◌≤◌, List, slice_get, Option, Some, None, refl, sym, subst, arith}
use Rattle.cfi_word.specs.Word.{epoch_in}
use Rattle.cfi_model.specs.InForce.{code_in_force, history_of}
use Rattle.cfi_model.specs.Words.{Tables}
use Rattle.cfi_model.specs.World.{World}
use Rattle.cfi_world.specs.Bounds.{HasLoadedFrom}
use Rattle.cfi_world.specs.Checks.{bary_in}
use Rattle.cfi_world.specs.Laws.{MayTurns}
use Rattle.cfi_world.specs.Moments.{LoadsBary, world_at}
use Rattle.cfi_world.specs.Worlds.{IsWorld, settled_epoch}
use Rattle.cfi_world.specs.declared.event.Event.{Event}
use Rattle.cfi_world.proofs.FitLemmas.{slot_inside}
use Rattle.cfi_world.proofs.MomentLemmas.{next_world, past_world, world_is}
use Rattle.cfi_world.proofs.PassLemmas.{turn_settles}
use Rattle.cfi_world.proofs.RestLemmas.{going_runs}
use Rattle.cfi_world.proofs.SettledLemmas.{settled_low}

module _ (w : World) (is : IsWorld w) (run : List Event) (may : MayTurns w run) (guest : ℕ) where
  abbrev at : (moment : ℕ) → World
  at moment = world_at w run moment

  at_is : (moment : ℕ) → IsWorld (at moment)
  at_is moment = world_is w is run may moment

  abbrev settled : (moment : ℕ) → ℕ
  settled moment = settled_epoch (at moment).tables

  settles_by : (n : ℕ) (o : Option Event) → slice_get run n ≡ o → settled n ≤ settled (n + 1)
  settles_by n None none =
      subst (λ (v : World). settled n ≤ settled_epoch v.tables) (sym (past_world w run n none)) (omega arith)
  settles_by n (Some event) here =
      subst (λ (v : World). settled n ≤ settled_epoch v.tables) (sym (next_world w run n event here))
      (turn_settles (at n) (at_is n) event)

  settles_from : (n k : ℕ) → settled n ≤ settled (n + k)
  settles_from n zero = (let same : n ≡ n + 0 = omega arith in subst (λ m. settled n ≤ settled m) same (omega arith))
  settles_from n (suc k) =
      let same : n + k + 1 ≡ n + suc k = omega arith in
      let before = settles_from n k in
      let one = settles_by (n + k) (slice_get run (n + k)) refl in
      subst (λ m. settled n ≤ settled m) same (omega (arith, before, one))

  pub settles : (n m : ℕ) → n ≤ m → settled n ≤ settled m
  settles n m before =
      let same : n + (m - n) ≡ m = omega (arith, before) in
      subst (λ k. settled n ≤ settled k) same (settles_from n (m - n))

  -- a Bary word that the guest loads
  loads_low : (slot load : ℕ) → LoadsBary w run guest slot load → settled load ≤ epoch_in (bary_in (at load) slot)
  loads_low slot load loads =
      let comes = loads.1 in
      let seat = (at_is load).running guest comes.r comes.there in
      let t : Tables = (at load).tables in
      let runs = going_runs (history_of t) (code_in_force t) seat.retries seat.shown comes.r seat.runs comes.going in
      settled_low t (at_is load).tables slot
      (slot_inside t (at_is load).tables seat.retries seat.shown comes.r slot loads.0 runs comes.waits)

  pub loaded_from : (from now epoch : ℕ) → epoch ≤ settled from + 1 → HasLoadedFrom w run guest from now epoch
  loaded_from from now epoch low = λ slot load after before loads.
      let up = settles from load after in
      let least = loads_low slot load loads in
      omega (arith, low, up, least)
