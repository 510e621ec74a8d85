-- Units of a replay, one after the other.
use Rattle.std.proofs.Common.{◌≡◌, ℕ, zero, suc, ◌+◌, ◌<◌, ◌≤◌, List, sym, subst, ⊎_elim, add-one, arith}
use Rattle.std.proofs.lemmas.Bool.{cases_lt}
use Rattle.cfi_model.specs.State.{State}
use Rattle.cfi_unit.specs.declared.log.Log.{Log}
use Rattle.cfi_valid.specs.Loaded.{Members, Filled}
use Rattle.cfi_valid.specs.Replay.{IsReplayed, Replays}
use Rattle.cfi_valid.proofs.ReplayLemmas.{replay_once}

module _ (code : List ℕ) (members : Members) (log : List Log) where
  -- a unit more
  pub replay_more : (count : ℕ) (start old new : State) → Replays Filled code members log count start old
      → IsReplayed Filled code members log old new → Replays Filled code members log (count + 1) start new
  replay_more count start old new before unit =
      let all : Replays Filled code members log (suc count) start new = (old, before, unit) in
      subst (λ (n : ℕ). Replays Filled code members log n start new) (sym (add-one count)) all

  -- where a unit is not replayed, no replay goes on
  pub stuck_for_good : (less count : ℕ) (start mid last : State) → Replays Filled code members log less start mid
      → ((new : State) → ¬ IsReplayed Filled code members log mid new) → less < count
      → Replays Filled code members log count start last → ⊥
  stuck_for_good less zero start mid last before none fewer all = absurd (omega (arith, fewer))
  stuck_for_good less (suc count) start mid last before none fewer all = ⊎_elim
      (λ (earlier : less < count). stuck_for_good less count start mid all.0 before none earlier all.1)
      (λ (later : count ≤ less).
      let here : less ≡ count = omega (arith, fewer, later) in
      let same : mid ≡ all.0 =
      replay_once Filled code members log count start mid all.0
      (subst (λ (n : ℕ). Replays Filled code members log n start mid) here before) all.1 in
      none last (subst (λ (s : State). IsReplayed Filled code members log s last) (sym same) all.2))
      (cases_lt less count)
