-- Moments of a run of events.
use Rattle.std.proofs.Common.{◌≡◌, ℕ, zero, suc, ◌+◌, ◌-◌, ◌≤◌, List, [], ◌∷◌, slice_get, take, add-one, Option, Some, None, refl, sym, ap, ◌∙◌, subst, arith}
use Rattle.cfi_model.specs.InForce.{GoesOn}
use Rattle.cfi_model.specs.Words.{Tables}
use Rattle.cfi_model.specs.World.{World}
use Rattle.cfi_world.specs.Laws.{MayTurns, world_after}
use Rattle.cfi_world.specs.Moments.{world_at}
use Rattle.cfi_world.specs.Premises.{MayTurn}
use Rattle.cfi_world.specs.Turns.{turn_of}
use Rattle.cfi_world.specs.Worlds.{IsWorld}
use Rattle.cfi_world.specs.declared.event.Event.{Event}
use Rattle.cfi_world.proofs.ForceLemmas.{self, turn_on}
use Rattle.cfi_world.proofs.WorldLemmas.{stays_a_world}

pub on_then : (t u v : Tables) → GoesOn t u → GoesOn u v → GoesOn t v
on_then t u v one other = record {
  code_words = other.code_words ∙ one.code_words;
  versions = other.versions ∙ one.versions;
  first = other.first ∙ one.first;
  longer = omega (arith, one.longer, other.longer);
  entries = λ number within. other.entries number (omega (arith, within, one.longer)) ∙ one.entries number within;
  force = omega (arith, one.force, other.force);
}

-- one event more
next_by : (run : List Event) (w : World) (n : ℕ) (event : Event) → slice_get run n ≡ Some event
    → world_after w (take (suc n) run) ≡ (turn_of (world_after w (take n run)) event).world
next_by [] w n event is = absurd (cc)
next_by (x ∷ run) w zero event is =
    let same : x ≡ event = cc in ap (λ y. (turn_of w y).world) same
next_by (x ∷ run) w (suc n) event is = next_by run (turn_of w x).world n event is

past_by : (run : List Event) (w : World) (n : ℕ) → slice_get run n ≡ None
    → world_after w (take (suc n) run) ≡ world_after w (take n run)
past_by [] w zero none = refl
past_by [] w (suc n) none = refl
past_by (x ∷ run) w zero none = absurd (cc)
past_by (x ∷ run) w (suc n) none = past_by run (turn_of w x).world n none

may_take : (run : List Event) (w : World) (n : ℕ) → MayTurns w run → MayTurns w (take n run)
may_take [] w zero may = tt
may_take [] w (suc n) may = tt
may_take (x ∷ run) w zero may = tt
may_take (x ∷ run) w (suc n) may = (may.0, may_take run (turn_of w x).world n may.1)

may_event : (run : List Event) (w : World) (n : ℕ) (event : Event) → MayTurns w run → slice_get run n ≡ Some event
    → MayTurn (world_after w (take n run)) event
may_event [] w n event may is = absurd (cc)
may_event (x ∷ run) w zero event may is =
    let same : x ≡ event = cc in subst (MayTurn w) same may.0
may_event (x ∷ run) w (suc n) event may is = may_event run (turn_of w x).world n event may.1 is

module _ (w : World) (run : List Event) where
  pub next_world : (n : ℕ) (event : Event) → slice_get run n ≡ Some event
      → world_at w run (n + 1) ≡ (turn_of (world_at w run n) event).world
  next_world n event is = ap (λ k. world_at w run k) (add-one n) ∙ next_by run w n event is

  pub past_world : (n : ℕ) → slice_get run n ≡ None → world_at w run (n + 1) ≡ world_at w run n
  past_world n none = ap (λ k. world_at w run k) (add-one n) ∙ past_by run w n none

module _ (w : World) (is : IsWorld w) (run : List Event) (may : MayTurns w run) where
  pub world_is : (n : ℕ) → IsWorld (world_at w run n)
  world_is n = stays_a_world w is (take n run) (may_take run w n may)

  pub may_here : (n : ℕ) (event : Event) → slice_get run n ≡ Some event → MayTurn (world_at w run n) event
  may_here n event is_event = may_event run w n event may is_event

  -- the tables go on
  pub next_on : (n : ℕ) (o : Option Event) → slice_get run n ≡ o
      → GoesOn (world_at w run n).tables (world_at w run (n + 1)).tables
  next_on n None none =
      subst (λ (v : World). GoesOn (world_at w run n).tables v.tables) (sym (past_world w run n none))
      (self (world_at w run n).tables)
  next_on n (Some event) is_event =
      subst (λ (v : World). GoesOn (world_at w run n).tables v.tables) (sym (next_world w run n event is_event))
      (turn_on (world_at w run n) (world_is n) event)

  on_from : (n k : ℕ) → GoesOn (world_at w run n).tables (world_at w run (n + k)).tables
  on_from n zero =
      let none : n ≡ n + 0 = omega arith in
      subst (λ m. GoesOn (world_at w run n).tables (world_at w run m).tables) none (self (world_at w run n).tables)
  on_from n (suc k) =
      let more : n + k + 1 ≡ n + suc k = omega arith in
      subst (λ m. GoesOn (world_at w run n).tables (world_at w run m).tables) more
      (on_then (world_at w run n).tables (world_at w run (n + k)).tables (world_at w run (n + k + 1)).tables
      (on_from n k) (next_on (n + k) (slice_get run (n + k)) refl))

  pub on_between : (n m : ℕ) → n ≤ m → GoesOn (world_at w run n).tables (world_at w run m).tables
  on_between n m before =
      let same : n + (m - n) ≡ m = omega (arith, before) in
      subst (λ k. GoesOn (world_at w run n).tables (world_at w run k).tables) same (on_from n (m - n))
