-- Events again and again, as a simulation under way makes them.
use Rattle.std.proofs.Common.{◌≡◌, ℕ, zero, suc, ◌+◌, ◌-◌, ◌<◌, ◌≤◌, ◌⊎◌, Bool, true, false, List, add-one, refl, sym, ◌∙◌, ap, subst, arith, inl, inr}
use Rattle.std.proofs.lemmas.Bool.{cases_lt}
use Rattle.cfi_aux.specs.declared.modules.Module.{Module}
use Rattle.cfi_model.specs.Phases.{phase_of}
use Rattle.cfi_model.specs.World.{World}
use Rattle.cfi_plan.specs.declared.plan.Plan.{Plan}
use Rattle.cfi_sim.specs.declared.limits.TheConstants.{MAX_EVENTS}
use Rattle.cfi_sim.specs.Events.{IsIdle, GuestTurns, IsGuestEvent, IsUpdateEvent}
use Rattle.cfi_sim.specs.Schedule.{Repeats, IsWholeUpdate, PassesNoLimit}
use Rattle.cfi_sim.specs.Stage.{Stage}
use Rattle.cfi_sim.specs.inner.Making.{AdvancesBy, Cannot, HasAdvanced, HasMadeWithin, IsAtRest}
use Rattle.cfi_sim.specs.inner.Standing.{Whole, GoesBy, IsUnderWay}
use Rattle.cfi_sim.proofs.BeginLemmas.{updates_few}
use Rattle.cfi_sim.proofs.OnceLemmas.{guests_once, updates_once}
use Rattle.cfi_sim.proofs.journal.NotedLemmas.{busy, update_counts}
use Rattle.cfi_world.specs.Turns.{turn_of}
use Rattle.cfi_world.specs.Updates.{is_idle}
use Rattle.cfi_world.specs.declared.event.Event.TheVariants as events
use Rattle.cfi_world.specs.declared.event.Turned.{Turned}
use Rattle.cfi_world.specs.declared.event.Turned.TheVariants.{Nothing}
use Rattle.cfi_world.proofs.AskLemmas.{idle_phase}

-- an earlier event of some
pub record IsEarlier (P : (old new : Stage) → Type 0) (k : ℕ) (old new : Stage) : Type 0 where
  pub mid : Stage
  pub next : Stage
  pub before : Repeats P k old mid
  pub event : P mid next
  pub most : next.events ≤ new.events

module _ (P : (old new : Stage) → Type 0) (counts : (a b : Stage) → P a b → b.events ≡ a.events + 1) where
  pub earlier : (n k : ℕ) (old new : Stage) → k < n → Repeats P n old new → IsEarlier P k old new
  earlier zero k old new less more = absurd (omega (arith, less))
  earlier (suc n) k old new less more = elim (cases_lt k n) [
    | inl before ↦
        let of = earlier n k old more.0 before more.1 in
        let one = counts more.0 new more.2 in
        let most = of.most in
        record { mid = of.mid; next = of.next; before = of.before; event = of.event; most = omega (arith, most, one) }
    | inr last ↦
        let same : n ≡ k = omega (arith, less, last) in
        record {
          mid = more.0;
          next = new;
          before = subst (λ (m : ℕ). Repeats P m old more.0) same more.1;
          event = more.2;
          most = omega arith;
        }
  ]

-- ---- one more

-- none yet
pub none_made : (P : (old new : Stage) → Type 0) (x : Whole) → IsUnderWay x → PassesNoLimit x.stage
    → HasMadeWithin (Repeats P 0) x x
none_made P x under within = record {
  done = record { event = refl; plan = refl; modules = refl; under_way = under };
  within = within;
}

pub one_made : (P : Plan → List Module → (old new : Stage) → Type 0) (n : ℕ) (x y z : Whole)
    → HasMadeWithin (Repeats (P x.plan x.modules) n) x y → HasMadeWithin (P y.plan y.modules) y z
    → HasMadeWithin (Repeats (P x.plan x.modules) (n + 1)) x z
one_made P n x y z so_far more =
    let here : P x.plan x.modules y.stage z.stage =
    subst (λ (ms : List Module). P x.plan ms y.stage z.stage) so_far.done.modules
    (subst (λ (p : Plan). P p y.modules y.stage z.stage) so_far.done.plan more.done.event) in
    let all : Repeats (P x.plan x.modules) (suc n) x.stage z.stage = (y.stage, so_far.done.event, here) in
    record {
      done = record {
        event = subst (λ (m : ℕ). Repeats (P x.plan x.modules) m x.stage z.stage) (sym (add-one n)) all;
        plan = more.done.plan ∙ so_far.done.plan;
        modules = more.done.modules ∙ so_far.done.modules;
        under_way = more.done.under_way;
      };
      within = more.within;
    }

-- ---- guests

guest_counts : (plan : Plan) (guest : ℕ) (a b : Stage) → IsGuestEvent plan guest a b → b.events ≡ a.events + 1
guest_counts plan guest a b event = ap (λ (s : Stage). s.events) event.is

pub guests_stuck : (x y : Whole) (guest k count : ℕ) → IsUnderWay x
    → HasMadeWithin (Repeats (IsGuestEvent x.plan guest) k) x y → k < count
    → (turn_of y.stage.world (events.Guest guest)).answer ≡ Nothing ⊎ MAX_EVENTS ≤ y.stage.events
    → Cannot (Repeats (IsGuestEvent x.plan guest) count) x
guests_stuck x y guest k count under made less stuck = λ s more within.
    let of = earlier (IsGuestEvent x.plan guest) (guest_counts x.plan guest) count k x.stage s less more in
    let same : of.mid ≡ y.stage =
    guests_once x.plan guest k x.stage of.mid y.stage under.going.holds.agrees.tables.apart of.before made.done.event in
    by_stuck s within of same stuck
  where
    by_stuck : (s : Stage) → PassesNoLimit s → (of : IsEarlier (IsGuestEvent x.plan guest) k x.stage s)
        → of.mid ≡ y.stage
        → (turn_of y.stage.world (events.Guest guest)).answer ≡ Nothing ⊎ MAX_EVENTS ≤ y.stage.events → ⊥
    by_stuck s within of same (inl nothing) =
        let turn = turn_of of.mid.world (events.Guest guest) in
        let here : turn.answer ≡ Nothing =
        ap (λ (m : Stage). (turn_of m.world (events.Guest guest)).answer) same ∙ nothing in
        subst (λ (t : Turned). GuestTurns x.plan of.mid.state turn.world of.event.world guest t) here of.event.turns
    by_stuck s within of same (inr full) =
        let one = guest_counts x.plan guest of.mid of.next of.event in
        let events_are : of.mid.events ≡ y.stage.events = ap (λ (m : Stage). m.events) same in
        let most = within.events in
        let last = of.most in
        omega (arith, one, events_are, most, last, full)

-- ---- the updater

repeats_count : (plan : Plan) (modules : List Module) (n : ℕ) (old new : Stage)
    → Repeats (IsUpdateEvent plan modules) n old new → new.events ≡ old.events + n
repeats_count plan modules zero old new same = (let e = ap (λ (s : Stage). s.events) same in omega (arith, e))
repeats_count plan modules (suc n) old new more =
    let rest = repeats_count plan modules n old more.0 more.1 in
    let one = update_counts plan modules more.0 new more.2 in
    omega (arith, rest, one)

module _ (x y : Whole) (k : ℕ) (made : HasMadeWithin (Repeats (IsUpdateEvent x.plan x.modules) k) x y) where
  not_next : IsAtRest y.stage → (s : Stage) → PassesNoLimit s
      → IsEarlier (IsUpdateEvent x.plan x.modules) k x.stage s → ⊥
  not_next rest s within of = by_rest rest
    where
      same : of.mid.world ≡ y.stage.world
      same = updates_once x.plan x.modules k x.stage of.mid y.stage of.before made.done.event

      by_rest : IsAtRest y.stage → ⊥
      by_rest (inl idle) = of.event.busy (ap (λ (w : World). phase_of w.tables) same ∙ idle)
      by_rest (inr full) =
          let one = update_counts x.plan x.modules of.mid of.next of.event in
          let here = repeats_count x.plan x.modules k x.stage of.mid of.before in
          let there = repeats_count x.plan x.modules k x.stage y.stage made.done.event in
          let most = within.events in
          let last = of.most in
          omega (arith, one, here, there, most, last, full)

  pub updates_stuck : (count : ℕ) → k < count → IsAtRest y.stage
      → Cannot (Repeats (IsUpdateEvent x.plan x.modules) count) x
  updates_stuck count less rest = λ s more within.
      not_next rest s within
      (earlier (IsUpdateEvent x.plan x.modules) (update_counts x.plan x.modules) count k x.stage s less more)

  -- all that are left of an update
  pub whole_stuck : (IsIdle y.stage.world → ⊥) → IsAtRest y.stage → Cannot (IsWholeUpdate x.plan x.modules) x
  whole_stuck going rest = λ s whole within. by_count s whole within
    where
      at_end : (s : Stage) (whole : IsWholeUpdate x.plan x.modules x.stage s) → whole.count ≡ k → ⊥
      at_end s whole last =
          let more = subst (λ (n : ℕ). Repeats (IsUpdateEvent x.plan x.modules) n x.stage s) last whole.events in
          let same = updates_once x.plan x.modules k x.stage y.stage s made.done.event more in
          going (ap (λ (w : World). phase_of w.tables) same ∙ whole.idle)

      at_mid : (s : Stage) (whole : IsWholeUpdate x.plan x.modules x.stage s) → whole.count < k → ⊥
      at_mid s whole below =
          let of = earlier (IsUpdateEvent x.plan x.modules) (update_counts x.plan x.modules) k whole.count x.stage
          y.stage below made.done.event in
          let same = updates_once x.plan x.modules whole.count x.stage of.mid s of.before whole.events in
          of.event.busy (ap (λ (w : World). phase_of w.tables) same ∙ whole.idle)

      by_count : (s : Stage) → IsWholeUpdate x.plan x.modules x.stage s → PassesNoLimit s → ⊥
      by_count s whole within = elim (cases_lt k whole.count) [
        | inl less ↦
            not_next rest s within
            (earlier (IsUpdateEvent x.plan x.modules) (update_counts x.plan x.modules) whole.count k x.stage s less
            whole.events)
        | inr most ↦ elim (cases_lt whole.count k) [
          | inl below ↦ at_mid s whole below
          | inr least ↦ at_end s whole (omega (arith, most, least))
        ]
      ]

-- ---- what the functions answer

-- an event of a guest passes no limit where one is left
pub goes_made : (y z : Whole) (guest : ℕ) → y.stage.events < MAX_EVENTS → (went : Bool) → went ≡ true
    → GoesBy guest y z went → HasMadeWithin (IsGuestEvent y.plan guest) y z
goes_made y z guest few true is has =
    let one = guest_counts y.plan guest y.stage z.stage has.event in
    record {
      done = has;
      within = record { events = omega (arith, few, one); updates = updates_few z has.under_way };
    }
goes_made y z guest few false is has = absurd (cc)

pub goes_none : (y z : Whole) (guest : ℕ) (went : Bool) → went ≡ false → GoesBy guest y z went
    → (turn_of y.stage.world (events.Guest guest)).answer ≡ Nothing
goes_none y z guest true is has = absurd (cc)
goes_none y z guest false is has = has

pub advance_made : (y z : Whole) (made : Bool) → made ≡ true → AdvancesBy y z made
    → HasMadeWithin (IsUpdateEvent y.plan y.modules) y z
advance_made y z true is has = has
advance_made y z false is has = absurd (cc)

pub advance_none : (y z : Whole) (made : Bool) → made ≡ false → AdvancesBy y z made → IsAtRest y.stage
advance_none y z true is has = absurd (cc)
advance_none y z false is has = has

-- so many were made
pub all_made : (P : (old new : Stage) → Type 0) (x y : Whole) (n count : ℕ) → n ≤ count → count ≤ n
    → HasMadeWithin (Repeats P n) x y → HasMadeWithin (Repeats P count) x y
all_made P x y n count most least made =
    let same : n ≡ count = omega (arith, most, least) in
    subst (λ (m : ℕ). HasMadeWithin (Repeats P m) x y) same made

-- ---- all accesses that are left

-- none yet
pub none_advanced : (x : Whole) → IsUnderWay x → PassesNoLimit x.stage → HasAdvanced x x
none_advanced x under within = record {
  count = 0;
  made = none_made (IsUpdateEvent x.plan x.modules) x under within;
}

-- one more
pub more_advanced : (x y z : Whole) → HasAdvanced x y → (made : Bool) → made ≡ true → AdvancesBy y z made
    → HasAdvanced x z
more_advanced x y z so_far made is has = record {
  count = so_far.count + 1;
  made = one_made (λ plan modules old new. IsUpdateEvent plan modules old new) so_far.count x y z so_far.made
      (advance_made y z made is has);
}

-- there are fewer events left
pub fewer_left : (y z : Whole) (made : Bool) → made ≡ true → AdvancesBy y z made
    → MAX_EVENTS - z.stage.events < MAX_EVENTS - y.stage.events
fewer_left y z made is has =
    let more = advance_made y z made is has in
    let one = update_counts y.plan y.modules y.stage z.stage more.done.event in
    let most = more.within.events in
    omega (arith, one, most)

-- none more could be made
pub more_stuck : (x y z : Whole) → HasAdvanced x y → is_idle (phase_of y.stage.world.tables) ≡ false → (made : Bool)
    → made ≡ false → AdvancesBy y z made → Cannot (IsWholeUpdate x.plan x.modules) x
more_stuck x y z so_far going made is has =
    whole_stuck x y so_far.count so_far.made
    (λ idle. busy (phase_of y.stage.world.tables) going idle) (advance_none y z made is has)

-- the updater is idle
pub finished : (x y : Whole) → HasAdvanced x y → is_idle (phase_of y.stage.world.tables) ≡ true
    → HasMadeWithin (IsWholeUpdate x.plan x.modules) x y
finished x y so_far idle =
    let made = so_far.made in
    record {
      done = record {
        event = record {
          count = so_far.count;
          events = made.done.event;
          idle = idle_phase (phase_of y.stage.world.tables) idle;
        };
        plan = made.done.plan;
        modules = made.done.modules;
        under_way = made.done.under_way;
      };
      within = made.within;
    }
