-- An event of a guest makes one stage, and an access of the updater one world.
use Rattle.std.proofs.Common.{◌≡◌, ℕ, zero, suc, List, slice_get, Some, refl, sym, ◌∙◌, ap, subst, arith, inl, inr}
use Rattle.std.specs.List.{Contains}
use Rattle.std.proofs.lemmas.Bool.{cases_lt}
use Rattle.cfi_aux.specs.declared.modules.Module.{Module}
use Rattle.cfi_aux.specs.declared.placed.Placed.{Placed}
use Rattle.cfi_aux.specs.declared.placed.PlacedFunction.{PlacedFunction}
use Rattle.cfi_graph.specs.Code.{entry_of}
use Rattle.cfi_model.specs.Raw.{Raw}
use Rattle.cfi_model.specs.World.{World}
use Rattle.cfi_plan.specs.declared.plan.Plan.{Plan}
use Rattle.cfi_modules.specs.Entry.{IsGlobal, IsFirstOf, HasNoneOf}
use Rattle.cfi_sim.specs.Agrees.{NumbersAreApart}
use Rattle.cfi_sim.specs.Events.{IsFound, IsAnswered, GuestTurns, IsGuestEvent, IsUpdateEvent, reply_by}
use Rattle.cfi_sim.specs.declared.found.Found.{Found}
use Rattle.cfi_sim.specs.declared.found.Found.TheVariants.{Unknown, Functionless, Opened, Unloaded}
use Rattle.cfi_sim.specs.Schedule.{Repeats}
use Rattle.cfi_sim.specs.Stage.{Stage, after_event}
use Rattle.cfi_graph.proofs.BoundLemmas.{at_contains}
use Rattle.cfi_sim.proofs.journal.NotedLemmas.{update_world}
use Rattle.cfi_valid.specs.Journal.{JournalState}
use Rattle.cfi_valid.specs.Loaded.{LoadedModule}
use Rattle.cfi_valid.specs.Log.{HasFunctionAt, HasNoFunction}
use Rattle.cfi_world.specs.Turns.{turn_of, answer_turn}
use Rattle.cfi_world.specs.declared.event.Event.TheVariants as events
use Rattle.cfi_world.specs.declared.event.Turned.{Turned}
use Rattle.cfi_world.specs.declared.event.Turned.TheVariants.{Nothing, Did, Asks, VersionsSpent, EpochsSpent}

-- ---- what an open finds

first_once : (m : Placed) (a b : ℕ) → IsFirstOf IsGlobal m a → IsFirstOf IsGlobal m b → a ≡ b
first_once m a b p q =
    let same : p.number ≡ q.number = by_place in
    let both : Some p.function ≡ Some q.function =
    sym p.is ∙ ap (λ (k : ℕ). slice_get m.functions k) same ∙ q.is in
    let one : p.function ≡ q.function = cc in
    p.here ∙ ap (λ (f : PlacedFunction). entry_of m f) one ∙ sym q.here
  where
    by_place : p.number ≡ q.number
    by_place = elim (cases_lt p.number q.number) [
      | inl less ↦ absurd (q.first p.number p.function less p.is p.holds)
      | inr most ↦ elim (cases_lt q.number p.number) [
        | inl less ↦ absurd (p.first q.number q.function less q.is q.holds)
        | inr least ↦ omega (arith, most, least)
      ]
    ]

module _ (loaded : List LoadedModule) (apart : NumbersAreApart loaded) where
  one_module : (l m : LoadedModule) → Contains loaded l → Contains loaded m → l.number ≡ m.number → l ≡ m
  one_module l m has has' same =
      let at = at_contains loaded l has in
      let at' = at_contains loaded m has' in
      let place : has.0 ≡ has'.0 = apart has.0 has'.0 l m at at' same in
      let both : Some l ≡ Some m = sym at ∙ ap (λ (k : ℕ). slice_get loaded k) place ∙ at' in
      cc

  opened_once : (number a b : ℕ) → HasFunctionAt loaded number a → HasFunctionAt loaded number b → a ≡ b
  opened_once number a b p q =
      let one = one_module p.one q.one p.has q.has (p.is ∙ sym q.is) in
      first_once q.one.placed a b (subst (λ (l : LoadedModule). IsFirstOf IsGlobal l.placed a) one p.first) q.first

  not_both : (number a : ℕ) → HasNoFunction loaded number → HasFunctionAt loaded number a → ⊥
  not_both number a p q =
      let one = one_module p.one q.one p.has q.has (p.is ∙ sym q.is) in
      let none = subst (λ (l : LoadedModule). HasNoneOf IsGlobal l.placed) one p.none in
      none q.first.number q.first.function q.first.is q.first.holds

  found_once : (plan : Plan) (w : World) (number : ℕ) (f g : Found) → IsFound plan w loaded number f
      → IsFound plan w loaded number g → f ≡ g
  found_once plan w number Unknown Unknown p q = refl
  found_once plan w number Unknown Functionless p q = absurd (omega (arith, p, q.0))
  found_once plan w number Unknown (Opened b) p q = absurd (omega (arith, p, q.0))
  found_once plan w number Unknown Unloaded p q = absurd (omega (arith, p, q.0))
  found_once plan w number Functionless Unknown p q = absurd (omega (arith, p.0, q))
  found_once plan w number Functionless Functionless p q = refl
  found_once plan w number Functionless (Opened b) p q = absurd (not_both number b p.1 q.1.opened)
  found_once plan w number Functionless Unloaded p q = absurd (q.1 p.1)
  found_once plan w number (Opened a) Unknown p q = absurd (omega (arith, p.0, q))
  found_once plan w number (Opened a) Functionless p q = absurd (not_both number a q.1 p.1.opened)
  found_once plan w number (Opened a) (Opened b) p q =
      ap (λ (k : ℕ). Opened k) (opened_once number a b p.1.opened q.1.opened)
  found_once plan w number (Opened a) Unloaded p q = absurd (q.2 a p.1)
  found_once plan w number Unloaded Unknown p q = absurd (omega (arith, p.0, q))
  found_once plan w number Unloaded Functionless p q = absurd (p.1 q.1)
  found_once plan w number Unloaded (Opened b) p q = absurd (p.2 b q.1)
  found_once plan w number Unloaded Unloaded p q = refl

-- ---- a guest

module _ (plan : Plan) (guest : ℕ) where
  answered_once : (state : JournalState) → NumbersAreApart state.loaded → (mid a b : World) (number : ℕ)
      → IsAnswered plan state mid a guest number → IsAnswered plan state mid b guest number → a ≡ b
  answered_once state apart mid a b number p q =
      let both : Some p.r ≡ Some q.r = sym p.there ∙ q.there in
      let same : p.r ≡ q.r = cc in
      let found = found_once state.loaded apart plan mid number p.found q.found p.is_found q.is_found in
      p.is
      ∙ ap (λ (r : Raw). (answer_turn mid guest (reply_by state r.base p.found) (Some r)).world) same
      ∙ ap (λ (f : Found). (answer_turn mid guest (reply_by state q.r.base f) (Some q.r)).world) found
      ∙ sym q.is

  turned_once : (state : JournalState) → NumbersAreApart state.loaded → (mid a b : World) (answer : Turned)
      → GuestTurns plan state mid a guest answer → GuestTurns plan state mid b guest answer → a ≡ b
  turned_once state apart mid a b Did p q = p ∙ sym q
  turned_once state apart mid a b (Asks asking number) p q = answered_once state apart mid a b number p q
  turned_once state apart mid a b (VersionsSpent other quiet) p q = absurd p
  turned_once state apart mid a b EpochsSpent p q = absurd p
  turned_once state apart mid a b Nothing p q = absurd p

  guest_once : (old x y : Stage) → NumbersAreApart old.state.loaded → IsGuestEvent plan guest old x
      → IsGuestEvent plan guest old y → x ≡ y
  guest_once old x y apart p q =
      let turn = turn_of old.world (events.Guest guest) in
      let same = turned_once old.state apart turn.world p.world q.world turn.answer p.turns q.turns in
      p.is ∙ ap (λ (w : World). after_event w old) same ∙ sym q.is

  guests_state : (count : ℕ) (old x : Stage) → Repeats (IsGuestEvent plan guest) count old x → x.state ≡ old.state
  guests_state zero old x same = ap (λ (s : Stage). s.state) same
  guests_state (suc count) old x more =
      ap (λ (s : Stage). s.state) more.2.is ∙ guests_state count old more.0 more.1

  pub guests_once : (count : ℕ) (old x y : Stage) → NumbersAreApart old.state.loaded
      → Repeats (IsGuestEvent plan guest) count old x → Repeats (IsGuestEvent plan guest) count old y → x ≡ y
  guests_once zero old x y apart p q = p ∙ sym q
  guests_once (suc count) old x y apart p q =
      let same = guests_once count old p.0 q.0 apart p.1 q.1 in
      let there = guests_state count old q.0 q.1 in
      guest_once q.0 x y (subst (λ (s : JournalState). NumbersAreApart s.loaded) (sym there) apart)
      (subst (λ (s : Stage). IsGuestEvent plan guest s x) same p.2) q.2

-- ---- the updater

pub updates_once : (plan : Plan) (modules : List Module) (count : ℕ) (old x y : Stage)
    → Repeats (IsUpdateEvent plan modules) count old x → Repeats (IsUpdateEvent plan modules) count old y
    → x.world ≡ y.world
updates_once plan modules zero old x y p q = ap (λ (s : Stage). s.world) (p ∙ sym q)
updates_once plan modules (suc count) old x y p q =
    let same = updates_once plan modules count old p.0 q.0 p.1 q.1 in
    update_world plan modules p.0 x p.2
    ∙ ap (λ (w : World). (turn_of w events.Update).world) same
    ∙ sym (update_world plan modules q.0 y q.2)
