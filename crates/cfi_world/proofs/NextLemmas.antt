-- A guest from one moment of a run to the next: it shows the same, or has made a step.
use Rattle.std.proofs.Common.{◌≡◌, ℕ, ℤ, ◌+◌, ◌%◌, Bool, true, List, slice_get, Option, Some, None, inl, inr, refl, sym, ap, ◌∙◌, subst, arith}
use Rattle.cfi_unit.specs.declared.unit.Unit.{Unit as CodeUnit}
use Rattle.cfi_unit.specs.declared.unit.Unit.TheVariants as units
use Rattle.cfi_word.specs.Word.{epoch_in, policy_in}
use Rattle.cfi_model.specs.Effect.{is_in_code}
use Rattle.cfi_model.specs.History.{History, IsBaryWord, IsHistory, IsTaryWord, allows_at, slot_class, target_class, word_of}
use Rattle.cfi_model.specs.InForce.{history_of, code_in_force}
use Rattle.cfi_model.specs.Raw.{Raw}
use Rattle.cfi_model.specs.Running.{IsGuest}
use Rattle.cfi_model.specs.Service.{Reply}
use Rattle.cfi_model.specs.Shows.{AsksUnder, IsTriedIn, Stands}
use Rattle.cfi_model.specs.State.{State, register, displaced}
use Rattle.cfi_model.specs.Words.{Tables}
use Rattle.cfi_model.specs.World.{World}
use Rattle.cfi_model.proofs.EndLemmas.{effect_units}
use Rattle.cfi_model.proofs.IdLemmas.{bary_epoch, seen_of, tary_epoch, tary_policy}
use Rattle.cfi_world.specs.Checks.{bary_in, tary_in}
use Rattle.cfi_world.specs.Laws.{IsRefined, IsStepped, answer_in}
use Rattle.cfi_world.specs.Moments.{LeavesTry}
use Rattle.cfi_world.specs.Seats.{rested}
use Rattle.cfi_world.specs.Steps.{AsksInForce, IsAskedIn, IsStepAt}
use Rattle.cfi_world.specs.Turns.{turn_of}
use Rattle.cfi_world.specs.Worlds.{IsWorld}
use Rattle.cfi_world.proofs.ParkLemmas.{IsServing}
use Rattle.cfi_world.specs.declared.event.Event.{Event}
use Rattle.cfi_world.specs.declared.event.Event.TheVariants as events
use Rattle.cfi_world.proofs.CheckLemmas.{held_throughout}
use Rattle.cfi_world.proofs.MomentLemmas.{may_here, next_on}
use Rattle.cfi_world.proofs.OthersLemmas.{only_updates}
use Rattle.cfi_world.proofs.OwnLemmas.{not_rested}
use Rattle.cfi_world.proofs.RefineLemmas.{refines}
use Rattle.cfi_world.proofs.RestLemmas.{same_units}
use Rattle.cfi_world.proofs.TraceLemmas.{HasBoth, HoldsTry, found_in, found_none}
use Rattle.cfi_world.proofs.GuestLemmas.{guest_ready, guest_units, is_serving, stands_before}
use Rattle.cfi_world.proofs.TakenLemmas as taken
use Rattle.cfi_world.proofs.TakenLemmas.{Here}
use Rattle.cfi_world.proofs.TracedLemmas as traced
use Rattle.cfi_world.proofs.TracedLemmas.{Over}

same_guest : (x y : Raw) → Some x ≡ Some y → x ≡ y
same_guest x y e = cc

same_word : (x y : ℕ) → Some x ≡ Some y → x ≡ y
same_word x y e = cc

module _ (o : Over) where
  abbrev guest : ℕ
  guest = o.guest

  abbrev at : (moment : ℕ) → World
  at moment = traced.at o moment

  abbrev tables : (moment : ℕ) → Tables
  tables moment = traced.tables o moment

  abbrev h : (moment : ℕ) → History
  h moment = traced.h o moment

  abbrev code : (moment : ℕ) → List ℕ
  code moment = traced.code o moment

  abbrev Traced : (now : ℕ) → State → Raw → Type 0
  Traced now s r = traced.Traced o now s r

  known : (moment : ℕ) → IsHistory (h moment) (code moment)
  known moment = traced.known o moment

  at_is : (moment : ℕ) → IsWorld (at moment)
  at_is moment = traced.at_is o moment

  module _ (n : ℕ) (x : Here o n) where
    abbrev r : Raw
    r = x.r

    abbrev retries : ℕ
    retries = x.retries

    abbrev s : State
    s = x.s

    abbrev event : Event
    event = x.event

    abbrev there : slice_get (at n).guests guest ≡ Some x.r
    there = x.there

    abbrev shows : IsGuest (h n) (code n) x.retries x.s x.r
    shows = x.shows

    abbrev next : Raw
    next = taken.next o n x

    abbrev new : World
    new = (turn_of (at n) event).world

    abbrev Takes : Event → Type 0
    Takes e = taken.Takes o n x e

    -- ---- the next moment

    -- what the guest is then
    abbrev given : Option Reply
    given = answer_in event

    pub refined : IsRefined (at n) new given guest r retries s
    refined = refines (at n) (at_is n) guest r there retries s shows event
        (may_here o.w o.is o.run o.may n event x.comes)

    abbrev now : Raw
    now = refined.now

    pub there_next : slice_get (at (n + 1)).guests guest ≡ Some now
    there_next = ap (λ v. slice_get v.guests guest) (taken.next_is o n x) ∙ refined.there

    pub shows_next : IsGuest (h (n + 1)) (code (n + 1)) refined.more refined.after now
    shows_next =
        subst (λ (v : World). IsGuest (history_of v.tables) (code_in_force v.tables) refined.more refined.after now)
        (sym (taken.next_is o n x)) refined.runs

    units_next : now.base.units ≡ refined.after.units
    units_next =
        guest_units (h (n + 1)) (code (n + 1)) (known (n + 1)) refined.more refined.after now shows_next

    -- it is the machine that has taken the word
    taken_now : Takes event → now ≡ rested (at n).fuel next
    taken_now takes = same_guest now (rested (at n).fuel next) (sym refined.there ∙ takes.after)

    taken_units : Takes event → next.base.units ≡ refined.after.units
    taken_units takes =
        sym (ap (λ y. y.base.units) (taken_now takes) ∙ same_units (at n).fuel next) ∙ units_next

    left_now : slice_get new.guests guest ≡ Some r → now ≡ r
    left_now left = same_guest now r (sym refined.there ∙ left)

    -- ---- it shows the same

    own_tables : event ≡ events.Guest guest → tables (n + 1) ≡ tables n
    own_tables own =
        ap (λ v. v.tables) (taken.next_is o n x)
        ∙ subst (λ e. (turn_of (at n) e).world.tables ≡ tables n) (sym own)
        (only_updates (at n) (events.Guest guest) (λ none. none))

    kept_traced : (IsServing r.waits → ⊥) → refined.after ≡ s → Takes event → Traced (n + 1) s now
    kept_traced quiet same takes going_now link rs1 imm slot stands =
        let is_now = taken_now takes in
        let whole : now ≡ next =
        is_now ∙ not_rested (at n).fuel next (sym (ap (λ y. y.base.stop) is_now) ∙ going_now) in
        let before : Stands (code n) s.pc (units.Check link rs1 imm slot) =
        subst (λ (t : Tables). Stands (code_in_force t) s.pc (units.Check link rs1 imm slot)) (own_tables takes.own)
        stands in
        subst (λ y. HoldsTry o.w o.run guest (found_in s y) (n + 1) slot (displaced (register s rs1) imm) y.bary y.tary)
        (sym whole)
        (taken.holds_still o n x takes quiet link rs1 imm slot before
        (taken_units takes ∙ ap (λ y. y.units) same))

    left_traced : slice_get new.guests guest ≡ Some r → Traced (n + 1) s now
    left_traced left =
        let leaves : LeavesTry o.w o.run guest n =
        inl (ap (λ v. slice_get v.guests guest) (taken.next_is o n x) ∙ left ∙ sym there) in
        subst (Traced (n + 1) s) (sym (left_now left))
        (traced.traced_later o n r s (guest_ready (h n) (code n) retries s r shows)
        (traced.shown_going o n retries s r shows) leaves x.traced)

    -- or stops it at most
    rested_traced : slice_get new.guests guest ≡ Some (rested (at n).fuel r) → Traced (n + 1) s now
    rested_traced rests going_now =
        let is_now = same_guest now (rested (at n).fuel r) (sym refined.there ∙ rests) in
        let same = not_rested (at n).fuel r (sym (ap (λ y. y.base.stop) is_now) ∙ going_now) in
        left_traced (rests ∙ ap Some same) going_now

    left_units : taken.Leaves o n x event → now.base.units ≡ r.base.units
    left_units (inl left) = ap (λ y. y.base.units) (left_now left)
    left_units (inr rests) =
        ap (λ y. y.base.units) (same_guest now (rested (at n).fuel r) (sym refined.there ∙ rests))
        ∙ same_units (at n).fuel r

    -- an event in a service, of a guest that shows the same
    served_traced : IsServing r.waits → refined.after ≡ s → Traced (n + 1) s now
    served_traced serving same going_now link rs1 imm slot stands =
        let going : s.stop ≡ None =
        sym (ap (λ y. y.stop) same)
        ∙ traced.shown_going o (n + 1) refined.more refined.after now shows_next going_now in
        let on = next_on o.w o.is o.run o.may n (slice_get o.run n) refl in
        let before = stands_before (tables n) (tables (n + 1)) (at_is n).tables (at_is (n + 1)).tables on s
        (guest_ready (h n) (code n) retries s r shows) going (units.Check link rs1 imm slot) stands in
        absurd (taken.never_serves o n x serving link rs1 imm slot before)

    pub same_traced : refined.after ≡ s → Traced (n + 1) s now
    same_traced same = elim (is_serving r.waits) [
      | inl serving ↦ served_traced serving same
      | inr quiet ↦ elim (taken.takes_by o n x event quiet) [
        | inl (inl left) ↦ left_traced left
        | inl (inr rests) ↦ rested_traced rests
        | inr takes ↦ kept_traced quiet same takes
      ]
    ]

    -- ---- it has ended a unit

    module _ (stepped : IsStepped (h n) (code n) given retries s r now refined.more refined.after) where
      more_units : refined.after.units ≡ s.units + 1
      more_units =
          ap (λ y. y.units) stepped.step.is
          ∙ effect_units stepped.step.unit ((h n).policy stepped.step.epoch) (allows_at (h n) stepped.step.epoch)
          stepped.step.reply s

      both_words : (link : Bool) (rs1 : ℕ) (imm : ℤ) (slot : ℕ) → units.Check link rs1 imm slot ≡ stepped.step.unit
          → is_in_code (displaced (register s rs1) imm) ≡ true
          → HasBoth o.w o.run guest n slot (displaced (register s rs1) imm) r.bary r.tary
      both_words link rs1 imm slot same inside =
          let stands : Stands (code n) s.pc (units.Check link rs1 imm slot) =
          subst (Stands (code n) s.pc) (sym same) stepped.step.stands in
          elim (is_serving r.waits) [
            | inl serving ↦ absurd (taken.never_serves o n x serving link rs1 imm slot stands)
            | inr quiet ↦ elim (taken.takes_by o n x event quiet) [
              | inl left ↦
                  let still = left_units left in
                  absurd (omega (arith, still, units_next, more_units, taken.units_now o n x))
              | inr takes ↦
                  taken.both_found o n x takes quiet link rs1 imm slot stands stepped.step.going
                  (taken_units takes ∙ more_units) inside
            ]
          ]

      abbrev epoch : ℕ
      epoch = stepped.step.epoch

      -- the words that it compares are of the epoch under which it is run
      asked_in : (link : Bool) (rs1 : ℕ) (imm : ℤ) (slot : ℕ) → units.Check link rs1 imm slot ≡ stepped.step.unit
          → is_in_code (displaced (register s rs1) imm) ≡ true
          → IsAskedIn o.w o.run guest slot (displaced (register s rs1) imm) r epoch ((h n).policy epoch) n
      asked_in link rs1 imm slot same inside =
          let target : ℕ = displaced (register s rs1) imm in
          let has = both_words link rs1 imm slot same inside in
          let under : IsTriedIn (h n) epoch slot target stepped.end =
          subst (λ (u : CodeUnit). AsksUnder (h n) epoch stepped.end u s) (sym same) stepped.step.under inside in
          let bary : ℕ = bary_in (at has.from) slot in
          let tary : ℕ = tary_in (at has.to) target in
          let seen = seen_of (h n) epoch stepped.step.known in
          let branch : IsBaryWord (h n) slot bary = record {
            epoch = epoch;
            known = stepped.step.known;
            is = same_word bary (word_of (h n) epoch (slot_class (h n) epoch slot))
                (sym has.bary_is ∙ sym stepped.bary ∙ under.bary);
          } in
          let goal : IsTaryWord (h n) target tary = record {
            epoch = epoch;
            known = seen;
            is = same_word tary (word_of (h n) epoch (target_class (h n) epoch target))
                (sym has.tary_is ∙ sym stepped.tary ∙ under.tary);
          } in
          let bary_is : epoch_in bary ≡ epoch = bary_epoch (h n) (code n) slot (known n) branch in
          let tary_is : epoch_in tary ≡ epoch = tary_epoch (h n) (code n) target (known n) goal in
          let policy : policy_in tary ≡ (h n).policy epoch = tary_policy (h n) (code n) target (known n) goal in
          let held = held_throughout o.w o.is o.run o.may guest slot target has.from has.to has.last.try
          (ap (λ e. e % o.w.tables.versions) (bary_is ∙ sym tary_is)) in
          record {
            from = has.from;
            to = has.to;
            last = has.last;
            bary = has.bary_is;
            tary = has.tary_is;
            force = λ moment window.
                (let force = held.force moment window in
                record { epoch_is = force.epoch_is ∙ tary_is; policy_is = force.policy_is ∙ policy });
          }

      asks_by : (unit : CodeUnit) → unit ≡ stepped.step.unit
          → AsksInForce o.w o.run guest r epoch ((h n).policy epoch) n unit s
      asks_by (units.Check link rs1 imm slot) same = asked_in link rs1 imm slot same
      asks_by (units.Plain insn) same = tt
      asks_by (units.Branch c rs1 rs2 off) same = tt
      asks_by (units.Jump link off) same = tt
      asks_by (units.Load kind rd rs1 imm) same = tt
      asks_by (units.Store kind rs1 rs2 imm) same = tt
      asks_by units.Service same = tt

      pub step_at : IsStepAt o.w o.run guest (record { moment = n; state = s; retries = retries }) refined.more
          refined.after
      step_at = record {
        event = event;
        comes = x.comes;
        r = r;
        there = there;
        showed = shows;
        now = now;
        after = there_next;
        shows = shows_next;
        stepped = stepped;
        asks = asks_by stepped.step.unit refl;
      }

      pub ended_traced : Traced (n + 1) refined.after now
      ended_traced going_now link rs1 imm slot stands =
          let going = traced.shown_going o (n + 1) refined.more refined.after now shows_next going_now in
          subst (λ f. HoldsTry o.w o.run guest f (n + 1) slot (displaced (register refined.after rs1) imm) now.bary
          now.tary)
          (sym (found_none refined.after now (stepped.begins going))) tt
