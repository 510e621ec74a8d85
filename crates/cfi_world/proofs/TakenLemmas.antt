-- A guest at a moment of a run, when its own event comes: what its check has found then.
use Rattle.std.proofs.Common.{◌≡◌, ℕ, ℤ, ◌+◌, ◌/◌, Bool, true, List, slice_get, Some, None, ◌⊎◌, inl, inr, refl, sym, ap, ◌∙◌, subst, arith}
use Rattle.std.proofs.lemmas.Bool.{cases_eq}
use Rattle.std.proofs.lemmas.Option.{none-some}
use Rattle.cfi_unit.proofs.CodeLemmas.{BeginsAt-one}
use Rattle.cfi_unit.specs.declared.unit.Unit.{Unit as CodeUnit}
use Rattle.cfi_unit.specs.declared.unit.Unit.TheVariants as units
use Rattle.cfi_model.specs.declared.act.Wait.TheVariants as waits
use Rattle.cfi_model.specs.Effect.{is_in_code}
use Rattle.cfi_model.specs.Fits.{Fits}
use Rattle.cfi_model.specs.History.{History, IsHistory, allows_at}
use Rattle.cfi_model.specs.declared.quiet.Point.TheVariants.{Outside}
use Rattle.cfi_model.specs.Raw.{Raw}
use Rattle.cfi_model.specs.Run.{Word}
use Rattle.cfi_model.specs.Running.{IsGuest, IsRunning}
use Rattle.cfi_model.specs.Shows.{IsBetween, IsReady, Stands, end_of}
use Rattle.cfi_model.specs.State.{State, register, displaced}
use Rattle.cfi_model.specs.Words.{Tables}
use Rattle.cfi_model.specs.World.{World, point_of}
use Rattle.cfi_model.proofs.AdvanceLemmas.{Running, at_start, check_ends, check_next, goes_on, start_is}
use Rattle.cfi_model.proofs.CheckPlaces.{CheckAt, CheckGoesOn, CheckStops, Neither, SlotWord, BothWords, found_at}
use Rattle.cfi_model.proofs.CheckPlaces as check
use Rattle.cfi_model.proofs.CheckWalk.{check_begins}
use Rattle.cfi_model.proofs.EndLemmas.{effect_units}
use Rattle.cfi_model.proofs.FetchLemmas.{first_place}
use Rattle.cfi_model.proofs.LawLemmas.{At, Begun}
use Rattle.cfi_model.proofs.RunningLemmas.{running_is, running_shows}
use Rattle.cfi_model.proofs.ShownLemmas.{shows_running, shows_units}
use Rattle.cfi_world.specs.Moments.{ComesFor}
use Rattle.cfi_world.specs.Seats.{rested}
use Rattle.cfi_world.specs.Turns.{reply_in, turn_of}
use Rattle.cfi_world.specs.Worlds.{IsWorld}
use Rattle.cfi_world.specs.declared.event.Event.{Event}
use Rattle.cfi_world.specs.declared.event.Event.TheVariants as events
use Rattle.cfi_world.proofs.MomentLemmas.{next_world}
use Rattle.cfi_world.proofs.OthersLemmas.{others_stay}
use Rattle.cfi_world.proofs.OwnLemmas.{Left, Rested, Took, answer_leaves, own_fits, own_is, taken, word_for}
use Rattle.cfi_world.proofs.ParkLemmas.{IsServing}
use Rattle.cfi_world.proofs.RestLemmas.{going_runs}
use Rattle.cfi_world.proofs.TraceLemmas.{HasBoth, HoldsTry, found_in, found_is, holds_next}
use Rattle.cfi_world.proofs.WithinLemmas.{stands_in_check}
use Rattle.cfi_world.proofs.GuestLemmas.{guest_units, no_check, serving_by}
use Rattle.cfi_world.proofs.TracedLemmas as traced
use Rattle.cfi_world.proofs.TracedLemmas.{Over}

module _ (o : Over) where
  abbrev guest : ℕ
  guest = o.guest

  abbrev at : (moment : ℕ) → World
  at moment = traced.at o moment

  abbrev tables : (moment : ℕ) → Tables
  tables moment = traced.tables o moment

  abbrev h : (moment : ℕ) → History
  h moment = traced.h o moment

  abbrev code : (moment : ℕ) → List ℕ
  code moment = traced.code o moment

  abbrev Traced : (now : ℕ) → State → Raw → Type 0
  Traced now s r = traced.Traced o now s r

  known : (moment : ℕ) → IsHistory (h moment) (code moment)
  known moment = traced.known o moment

  at_is : (moment : ℕ) → IsWorld (at moment)
  at_is moment = traced.at_is o moment

  -- the guest at a moment, and the event that comes
  pub record Here (n : ℕ) : Type 0 where
    pub r : Raw
    pub there : slice_get (at n).guests guest ≡ Some r
    pub retries : ℕ
    pub s : State
    pub shows : IsGuest (h n) (code n) retries s r
    pub traced : Traced n s r
    pub event : Event
    pub comes : slice_get o.run n ≡ Some event

  module _ (n : ℕ) (x : Here n) where
    abbrev r : Raw
    r = x.r

    abbrev retries : ℕ
    retries = x.retries

    abbrev s : State
    s = x.s

    abbrev new : World
    new = (turn_of (at n) x.event).world

    pub next_is : at (n + 1) ≡ new
    next_is = next_world o.w o.run n x.event x.comes

    -- ---- the event leaves the guest, or is its own

    abbrev pub next : Raw
    next = taken (at n) guest r x.there

    pub record Takes (e : Event) : Type 0 where
      pub own : e ≡ events.Guest guest
      pub going : r.base.stop ≡ None
      pub outside : point_of (at n) guest ≡ Outside
      pub after : slice_get (turn_of (at n) e).world.guests guest ≡ Some (rested (at n).fuel next)

    -- or stops it at most
    abbrev pub Leaves : Event → Type 0
    Leaves e =
        (slice_get (turn_of (at n) e).world.guests guest ≡ Some r)
        ⊎ (slice_get (turn_of (at n) e).world.guests guest ≡ Some (rested (at n).fuel r))

    abbrev pub LeavesOrTakes : Event → Type 0
    LeavesOrTakes e = Leaves e ⊎ Takes e

    own_takes : (IsServing r.waits → ⊥) → LeavesOrTakes (events.Guest guest)
    own_takes quiet = elim (own_is (at n) guest r x.there (at_is n) quiet) [
      | Left stays ↦ inl (inl stays)
      | Rested rests ↦ inl (inr rests)
      | Took takes ↦
          inr (record { own = refl; going = takes.going; outside = takes.outside; after = takes.after })
    ]

    pub takes_by : (e : Event) → (IsServing r.waits → ⊥) → LeavesOrTakes e
    takes_by (events.Guest other) quiet = elim (cases_eq other guest) [
      | inr apart ↦ inl (inl (others_stay (at n) (events.Guest other) guest apart ∙ x.there))
      | inl own ↦ subst (λ k. LeavesOrTakes (events.Guest k)) (sym own) (own_takes quiet)
    ]
    takes_by (events.Begin image) quiet = inl (inl (others_stay (at n) (events.Begin image) guest tt ∙ x.there))
    takes_by events.Update quiet = inl (inl (others_stay (at n) events.Update guest tt ∙ x.there))
    takes_by (events.Answer other answer) quiet = elim (cases_eq other guest) [
      | inr apart ↦ inl (inl (others_stay (at n) (events.Answer other answer) guest apart ∙ x.there))
      | inl own ↦ subst (λ k. LeavesOrTakes (events.Answer k answer)) (sym own)
          (inl (inl (answer_leaves (at n) guest r x.there (at_is n) quiet (reply_in answer))))
    ]
    takes_by (events.Release other) quiet = inl (inl (others_stay (at n) (events.Release other) guest tt ∙ x.there))

    -- a guest that shows a state has its units
    pub units_now : r.base.units ≡ s.units
    units_now = guest_units (h n) (code n) (known n) retries s r x.shows

    -- a guest in a service is in no check
    pub never_serves : IsServing r.waits → (link : Bool) (rs1 : ℕ) (imm : ℤ) (slot : ℕ)
        → Stands (code n) s.pc (units.Check link rs1 imm slot) → ⊥
    never_serves serving link rs1 imm slot stands =
        let service = serving_by r.waits serving in
        by_guest service.0 service.1 x.shows
      where
        by_guest : (number : ℕ) → r.waits ≡ Some (waits.Service number) → IsGuest (h n) (code n) retries s r → ⊥
        by_guest number wait (inl runs) =
            no_check (h n) (code n) retries s r (running_shows (h n) (code n) (known n) retries s r runs) number wait
            link rs1 imm slot stands
        by_guest number wait (inr over) =
            none-some (waits.Service number) (sym over.2.idle ∙ sym (ap (λ x. x.waits) over.2.is) ∙ wait)

    -- ---- the guest takes a word

    module _ (takes : Takes x.event) (quiet : IsServing r.waits → ⊥)
        (link : Bool) (rs1 : ℕ) (imm : ℤ) (slot : ℕ) (stands : Stands (code n) s.pc (units.Check link rs1 imm slot))
      where
        abbrev word : ℕ
        word = word_for (at n) guest r x.there r.waits

        abbrev target : ℕ
        target = displaced (register s rs1) imm

        runs : IsRunning (h n) (code n) retries s r
        runs = going_runs (h n) (code n) retries s r x.shows takes.going

        running : Running (h n) (code n) s retries r
        running = running_is (h n) (code n) (known n) retries s r runs

        fits : Fits (h n) (code n) r (Word word)
        fits = own_fits (at n) guest r x.there (at_is n) takes.going takes.outside retries s runs quiet

        comes_now : ComesFor o.w o.run guest r.waits n
        comes_now = record {
          event = x.comes ∙ ap Some takes.own;
          r = r;
          there = x.there;
          going = takes.going;
          outside = takes.outside;
          waits = refl;
        }

        -- it begins the check, or goes on in it, or ends it with a try that has found both words
        abbrev Begins : Type 0
        Begins = (now : CheckAt (h n) s retries slot target next) × (found_at now.place ≡ Neither)

        here_by : IsReady (h n) s → s.stop ≡ None → At (h n) (code n) s (units.Check link rs1 imm slot)
        here_by ready s_going =
            let start = at_start (h n) (code n) s retries (known n) ready s_going in
            subst (λ (u : CodeUnit). At (h n) (code n) s u)
            (BeginsAt-one (code n) (s.pc / 4) start.0 (units.Check link rs1 imm slot) start.1.here.stands.begins
            stands.begins) start.1

        begins : IsReady (h n) s → IsBetween retries s r → Begins
        begins ready between =
            let s_going = goes_on (h n) (code n) s retries r between (Word word) fits in
            check_begins (h n) (code n) s link rs1 imm slot (here_by ready s_going).here retries r.x28 r.x29 r.x30 r.x31
            r
            (start_is (h n) (code n) s retries r between s_going ∙ first_place s retries r.x28 r.x29 r.x30 r.x31)
            (Word word) fits

        within : (unit : CodeUnit) → At (h n) (code n) s unit → Begun (h n) s unit retries r
            → At (h n) (code n) s (units.Check link rs1 imm slot)
            × Begun (h n) s (units.Check link rs1 imm slot) retries r
        within unit here begun = stands_in_check (h n) (code n) s retries r link rs1 imm slot stands unit here begun

        found_here : (m : ℕ) (v : check.Values) (place : check.CheckPlace) (y : Raw)
            → y ≡ check.check_raw s m slot target v place → found_in s y ≡ found_at place
        found_here m v place y y_is = ap (found_in s) y_is ∙ found_is s m slot target v place

        -- the check's units, where it has not ended
        units_within : (here : At (h n) (code n) s (units.Check link rs1 imm slot))
            → CheckAt (h n) s retries slot target next → next.base.units ≡ s.units
        units_within here now =
            shows_units (h n) (code n) retries s next
            (shows_running (h n) (code n) s retries next (inr (units.Check link rs1 imm slot, here, now)))

        abbrev HoldsNext : Type 0
        HoldsNext = HoldsTry o.w o.run guest (found_in s next) (n + 1) slot target next.bary next.tary

        holds_in : (here : At (h n) (code n) s (units.Check link rs1 imm slot))
            (begun : Begun (h n) s (units.Check link rs1 imm slot) retries r)
            → CheckGoesOn (h n) s retries slot target begun.values begun.place r (Word word) → HoldsNext
        holds_in here begun goes =
            let now = goes.now in
            let before = subst (λ f. HoldsTry o.w o.run guest f n slot target r.bary r.tary)
            (found_here (retries + begun.more) begun.values begun.place r begun.is)
            (x.traced takes.going link rs1 imm slot stands) in
            subst (λ f. HoldsTry o.w o.run guest f (n + 1) slot target next.bary next.tary)
            (sym (found_here (retries + now.more) now.values now.place next now.is))
            (holds_next o.w o.run guest n r comes_now word slot target
            (λ rd wait. ap (word_for (at n) guest r x.there) wait)
            (λ rd wait. ap (word_for (at n) guest r x.there) wait)
            s (retries + begun.more) (retries + now.more) begun.values now.values begun.place now.place begun.is now.is
            goes.follows before)

        ends_units : (here : At (h n) (code n) s (units.Check link rs1 imm slot))
            (begun : Begun (h n) s (units.Check link rs1 imm slot) retries r)
            → CheckStops (h n) s retries slot target link begun.place (end_of r (Word word)) next
            → next.base.units ≡ s.units + 1
        ends_units here begun stops =
            let e = check_ends (h n) (code n) s retries link rs1 imm slot here r begun (Word word) stops in
            ap (λ b. b.units) e.between.base ∙ ap (λ x. x.units) e.step.is
            ∙ effect_units e.step.unit ((h n).policy e.step.epoch) (allows_at (h n) e.step.epoch) e.step.reply s

        -- a guest that shows the state still
        holds_by : Running (h n) (code n) s retries r → next.base.units ≡ s.units → HoldsNext
        holds_by (inl rests) same =
            let begun = begins rests.0 rests.1 in
            subst (λ f. HoldsTry o.w o.run guest f (n + 1) slot target next.bary next.tary)
            (sym (found_here (retries + begun.0.more) begun.0.values begun.0.place next begun.0.is ∙ begun.1)) tt
        holds_by (inr inner) same =
            let both = within inner.0 inner.1 inner.2 in
            elim (check_next (h n) (code n) s retries link rs1 imm slot both.0 r both.1 (Word word) fits) [
              | inl goes ↦ holds_in both.0 both.1 goes
              | inr stops ↦ (let more = ends_units both.0 both.1 stops in absurd (omega (arith, more, same)))
            ]

        pub holds_still : next.base.units ≡ s.units → HoldsNext
        holds_still same = holds_by running same

        -- a guest that has ended the check, where it asks the policy
        ended_by : Running (h n) (code n) s retries r → s.stop ≡ None → next.base.units ≡ s.units + 1
            → is_in_code target ≡ true → HasBoth o.w o.run guest n slot target r.bary r.tary
        ended_by (inl rests) s_going more inside =
            let begun = begins rests.0 rests.1 in
            let same = units_within (here_by rests.0 s_going) begun.0 in
            absurd (omega (arith, more, same))
        ended_by (inr inner) s_going more inside =
            let both = within inner.0 inner.1 inner.2 in
            elim (check_next (h n) (code n) s retries link rs1 imm slot both.0 r both.1 (Word word) fits) [
              | inl goes ↦ (let same = units_within both.0 goes.now in absurd (omega (arith, more, same)))
              | inr stops ↦
                  subst (λ f. HoldsTry o.w o.run guest f n slot target r.bary r.tary)
                  (found_here (retries + both.1.more) both.1.values both.1.place r both.1.is ∙ stops.tried inside)
                  (x.traced takes.going link rs1 imm slot stands)
            ]

        pub both_found : s.stop ≡ None → next.base.units ≡ s.units + 1 → is_in_code target ≡ true
            → HasBoth o.w o.run guest n slot target r.bary r.tary
        both_found s_going more inside = ended_by running s_going more inside
