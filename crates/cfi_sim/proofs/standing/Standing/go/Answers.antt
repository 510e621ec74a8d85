use Rattle.std.proofs.Common.{◌≡◌, sym, subst, ◌∙◌}
use Rattle.cfi_sim.specs.Events.{IsGuestEvent}
use Rattle.cfi_sim.specs.inner.Standing.{Whole, HasDone, IsUnderWay, whole_inside}
use Rattle.cfi_sim.proofs.GoLemmas.{with_world, one_event, have_policies, mid_policy, mid_there, did, asked, only_did}
use Rattle.cfi_sim.proofs.standing.Standing.go.Goals as goal
use Rattle.cfi_sim.proofs.standing.Standing.go.Goals.{in-Asks, in-Did}

-- an open finds the policy
pub answer-requires-clause-policy : goal.answer-requires-clause-policy
answer-requires-clause-policy c =
    let x = whole_inside c.self.inside in
    mid_policy x (subst IsUnderWay (sym c.self.view_is) c.requires.under_way) c.args.guest c.turn.new.self c.turn.result
    c.turn.ensures

-- each module came with its policy
pub answer-requires-clause-policies : goal.answer-requires-clause-policies
answer-requires-clause-policies c =
    let x = whole_inside c.self.inside in
    have_policies x (subst IsUnderWay (sym c.self.view_is) c.requires.under_way)

-- in a series
pub answer-requires-clause-series : goal.answer-requires-clause-series
answer-requires-clause-series c =
    let under : IsUnderWay (whole_inside c.self.inside) =
    subst IsUnderWay (sym c.self.view_is) c.requires.under_way in
    under.going.holds.agrees.tables.series

-- and its guest
pub answer-requires-clause-there : goal.answer-requires-clause-there
answer-requires-clause-there c =
    let x = whole_inside c.self.inside in
    mid_there x (subst IsUnderWay (sym c.self.view_is) c.requires.under_way) c.args.guest c.turn.new.self c.turn.result
    c.turn.ensures c.in-Asks.guest c.in-Asks.module c.in-Asks.is

-- the event has happened
pub returns : goal.returns
returns c =
    let x = whole_inside c.self.inside in
    let under : IsUnderWay x = subst IsUnderWay (sym c.self.view_is) c.requires.under_way in
    let done : (new : Whole) → HasDone (IsGuestEvent x.plan c.args.guest) x (one_event new) → new ≡ c.match-turn.self
    → HasDone (IsGuestEvent c.args.self.now.plan c.args.guest) c.args.self.now
    (one_event (whole_inside c.self-2.inside)) =
    λ new has same.
    subst
    (λ (y : Whole). HasDone (IsGuestEvent y.plan c.args.guest) y (one_event (whole_inside c.self-2.inside)))
    c.self.view_is
    (subst (λ (y : Whole). HasDone (IsGuestEvent x.plan c.args.guest) x (one_event y))
    (same ∙ sym c.self-2.view_is) has) in
    elim c.match-turn.branch [
      | in-Asks w ↦ done w.answer.new.self
          (asked x under c.args.guest c.turn.new.self c.turn.result c.turn.ensures w.in-Asks.guest w.in-Asks.module
          w.in-Asks.is w.answer.new.self w.answer.ensures) (sym w.self-is)
      | in-Did w ↦ done (with_world c.turn.new.self x)
          (did x under c.args.guest c.turn.new.self c.turn.result c.turn.ensures
          (only_did x under c.args.guest c.turn.new.self c.turn.result c.turn.ensures w.in-Did.is)) (sym w.self-is)
    ]
