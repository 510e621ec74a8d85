use Rattle.std.proofs.Common.{◌≡◌, ℕ, ◌+◌, List, Some, All, slice_get, drop, sym, subst, ap, ◌∙◌}
use Rattle.std.proofs.lemmas.List.Elements.{All-drop}
use Rattle.std.proofs.lemmas.Option.{slice_get-get_or, slice_get_within}
use Rattle.cfi_ledger.specs.Force.{count_by_policy}
use Rattle.cfi_ledger.specs.Roster.{origin_of}
use Rattle.cfi_ledger.specs.Policies.{HavePolicies}
use Rattle.cfi_ledger.proofs.DueLemmas.{data_due}
use Rattle.cfi_model.specs.Data.{LiesInData}
use Rattle.cfi_model.specs.Raw.{Raw}
use Rattle.cfi_model.specs.Words.{policy_in_force}
use Rattle.cfi_modules.specs.Fills.{fills_of}
use Rattle.cfi_modules.specs.Series.{IsSeries}
use Rattle.cfi_modules.proofs.PrefixLemmas.{data_lies}
use Rattle.cfi_sim.specs.Agrees.{NumbersAreApart}
use Rattle.cfi_sim.specs.Events.{found_reply}
use Rattle.cfi_sim.specs.inner.Standing.{Whole, AnswersOpen, whole_inside}
use Rattle.cfi_unit.specs.declared.fill.Fill.{Fill}
use Rattle.cfi_unit.specs.declared.log.Log.{Log}
use Rattle.cfi_valid.proofs.KeptLemmas.{places_are}
use Rattle.cfi_valid.specs.Loaded.{placed_modules}
use Rattle.cfi_valid.specs.Replay.{given_by}
use Rattle.cfi_world.specs.Premises.{MayAnswer}
use Rattle.cfi_sim.proofs.guests.DueLemmas.{answers_open, found_may}
use Rattle.cfi_sim.proofs.standing.Standing.answer.Goals as goal

pub find-found-requires-clause-apart : goal.find-found-requires-clause-apart
find-found-requires-clause-apart c =
    subst (λ (x : Whole). NumbersAreApart x.stage.state.loaded) (sym c.self.view_is) c.requires.apart

pub bounds-guests-guest : goal.bounds-guests-guest
bounds-guests-guest c = let (r, there) = c.requires.there in
    slice_get_within c.guests.result.now c.args.guest r
    (ap (λ (gs : List Raw). slice_get gs c.args.guest)
    (c.guests.ensures ∙ ap (λ (x : Whole). x.stage.world.guests) c.self.view_is) ∙ there)

-- the answer has the policy in force, and its data lies in private data
pub turn-requires : goal.turn-requires
turn-requires c =
    let a = c.self.inside in
    let size = a.plan.now.code_words in
    let first : ℕ = c.due_from-first.result in
    let series = subst (IsSeries size) (places_are origin_of a.force.roster.lines a.force.roster.placed
    c.self.invariant.roster_is.many)
    (subst (λ (y : Whole). IsSeries y.plan.code_words (placed_modules y.stage.state.loaded)) (sym c.self.view_is)
    c.requires.series) in
    let force : a.force.policy ≡ policy_in_force a.world.tables =
    sym (subst (λ (y : Whole). policy_in_force y.stage.world.tables ≡ y.stage.state.policy) (sym c.self.view_is)
    c.requires.policy) in
    let lies = All-drop LiesInData first (fills_of a.force.roster.placed)
    (data_lies size a.force.roster.placed series) in
    subst (MayAnswer a.world) (sym c.answer-answer.ensures)
    (found_may a.world c.find-found.result a.force.policy (drop first c.data.result.now) force
    (subst (λ (fs : List Fill). All LiesInData (drop first fs)) (sym c.data.ensures) lies))

-- the answer is the reply to what the open finds
pub returns : goal.returns
returns c =
    let inside = c.self.inside in
    let x = whole_inside inside in
    let new = c.turn.new.self in
    let r = c.index-guests-guest.result in
    let found = c.find-found.result in
    let (seated, there) = c.requires.there in
    let here : slice_get inside.world.guests c.args.guest ≡ Some seated =
    ap (λ (y : Whole). slice_get y.stage.world.guests c.args.guest) c.self.view_is ∙ there in
    let in_slice : slice_get c.guests.result.now c.args.guest ≡ Some seated =
    ap (λ (gs : List Raw). slice_get gs c.args.guest) c.guests.ensures ∙ here in
    let seat : slice_get inside.world.guests c.args.guest ≡ Some r =
    ap (λ (gs : List Raw). slice_get gs c.args.guest) (sym c.guests.ensures)
    ∙ slice_get-get_or c.guests.result.now c.args.guest r
    (slice_get_within c.guests.result.now c.args.guest seated in_slice)
    ∙ ap (λ (g : Raw). Some g) (sym c.index-guests-guest.is) in
    let have : HavePolicies inside.plan.now x.stage.state =
    subst (λ (y : Whole). HavePolicies y.plan y.stage.state) (sym c.self.view_is) c.requires.policies in
    let f = inside.force in
    let first = c.due_from-first.ensures ∙ ap (λ (log : List Log). count_by_policy (given_by log) f.roster) c.log.ensures.entries in
    subst (λ (y : Whole). AnswersOpen y (record x { stage = record x.stage { world = new } }) c.args.guest c.args.number
    ) c.self.view_is
    (answers_open x c.args.guest c.args.number r seat found c.find-found.ensures c.answer-answer.result
    (c.answer-answer.ensures
    ∙ ap (λ (fills : List Fill). found_reply found f.policy (drop c.due_from-first.result fills)) c.data.ensures
    ∙ ap (λ (n : ℕ). found_reply found f.policy (drop n (fills_of f.roster.placed))) first
    ∙ ap (found_reply found f.policy)
    (sym (data_due inside.plan.now f have c.self.invariant.roster_is (given_by r.base.log)))) new c.turn.ensures.world)
