use Rattle.std.proofs.Common.{◌≡◌, length, take, drop, ap, sym, subst, ◌∙◌}
use Rattle.cfi_modules.specs.Fills.{fills_of}
use Rattle.cfi_modules.specs.Series.{Series, IsRefusedBy}
use Rattle.cfi_ledger.specs.Roster.{Roster, line_by, series_of}
use Rattle.cfi_ledger.proofs.JoinedLemmas.{offered_order, roster_by, roster_offered}
use Rattle.cfi_ledger.proofs.roster.Roster.offer.Goals as goal

-- the series is what it was
pub invariant_of-self : goal.invariant_of-self
invariant_of-self c =
    let joined = c.in-Ok.ensures.ok in
    let back = c.withdraw-series.ensures c.replace-series.result joined.0 joined.2 in
    let rest = ap (λ pair. pair.0) back ∙ c.replace-series.ensures.value in
    subst (λ (s : Series). (length c.self.inside.lines.items ≡ length s.placed)
    × (take (length s.placed) c.self.inside.fills.items ≡ fills_of s.placed)) (sym rest) c.self.invariant

-- the module joins as it was given back
pub returns-in_ok-offer-in-Ok-clause-ok : goal.returns-in_ok-offer-in-Ok-clause-ok
returns-in_ok-offer-in-Ok-clause-ok c =
    let entrant = c.args.entrant.now in
    let joined = c.in-Ok.ensures.ok in
    let s = c.replace-series.result in
    let lines = c.self.inside.lines.items in
    let back = c.withdraw-series.ensures s joined.0 joined.2 in
    let its = c.in_ok-offer-in-Ok.ensures in
    let retired = c.self.inside.retired.items in
    let same = ap (roster_by lines retired c.self.inside.fills.items) c.replace-series.ensures.value ∙ c.self.view_is in
    roster_offered entrant.number entrant.policy entrant.name.now c.args.unplaced.now s c.in-Ok.prepared lines
    retired (drop (length s.placed) c.self.inside.fills.items) c.args.self.now same joined c.in_ok-offer-in-Ok.offer
    (its.placed ∙ ap (λ pair. pair.1) back)
    (its.line ∙ ap (line_by entrant.number entrant.name.now entrant.policy) (sym its.placed))

-- and the image is that of all with it
pub returns-in_ok-offer-in-Ok-clause-ordered : goal.returns-in_ok-offer-in-Ok-clause-ordered
returns-in_ok-offer-in-Ok-clause-ordered c =
    let entrant = c.args.entrant.now in
    let joined = c.in-Ok.ensures.ok in
    let s = c.replace-series.result in
    let lines = c.self.inside.lines.items in
    let back = c.withdraw-series.ensures s joined.0 joined.2 in
    let retired = c.self.inside.retired.items in
    let same = ap (roster_by lines retired c.self.inside.fills.items) c.replace-series.ensures.value ∙ c.self.view_is in
    offered_order entrant.number entrant.policy entrant.name.now c.args.unplaced.now s c.in-Ok.prepared lines
    retired (drop (length s.placed) c.self.inside.fills.items) c.args.self.now same joined c.in_ok-offer-in-Ok.offer
    (c.in_ok-offer-in-Ok.ensures.placed ∙ ap (λ pair. pair.1) back) c.in-Ok.image c.in-Ok.ensures.ordered

-- or it does not join
pub returns-in-Err-clause-fault : goal.returns-in-Err-clause-fault
returns-in-Err-clause-fault c =
    let m = c.args.unplaced.now in
    subst (λ (r : Roster). IsRefusedBy (series_of r) m c.in-Err.refused.fault) c.self.view_is
    (subst (λ (s : Series). IsRefusedBy s m c.in-Err.refused.fault) c.replace-series.ensures.value
    c.in-Err.ensures.fault)
