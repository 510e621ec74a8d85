use Rattle.std.proofs.Common.{◌≡◌, ◌∙◌, ◌+◌, ◌-◌, ◌<◌, length, get_or, None, sym, ap, arith}
use Rattle.std.proofs.lemmas.List.{get_or_read}
use Rattle.cfi_fits.proofs.NearestLemmas.{candidate_past_fixed}
use Rattle.cfi_fits.proofs.nearest.candidate_of.Goals as goal

-- the one ahead has fixed arguments
pub returns-then-signatures-place : goal.returns-then-signatures-place
returns-then-signatures-place c =
    let signatures = c.args.signatures.now in
    let place = c.args.place in
    let next : (place - 1) + 1 ≡ place = omega (arith, c.if-place-eq0.false) in
    let within : place - 1 < length signatures = omega (arith, c.requires.place) in
    candidate_past_fixed signatures c.requires.order (place - 1) place (get_or c.args.nearest.now (place - 1) None) next
    c.requires.place
    (λ d. sym (ap (λ s. s.fixed) (get_or_read signatures (place - 1) c.index-signatures-place.result within
    c.index-signatures-place.is d)) ∙ ap (λ s. s.fixed) c.index-signatures-place.is ∙ c.if-signatures-place.true)
    (c.requires.nearest.each (place - 1) (omega (arith, next)))
