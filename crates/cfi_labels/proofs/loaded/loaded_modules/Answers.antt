use Rattle.std.proofs.Common.{◌∙◌, length, take, sym, ap, arith}
use Rattle.std.proofs.lemmas.List.{length-take-le}
use Rattle.cfi_labels.proofs.LoadedLemmas.{count_within, places_first}
use Rattle.cfi_labels.proofs.loaded.loaded_modules.Goals as goal

pub slice_bounds-result-end : goal.slice_bounds-result-end
slice_bounds-result-end c =
    let r = c.args.roster.now in
    let within = count_within r c.requires.lined c.args.policy in
    let long = ap (λ modules. length modules) c.modules.ensures.value in
    sym (length-take-le c.count_by_policy-count.result c.modules.result.now
    (omega (arith, within, long, c.count_by_policy-count.ensures)))

pub returns-clause-is : goal.returns-clause-is
returns-clause-is c =
    let r = c.args.roster.now in
    ap (take c.count_by_policy-count.result) c.modules.ensures.value
    ∙ ap (λ n. take n r.placed) c.count_by_policy-count.ensures
    ∙ sym (places_first r c.requires.lined c.requires.order c.args.policy)

pub returns-clause-count : goal.returns-clause-count
returns-clause-count c =
    let r = c.args.roster.now in
    let within = count_within r c.requires.lined c.args.policy in
    let long = ap (λ modules. length modules) c.modules.ensures.value in
    length-take-le c.count_by_policy-count.result c.modules.result.now
    (omega (arith, within, long, c.count_by_policy-count.ensures))
    ∙ c.count_by_policy-count.ensures
