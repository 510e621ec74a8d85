use Rattle.std.proofs.Common.{◌≡◌, ◌+◌, ◌≤◌, ◌^◌, length, ap, arith, rules}
use Rattle.cfi_gen.specs.Measure.{branches_in}
use Rattle.cfi_gen.proofs.MeasureLemmas.{branches_last, branches_fit}
use Rattle.cfi_gen.proofs.measure.branches_of.Goals as goal

-- the last one's slots are below those of a check a word
pub overflow_add-result : goal.overflow_add-result
overflow_add-result c =
    let last = c.in-Some.last.now in
    let fits = branches_fit c.args.placed.now last c.requires c.in-Some.ensures.item.3.0 c.in-Some.ensures.item.1 in
    let count : length c.as_slice.result.now ≡ length last.branches = search rules in
    let base : c.from.result ≡ last.slot_base = search rules in
    omega (arith, fits, count, base)

pub returns-in-Some : goal.returns-in-Some
returns-in-Some c =
    let last = c.in-Some.last.now in
    let all = branches_last c.args.placed.now last c.requires c.in-Some.ensures.item.3.0 c.in-Some.ensures.item.1 in
    let count : length c.as_slice.result.now ≡ length last.branches = search rules in
    let base : c.from.result ≡ last.slot_base = search rules in
    omega (arith, all, count, base)
