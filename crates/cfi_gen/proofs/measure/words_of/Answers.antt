use Rattle.std.proofs.Common.{◌≡◌, length, arith, rules}
use Rattle.cfi_word.specs.declared.map.TheConstants.{FIRST_BASE}
use Rattle.cfi_gen.proofs.MeasureLemmas.{words_last}
use Rattle.cfi_gen.proofs.measure.words_of.Goals as goal

-- the last one ends behind the first word
pub overflow_sub-result : goal.overflow_sub-result
overflow_sub-result c =
    let last = c.in-Some.last.now in
    let all = words_last c.args.placed.now last c.requires c.in-Some.ensures.item.3.0 c.in-Some.ensures.item.1 in
    let count : length c.as_slice.result.now ≡ length last.words = search rules in
    let base : c.from.result ≡ last.base = search rules in
    let first : c.from-in-Some.result ≡ FIRST_BASE = search rules in
    omega (arith, all, count, base, first)

pub returns-in-Some : goal.returns-in-Some
returns-in-Some c =
    let last = c.in-Some.last.now in
    let all = words_last c.args.placed.now last c.requires c.in-Some.ensures.item.3.0 c.in-Some.ensures.item.1 in
    let count : length c.as_slice.result.now ≡ length last.words = search rules in
    let base : c.from.result ≡ last.base = search rules in
    let first : c.from-in-Some.result ≡ FIRST_BASE = search rules in
    omega (arith, all, count, base, first)
