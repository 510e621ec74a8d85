use Rattle.std.proofs.Common.{◌≡◌, ◌<◌, Some, length, arith, ap, sym, ◌∙◌, rules}
use Rattle.cfi_report.proofs.WordLemmas.{pairs_in-end, pairs_in-stop, no_pair, no_single}
use Rattle.cfi_report.proofs.words.pairs.Goals as goal

pub returns-in_default-pair : goal.returns-in_default-pair
returns-in_default-pair c =
    let never = no_pair c.loop-rest.rest.now (omega arith)
    (λ byte fits digits. c.in_default-pair.not-Some byte (c.pair.ensures.only byte fits digits)) in
    rw (pairs_in-stop c.args.word.now c.loop-rest.bytes.items c.loop-rest.rest.now c.loop-rest.invariant never)

pub returns-then-not-is_empty : goal.returns-then-not-is_empty
returns-then-not-is_empty c =
    let some : 0 < length c.loop-rest.rest.now = search rules in
    let never = no_single c.loop-rest.rest.now (omega arith) some in
    rw (pairs_in-stop c.args.word.now c.loop-rest.bytes.items c.loop-rest.rest.now c.loop-rest.invariant never)

pub returns : goal.returns
returns c =
    let none : length c.loop-rest.rest.now ≡ 0 = search rules in
    ap Some c.from_vec.ensures ∙ sym (pairs_in-end c.args.word.now c.loop-rest.bytes.items c.loop-rest.rest.now
    c.loop-rest.invariant none)
