use Rattle.std.proofs.Common.{length, ap, sym, ◌∙◌, arith}
use Rattle.cfi_types.proofs.BackLemmas.{back_more}
use Rattle.cfi_types.proofs.extending.back_of.Goals as goal

pub loop-place-preserved : goal.loop-place-preserved
loop-place-preserved c =
    let own = c.args.own.now in
    let kept = c.args.kept.now in
    let numbers = c.args.numbers.now in
    let i = c.loop-place.place in
    let shape = c.requires.shape i c.loop-place-test.true in
    back_more own kept numbers i c.loop-place.back.items c.put_back.new.back.items c.row.result.now
    c.row-in-loop-place.result.now (omega (arith, c.loop-place-test.true, c.requires.few)) c.row.ensures
    c.row-in-loop-place.ensures (ap length c.row-in-loop-place.ensures ∙ sym shape ∙ sym (ap length c.row.ensures))
    c.requires.order c.loop-place.invariant c.in_ok-put_back.ensures
