use Rattle.std.proofs.Common.{◌∙◌, ◌-◌, arith}
use Rattle.std.proofs.lemmas.List.{get_or_read}
use Rattle.cfi_instr.proofs.EndLemmas.{carried-next, raised-ahead}
use Rattle.cfi_instr.proofs.ends.carry.Goals as goal

pub loop-w-preserved : goal.loop-w-preserved
loop-w-preserved c =
    let was = c.loop-w.invariant in
    let before = get_or_read c.loop-w.ends.items (c.loop-w.w - 1) c.index-before.result.now
    (omega (arith, c.loop-w-test.true, was.size, c.len-w-end.ensures)) c.index-before.ensures 0 in
    record {
      size = c.raise.ensures.len ∙ was.size;
      passed =
          carried-next c.args.ends.now.items c.loop-w.ends.items c.raise.new.ends.items c.loop-w.w c.index-before.result.now
          was.passed (omega (arith, c.loop-w.auto.w)) (omega (arith, c.loop-w-test.true, was.size, c.len-w-end.ensures))
          was.ahead before c.raise.ensures.each;
      ahead = raised-ahead _ _ _ c.loop-w.w _ was.ahead c.raise.ensures.each;
    }
