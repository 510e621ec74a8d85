use Rattle.std.proofs.Common.{◌<◌, arith}
use Rattle.cfi_instr.specs.Words.{count_of}
use Rattle.cfi_instr.proofs.WideLemmas.{widened-grown, widened-still}
use Rattle.cfi_instr.proofs.reach.widen.Goals as goal
use Rattle.cfi_instr.proofs.reach.widen.Goals.{then-widen_at, else-widen_at}

pub loop-w-preserved : goal.loop-w-preserved
loop-w-preserved c =
    let t = c.args.source.now in
    let lt : c.loop-w.w < count_of t = omega (arith, c.loop-w-test.true, c.count-w-end.ensures) in
    elim c.if-widen_at.branch [
      | then-widen_at v ↦
          widened-grown t c.args.symbols.now c.args.offsets.now c.args.long.now.items c.loop-w.long.items
          c.widen_at.new.long.items c.loop-w.w c.loop-w.grew c.if-widen_at.grew c.loop-w.invariant lt
          c.widen_at.ensures.wider v.if-widen_at.ensures.grew v.grew-is
      | else-widen_at v ↦
          widened-still t c.args.symbols.now c.args.offsets.now c.args.long.now.items c.loop-w.long.items
          c.widen_at.new.long.items c.loop-w.w c.loop-w.grew c.if-widen_at.grew c.loop-w.invariant lt
          c.widen_at.ensures.wider v.if-widen_at.ensures.grew v.grew-is
    ]
