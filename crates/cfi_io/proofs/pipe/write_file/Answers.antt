use Rattle.std.proofs.Common.{arith}
use Rattle.cfi_io.proofs.ToldLemmas.{Appends-take, take-rest}
use Rattle.cfi_io.proofs.pipe.write_file.Goals as goal

pub loop-done-preserved : goal.loop-done-preserved
loop-done-preserved g c = record {
  within = omega (arith, c.in_ok-count.ensures.bound);
  written = Appends-take _ _ _ _ _ _ _ c.loop-done.invariant.written
      (take-rest c.args.bytes.now c.loop-done.done) c.in_ok-count.ensures.bytes;
}
