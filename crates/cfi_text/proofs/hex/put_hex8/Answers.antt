use Rattle.std.proofs.Common.{arith}
use Rattle.cfi_text.proofs.HexLemmas.{writes_hex-next}
use Rattle.cfi_text.proofs.hex.put_hex8.Goals as goal

pub loop-at-preserved : goal.loop-at-preserved
loop-at-preserved c = writes_hex-next _ _ _ _ c.loop-at.invariant c.loop-at-test.true c.byte_of.result (grind arith)
