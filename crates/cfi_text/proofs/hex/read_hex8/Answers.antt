use Rattle.std.proofs.Common.{arith, rules, ap, Some}
use Rattle.cfi_text.proofs.HexLemmas.{reads_hex-next, reads_hex-only}
use Rattle.cfi_text.proofs.hex.read_hex8.Goals as goal

pub loop-c-preserved : goal.loop-c-preserved
loop-c-preserved c = reads_hex-next _ _ _ c.loop-c.invariant c.from.result (search rules) (grind arith) (grind arith)

pub returns-clause-only : goal.returns-clause-only
returns-clause-only c = λ value fits spelled.
    ap Some (reads_hex-only _ _ _ c.loop-c.invariant (grind arith) (grind arith) value fits spelled)
