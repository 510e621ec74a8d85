use Rattle.std.proofs.Common.{◌∙◌, ◌/◌, sym}
use Rattle.cfi_instr.specs.inner.Functions.{is_code}
use Rattle.cfi_instr.proofs.TableLemmas.{any-next}
use Rattle.cfi_instr.proofs.source.Source.has_code.Goals as goal

pub loop-w-preserved : goal.loop-w-preserved
loop-w-preserved c =
    c.loop-w.invariant
    ∙ any-next (is_code c.args.self.now) c.loop-w.w (c.args.b / 4) c.loop-w-test.true (sym c.if-is_code.ensures)
