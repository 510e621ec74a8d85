use Rattle.std.proofs.Common.{◌∙◌}
use Rattle.cfi_instr.proofs.HomeLemmas.{together-found}
use Rattle.cfi_instr.proofs.home.are_together.Goals as goal

pub returns : goal.returns
returns c =
    c.has_both.ensures
    ∙ together-found c.args.functions.now c.requires c.args.a c.number_ending-number.result c.number_ending-number.ensures
    c.args.b
