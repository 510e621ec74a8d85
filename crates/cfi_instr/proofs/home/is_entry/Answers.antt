use Rattle.std.proofs.Common.{◌∙◌}
use Rattle.cfi_instr.proofs.HomeLemmas.{entry-found}
use Rattle.cfi_instr.proofs.home.is_entry.Goals as goal

pub returns : goal.returns
returns c =
    c.begins_at.ensures
    ∙ entry-found c.args.functions.now c.requires c.args.offset c.number_beginning-number.result
    c.number_beginning-number.ensures
