use Rattle.std.proofs.Common.{rules}
use Rattle.cfi_instr.proofs.check.check.Goals as goal

pub returns-in_err-check_words-clause-fault : goal.returns-in_err-check_words-clause-fault
returns-in_err-check_words-clause-fault c =
    let due = c.in_err-check_words.ensures.fault c.args.unplaced.now in
    search rules
