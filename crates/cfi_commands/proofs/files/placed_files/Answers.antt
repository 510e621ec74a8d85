use Rattle.std.proofs.lemmas.Result.{err_from_is_err_and}
use Rattle.cfi_commands.proofs.FileLemmas.{modules_as_files}
use Rattle.cfi_commands.proofs.files.placed_files.Goals as goal

-- a file is no module
pub returns-in_err-modules-clause-fault : goal.returns-in_err-modules-clause-fault
returns-in_err-modules-clause-fault c =
    let p = err_from_is_err_and c.from_residual.result c.from_residual.ensures.1 in
    rw (p.1, p.2)
    (modules_as_files c.args.plan.now.code_words c.args.files _ c.in_err-modules.ensures.fault)
