use Rattle.std.proofs.Common.{◌≤◌, List, ℕ, length, sym, subst}
use Rattle.std.proofs.lemmas.Result.{IfOk-weaker}
use Rattle.cfi_commands.proofs.InstrumentingLemmas.{read-of}
use Rattle.elf_read.specs.declared.rela.TheConstants.{MAX_FILE}
use Rattle.cfi_gen.proofs.files.file_of.Goals as goal

-- what is written is within the limits of a file
pub returns-clause-short : goal.returns-clause-short
returns-clause-short c =
    IfOk-weaker c.instrumented.result _ _
    (λ file is. subst (λ (bytes : List ℕ). length bytes ≤ MAX_FILE) (sym is.written)
    (c.limits_fit.ensures.short is.out.object
    (c.instrumented_are_within_limits.ensures is.unplaced is.out (read-of c.deref.result.now is.unplaced is.is) is.made)))
    c.instrumented.ensures.ok
