use Rattle.std.proofs.Common.{List, ℕ, sym, subst}
use Rattle.cfi_commands.specs.Reading.{IsModuleFile}
use Rattle.cfi_made_law.proofs.LinkLemmas.{linked-fits, linked-spelled}
use Rattle.cfi_file_law.proofs.FileLemmas.{module-file}
use Rattle.cfi_file_law.proofs.LinkFileLemmas.{fit-modules, read-modules, are-modules, as-it-is}
use Rattle.cfi_file_law.proofs.laws.linked_are_read.Goals as goal

pub returns : goal.returns
returns c files file all few is short =
    let sound = c.what_is_read_is_sound.ensures in
    let are = are-modules sound c.read_can_be_written.ensures.sized files is.modules is.are few in
    let fit = fit-modules sound files is.modules all is.are in
    let read = read-modules sound files is.modules is.are in
    let out = is.output in
    subst (λ (xs : List ℕ). IsModuleFile xs out) (sym is.written)
    (subst (IsModuleFile _) (as-it-is is.modules out is.made)
    (module-file c.written_is_read.ensures out (linked-fits is.modules are out is.made fit)
    (linked-spelled is.modules are out is.made read)))
