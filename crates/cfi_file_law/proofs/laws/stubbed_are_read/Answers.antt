use Rattle.std.proofs.Common.{ℕ, List, sym, subst}
use Rattle.cfi_commands.specs.Reading.{IsModuleFile}
use Rattle.cfi_made_law.specs.Order.{module_of_file}
use Rattle.cfi_file_law.proofs.FileLemmas.{module-file}
use Rattle.cfi_file_law.proofs.StubFileLemmas.{out-spelled, out-fits}
use Rattle.cfi_file_law.proofs.laws.stubbed_are_read.Goals as goal

pub returns : goal.returns
returns c bytes file all is short =
    let reads = c.what_is_read_is_sound.ensures in
    subst (λ (xs : List ℕ). IsModuleFile xs (module_of_file is.out)) (sym is.written)
    (module-file c.written_is_read.ensures is.out (out-fits reads bytes file is all) (out-spelled reads bytes file is))
