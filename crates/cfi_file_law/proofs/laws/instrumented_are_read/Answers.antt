use Rattle.std.proofs.Common.{List, ℕ, sym, subst}
use Rattle.cfi_aux.proofs.VersionLemmas.{records-later}
use Rattle.cfi_commands.specs.Reading.{IsModuleFile}
use Rattle.cfi_made_law.specs.Order.{module_of_file}
use Rattle.cfi_made_law.proofs.ReadLemmas.{IsFit, read-fit}
use Rattle.cfi_made_law.proofs.InstrLemmas.{object-fits}
use Rattle.cfi_made_law.proofs.InstrRecordLemmas.{spelled}
use Rattle.cfi_file_law.proofs.FileLemmas.{module-file}
use Rattle.cfi_file_law.proofs.laws.instrumented_are_read.Goals as goal

pub returns : goal.returns
returns c bytes file all is short =
    let source = is.unplaced in
    let read = is.is.is in
    let fit : IsFit source.object =
    subst IsFit (sym is.is.whole.object_kept)
    (read-fit bytes is.is.object all read (c.what_is_read_is_sound.ensures bytes is.is.object read)) in
    let good = records-later is.is.whole.parts.version source.types source.records is.is.whole.parts.good in
    subst (λ (xs : List ℕ). IsModuleFile xs (module_of_file is.out)) (sym is.written)
    (module-file c.written_is_read.ensures is.out (object-fits source is.out is.made fit)
    (spelled source is.out is.made is.is.whole.parts.table good))
