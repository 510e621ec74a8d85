use Rattle.cfi_made_law.proofs.WholeLemmas.{limits}
use Rattle.cfi_made_law.proofs.SpellingLemmas.{spelled-few}
use Rattle.cfi_made_law.proofs.InstrLemmas.{object-small}
use Rattle.cfi_made_law.proofs.InstrRecordLemmas.{spelled}
use Rattle.cfi_made_law.proofs.SourceLemmas.{small-source, read-source}
use Rattle.cfi_made_law.proofs.laws.instrumented_are_within_limits.Goals as goal

pub returns : goal.returns
returns c source out read made =
    limits out.object (object-small source out made (small-source c.what_is_read_is_sound.ensures source read))
    (spelled-few out.object out.types out.records
    (spelled source out made read.whole.parts.table (read-source c.what_is_read_is_sound.ensures source read).records))
