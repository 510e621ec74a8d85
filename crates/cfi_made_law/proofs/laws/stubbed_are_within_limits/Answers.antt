use Rattle.cfi_made_law.proofs.WholeLemmas.{limits}
use Rattle.cfi_made_law.proofs.SpellingLemmas.{spelled-few}
use Rattle.cfi_made_law.proofs.StubWholeLemmas.{stubbed-small}
use Rattle.cfi_made_law.proofs.StubRecordLemmas.{stubbed-spelled, read-sound}
use Rattle.cfi_made_law.proofs.SourceLemmas.{read-source}
use Rattle.cfi_made_law.proofs.laws.stubbed_are_within_limits.Goals as goal

pub returns : goal.returns
returns c source out read none made =
    let reads = c.what_is_read_is_sound.ensures in
    let sound = read-sound reads source read in
    limits out.object (stubbed-small source out sound none made)
    (spelled-few out.object out.types out.records
    (stubbed-spelled source out read (read-source reads source read) sound none made))
