use Rattle.std.proofs.lemmas.List.Elements.{All-weaker}
use Rattle.cfi_made_law.specs.Read.{IsReadOf}
use Rattle.cfi_made_law.proofs.WholeLemmas.{limits}
use Rattle.cfi_made_law.proofs.SpellingLemmas.{spelled-few}
use Rattle.cfi_made_law.proofs.LinkLemmas.{IsReadModule, linked-small, linked-spelled}
use Rattle.cfi_made_law.proofs.SourceLemmas.{read-source}
use Rattle.cfi_made_law.proofs.laws.linked_are_within_limits.Goals as goal

pub returns : goal.returns
returns c modules output read are linked =
    limits output.object (linked-small modules are output linked)
    (spelled-few output.object output.types output.records
    (linked-spelled modules are output linked
    (All-weaker IsReadOf IsReadModule (read-source c.what_is_read_is_sound.ensures) modules read)))
