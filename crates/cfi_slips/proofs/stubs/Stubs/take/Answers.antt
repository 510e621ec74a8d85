use Rattle.std.proofs.Common.{◌<◌, refl, sym, subst, ◌∙◌}
use Rattle.atomic_table.specs.Seated.{TableId}
use Rattle.cfi_slips.proofs.StepLemmas.{take_allowed}
use Rattle.cfi_slips.proofs.stubs.Stubs.take.Goals as goal

pub load-requires : goal.load-requires
load-requires g c =
    let h = c.hold.ensures in (
      h.table_is ∙ sym h.words_are,
      subst (λ (t : TableId). 0 < t.words) (sym h.words_are) h.some,
      take_allowed _ _ _ _ _ _ h.id_is h.me_is refl,
    )
