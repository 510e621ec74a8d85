use Rattle.std.proofs.Common.{◌≡◌, true, sym, ap, subst, ◌∙◌}
use Rattle.cfi_model.specs.Phases.{phase_of}
use Rattle.cfi_world.specs.Worlds.{IsWorld}
use Rattle.cfi_world.specs.inner.Kept.{kept_world}
use Rattle.cfi_world.proofs.StoringLemmas.{is_storing, stores_by}
use Rattle.cfi_world.proofs.WorldLemmas.{stored_kept}
use Rattle.cfi_world.proofs.world.World.update.Goals as goal

-- a store was made
pub invariant_of-self : goal.invariant_of-self
invariant_of-self c =
    let w = kept_world c.self.inside in
    let storing : is_storing (phase_of c.self.inside.tables.tables) ≡ true =
    ap is_storing (sym c.phase.ensures) ∙ stores_by c.phase.result c.in_default.not-Idle c.in_default.not-Testing in
    subst (λ h. IsWorld (record w { tables = h.tables; room = h.room })) (sym c.store.ensures)
    (stored_kept w c.self.invariant storing)
