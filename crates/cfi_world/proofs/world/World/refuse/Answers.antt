use Rattle.std.proofs.Common.{sym, subst}
use Rattle.cfi_model.specs.declared.quiet.Quiet.TheVariants.{Published}
use Rattle.cfi_world.specs.Worlds.{IsWorld}
use Rattle.cfi_world.specs.inner.Kept.{kept_world}
use Rattle.cfi_world.proofs.WorldLemmas.{refused_kept}
use Rattle.cfi_world.proofs.world.World.refuse.Goals as goal

-- the update was dropped
pub invariant_of-self : goal.invariant_of-self
invariant_of-self c =
    subst (λ h. IsWorld (record (kept_world c.self.inside) { tables = h.tables; room = h.room })) (sym c.refuse.ensures)
    (refused_kept (kept_world c.self.inside) c.self.invariant c.args.guest (Published c.in-Published.quiet))
