use Rattle.std.proofs.Common.{refl, sym, ap, subst, ◌∙◌}
use Rattle.cfi_model.specs.Phases.{phase_of}
use Rattle.cfi_model.specs.Quiet.{admits}
use Rattle.cfi_model.specs.World.{quiet_of}
use Rattle.cfi_model.specs.Words.{next_epoch}
use Rattle.cfi_world.specs.Worlds.{IsWorld}
use Rattle.cfi_world.specs.inner.Kept.{kept_world}
use Rattle.cfi_world.proofs.WorldLemmas.{passed_all, testing_is}
use Rattle.cfi_world.proofs.world.World.test.Goals as goal

-- the QUIET word has let the update go on
pub invariant_of-self : goal.invariant_of-self
invariant_of-self c =
    let w = kept_world c.self.inside in
    let t = c.self.inside.tables.tables in
    let phase = ap (λ x. phase_of x.tables) c.self.view_is ∙ c.requires in
    let same = testing_is w c.self.invariant t.asked t.tested t.code_words t.stored c.args.guest phase in
    let lets = sym (ap (λ v. admits v c.next_epoch.result (quiet_of w c.args.guest)) c.versions.ensures.value
    ∙ ap (λ e. admits t.versions e (quiet_of w c.args.guest)) c.next_epoch.ensures
    ∙ ap (λ g. admits t.versions (next_epoch t) (quiet_of w g)) same) ∙ sym c.admits.ensures ∙ c.if-not-admits.false in
    subst (λ h. IsWorld (record w { tables = h.tables; room = h.room })) (sym c.pass.ensures)
    (passed_all w c.self.invariant t.asked refl lets)
