use Rattle.std.proofs.Common.{◌≡◌, ◌≢◌, ◌+◌, true, sym, subst, ◌∙◌, rules, arith}
use Rattle.cfi_word.specs.declared.limits.TheConstants.{MAX_EPOCH}
use Rattle.cfi_model.specs.Phases.{phase_of}
use Rattle.cfi_model.specs.Words.{epoch_in_force}
use Rattle.cfi_world.specs.Premises.{HasRoom}
use Rattle.cfi_world.specs.Updates.{is_idle}
use Rattle.cfi_world.specs.Worlds.{IsWorld}
use Rattle.cfi_world.specs.inner.Kept.{kept_world}
use Rattle.cfi_world.proofs.UpdateLemmas.{begun_is}
use Rattle.cfi_world.proofs.StoringLemmas.{idle_is}
use Rattle.cfi_world.proofs.WorldLemmas.{begun_kept}
use Rattle.cfi_world.proofs.world.World.begin.Goals as goal

-- an epoch is left
pub begin-requires-clause-fits : goal.begin-requires-clause-fits
begin-requires-clause-fits c =
    let idle : is_idle (phase_of c.self.inside.tables.tables) ≡ true =
    sym c.is_idle.ensures ∙ c.if-not-is_idle.false in
    let has : HasRoom (kept_world c.self.inside) c.args.image =
    subst (λ w. HasRoom w c.args.image) (sym c.self.view_is) c.requires in
    let left : epoch_in_force c.self.inside.tables.tables ≢ MAX_EPOCH =
    λ last. c.if-epoch-eq-MAX_EPOCH.false (c.epoch.ensures ∙ last) in
    (begun_is c.self.inside.tables.tables c.self.invariant.tables c.args.image
    (idle_is c.self.inside.tables.tables idle) has.may left).asked_fits.fits

-- updates are fewer than there is room for
pub overflow_add-self : goal.overflow_add-self
overflow_add-self c =
    let has : HasRoom (kept_world c.self.inside) c.args.image =
    subst (λ w. HasRoom w c.args.image) (sym c.self.view_is) c.requires in
    let few = has.room in
    let fits = c.self.invariant.room_fits in
    search (rules, arith)

pub invariant_of-self : goal.invariant_of-self
invariant_of-self c =
    let idle : is_idle (phase_of c.self.inside.tables.tables) ≡ true =
    sym c.is_idle.ensures ∙ c.if-not-is_idle.false in
    let has : HasRoom (kept_world c.self.inside) c.args.image =
    subst (λ w. HasRoom w c.args.image) (sym c.self.view_is) c.requires in
    let left : epoch_in_force c.self.inside.tables.tables ≢ MAX_EPOCH =
    λ last. c.if-epoch-eq-MAX_EPOCH.false (c.epoch.ensures ∙ last) in
    subst (λ h. IsWorld (record (kept_world c.self.inside) {
      tables = h.tables;
      room = h.room;
      updates = c.self.inside.updates + 1;
    })) (sym c.begin.ensures)
    (begun_kept (kept_world c.self.inside) c.self.invariant c.args.image has idle left)
