-- The views after the steps for a pass that the keeper holds.
use Rattle.std.proofs.Common.{◌-◌, ◌+◌, ◌≤◌, ℕ, ◌≡◌, [], slice_index, slice_set, false, Some, None, ap, subst, ◌∙◌}
use Rattle.cfi_tables.specs.Key.{Key}
use Rattle.cfi_tables.specs.Keeping.{heard_as}
use Rattle.cfi_tables.specs.Rule.{AgreesWith}
use Rattle.cfi_tables.specs.Views.{held_by, keeper_of, keeping_of, noted, parked, pass_of}
use Rattle.cfi_word.specs.Table.{quiet_word}
use Rattle.cfi_tables.proofs.HoldStepLemmas.{back}
use Rattle.cfi_tables.specs.inner.Steps.{IsHeard, Seated, cleared, registered, left_view, published, returned_view, seat_view, told}
use Rattle.cfi_tables.specs.declared.view.KeeperView.{KeeperView}
use Rattle.cfi_tables.specs.declared.view.PassView.{PassView}
use Rattle.cfi_tables.specs.declared.view.View.{View}
use Rattle.cfi_tables.specs.declared.view.View.TheVariants.{Keeper, Pass}

pub registered_view : (k : Key) (i guest : ℕ) (me new : Seated) (u : KeeperView) → me ≡ (Keeper u, [])
    → i ≡ quiet_word guest → new ≡ (Keeper (registered k (i - 1) (keeper_of me.0)), me.1)
    → new ≡ (Keeper (registered k guest u), [])
registered_view k i guest me new u is word_at goes =
    goes ∙ (ap (λ (z : Seated). (Keeper (registered k (i - 1) (keeper_of z.0)), z.1)) is
    ∙ ap (λ g. (Keeper (registered k g u), [])) (ap (λ n. n - 1) word_at ∙ back guest))

pub returned_to : (me new : Seated) (gone : View) (u : KeeperView) (p : PassView) → me ≡ (Keeper u, [])
    → gone ≡ Pass p → new ≡ (returned_view me.0 gone, me.1) → new ≡ (Keeper (record u { held = Some p }), [])
returned_to me new gone u p is there goes =
    goes ∙ ap (λ (z : Seated × View). (returned_view z.0.0 z.1, z.0.1)) (λ j. (is j, there j))

module _ (me : Seated) (u : KeeperView) (p : PassView) (is : me ≡ (Keeper (record u { held = Some p }), [])) where
  pub told_to : (k : Key) (new : Seated) → new ≡ (Keeper (told k (keeper_of me.0)), me.1)
      → new ≡ (
        Keeper (record u {
          quiets = heard_as p.guest (p.quiet + 1) u.quiets;
          held = Some (noted k (keeping_of u) p);
        }),
        [],
      )
  told_to k new goes = goes ∙ ap (λ (z : Seated). (Keeper (told k (keeper_of z.0)), z.1)) is

  pub agrees_to : (k : Key)
      → AgreesWith k (keeper_of me.0).entries (keeper_of me.0).refusals (held_by (keeper_of me.0).held).sight
      → AgreesWith k u.entries u.refusals p.sight
  agrees_to k = subst (λ (z : Seated). AgreesWith k (keeper_of z.0).entries (keeper_of z.0).refusals
      (held_by (keeper_of z.0).held).sight) is

  pub heard_to : IsHeard (keeper_of me.0) → slice_index u.quiets.heard p.guest ≤ p.quiet + 1
  heard_to = subst (λ (z : Seated). IsHeard (keeper_of z.0)) is

  pub left_to : (new : Seated) → new ≡ (left_view me.0, me.1) → new ≡ (Keeper (record u { held = None }), [])
  left_to new goes = goes ∙ ap (λ (z : Seated). (left_view z.0, z.1)) is

  pub seated_to : (new : Seated) → new ≡ (seat_view me.0, []) → new ≡ (Pass p, [])
  seated_to new goes = goes ∙ ap (λ (z : Seated). (seat_view z.0, [])) is

  pub cleared_to : (new : Seated) → new ≡ (Keeper (cleared (keeper_of me.0)), me.1)
      → new ≡ (
        Keeper (record u { out = slice_set u.out p.guest false; quiets = heard_as p.guest 0 u.quiets; held = None }),
        [],
      )
  cleared_to new goes = goes ∙ ap (λ (z : Seated). (Keeper (cleared (keeper_of z.0)), z.1)) is

-- after a guest has parked
pub parked_to : (me new : Seated) (p : PassView) → me ≡ (Pass p, []) → new ≡ (Pass (parked (pass_of me.0)), me.1)
    → new ≡ (Pass (parked p), [])
parked_to me new p is goes = goes ∙ ap (λ (z : Seated). (Pass (parked (pass_of z.0)), z.1)) is

-- and after a quiescent point
pub published_to : (me new : Seated) (p : PassView) → me ≡ (Pass p, []) → new ≡ (Pass (published (pass_of me.0)), me.1)
    → new ≡ (Pass (published p), [])
published_to me new p is goes = goes ∙ ap (λ (z : Seated). (Pass (published (pass_of z.0)), z.1)) is
