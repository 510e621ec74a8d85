use Rattle.std.proofs.Common.{◌≡◌, ◌≢◌, ◌∙◌, Some, true, rules, sym, ap, subst}
use Rattle.std.specs.Prelude.{slice_get}
use Rattle.std.proofs.Math.Bool.{true≢false}
use Rattle.std.proofs.lemmas.Option.{slice_get-get_or, get_or_from_slice_get}
use Rattle.cfi_graph.specs.Shaped.{IsShaped}
use Rattle.cfi_retire.proofs.UserLemmas.{is_user, user_jumps}
use Rattle.cfi_retire.proofs.user.is_user.Goals as goal

pub jumps_into-requires-clause-shaped : goal.jumps_into-requires-clause-shaped
jumps_into-requires-clause-shaped c =
    subst IsShaped (sym c.index-modules-number.is) (c.requires.shaped c.args.number _ c.requires.number)

pub jumps_into-requires-clause-ends : goal.jumps_into-requires-clause-ends
jumps_into-requires-clause-ends c =
    let shaped = subst IsShaped (sym c.index-modules-target.is) (c.requires.shaped c.args.target _ c.requires.target) in
    shaped.1.ends

-- a live module other than the target
pub returns-then-live-number : goal.returns-then-live-number
returns-then-live-number c =
    let ms = c.args.modules.now in
    let live = c.args.live.now in
    let number = c.args.number in
    let target = c.args.target in
    let other : number ≢ target = search rules in
    let lives : slice_get live number ≡ Some true =
    slice_get-get_or live number _ (search rules) ∙ ap (λ b. Some b) c.if-live-number.true in (
      λ yes. is_user ms live target number c.index-modules-number.result c.index-modules-target.result
          c.index-modules-number.is c.index-modules-target.is c.requires.number c.requires.target other lives
          (c.jumps_into.ensures.0 yes),
      λ user. c.jumps_into.ensures.1
          (user_jumps ms live target number c.index-modules-number.result c.index-modules-target.result
          c.index-modules-number.is c.index-modules-target.is user),
    )

-- one that is not live
pub returns-else-live-number : goal.returns-else-live-number
returns-else-live-number c = (
  λ yes. absurd (true≢false (sym yes ∙ c.if-live-number.false)),
  λ user. get_or_from_slice_get c.args.live.now c.args.number true _ user.lives,
)
