use Rattle.std.proofs.Common.{◌≡◌, Some, arith}
use Rattle.std.specs.List.{slice_get}
use Rattle.std.proofs.lemmas.List.Elements.{All-nil}
use Rattle.std.proofs.lemmas.Option.{slice_get_within}
use Rattle.cfi_model.specs.Data.{LiesInData}
use Rattle.cfi_unit.specs.declared.log.Log.TheVariants.{Cause, Open}
use Rattle.cfi_replay.proofs.PlaceLemmas.{next_policy_most}
use Rattle.cfi_replay.proofs.RestLemmas.{fold_above}
use Rattle.cfi_replay.proofs.setting.Setting.answer.Goals as goal

pub open-requires-clause-order : goal.open-requires-clause-order
open-requires-clause-order c =
    let next : slice_get c.args.log.now c.args.cursor.now.at
    ≡ Some (Open c.in-Some-Open.field-0-0 c.in-Some-Open.address c.in-Some-Open.policy) = cc in
    let most = next_policy_most c.args.self.now.force c.args.log.now c.args.cursor.now _ next c.requires.asks.rises in
    omega (arith, most.0, c.requires.asks.rises.given)

pub open-requires-clause-most : goal.open-requires-clause-most
open-requires-clause-most c =
    let next : slice_get c.args.log.now c.args.cursor.now.at
    ≡ Some (Open c.in-Some-Open.field-0-0 c.in-Some-Open.address c.in-Some-Open.policy) = cc in
    (next_policy_most c.args.self.now.force c.args.log.now c.args.cursor.now _ next c.requires.asks.rises).1

pub open-requires-clause-rises : goal.open-requires-clause-rises
open-requires-clause-rises c =
    let next : slice_get c.args.log.now c.args.cursor.now.at
    ≡ Some (Open c.in-Some-Open.field-0-0 c.in-Some-Open.address c.in-Some-Open.policy) = cc in
    let most = next_policy_most c.args.self.now.force c.args.log.now c.args.cursor.now _ next c.requires.asks.rises in
    omega (arith, most.0, c.requires.asks.at.policy_is)

pub answer-requires : goal.answer-requires
answer-requires c =
    let rises = c.requires.asks.rises in
    let least = fold_above c.args.cursor.now.policy _ rises.rises in
    record {
      waiting = c.requires.asks.waiting;
      inside = All-nil LiesInData;
      rises = omega (arith, c.requires.asks.at.policy_is);
      most = omega (arith, rises.most, least, c.requires.setting.few);
    }

pub answered-requires : goal.answered-requires
answered-requires c =
    let next : slice_get c.args.log.now c.args.cursor.now.at
    ≡ Some (Open c.in-Some-Open.field-0-0 c.in-Some-Open.address c.in-Some-Open.policy) = cc in
    slice_get_within c.args.log.now c.args.cursor.now.at _ next

pub answered-requires-in-Some-Cause : goal.answered-requires-in-Some-Cause
answered-requires-in-Some-Cause c =
    let next : slice_get c.args.log.now c.args.cursor.now.at
    ≡ Some (Cause c.in-Some-Cause.field-0-0 c.in-Some-Cause.cause) = cc in
    slice_get_within c.args.log.now c.args.cursor.now.at _ next
