use Rattle.std.specs.Prelude.{IfNone, None, Option, Some}
use Rattle.std.proofs.lemmas.Option.{IfSome_then}
use Rattle.cfi_replay.proofs.EndLemmas.{begins_at, followed, unfollowed}
use Rattle.cfi_replay.proofs.parts.replayed.Goals as goal

-- no follower, no replay
none_then : {A : Type 0} (r : Option A) {P Q : Type 0} → IfNone r P → (P → Q) → IfNone r Q
none_then None none so = so none
none_then (Some x) none so = tt

pub returns-clause-some : goal.returns-clause-some
returns-clause-some c =
    let s = c.args.setting.now in
    let part = c.args.part.now in
    let begins = begins_at s c.requires.setting part c.start_modules-starts.result.now c.as_str.result.now
    c.in-Some.address c.start_modules-starts.ensures.is c.as_str.ensures c.in-Some.ensures.some in
    IfSome_then c.follow.result c.follow.ensures.some
    (λ m. followed s c.requires.setting part c.in-Some.address begins c.as_slice.result.now c.as_slice.ensures
    c.in_ok-machine.machine c.in_ok-machine.ensures m.state)

pub returns-clause-none : goal.returns-clause-none
returns-clause-none c =
    let s = c.args.setting.now in
    let part = c.args.part.now in
    let begins = begins_at s c.requires.setting part c.start_modules-starts.result.now c.as_str.result.now
    c.in-Some.address c.start_modules-starts.ensures.is c.as_str.ensures c.in-Some.ensures.some in
    none_then c.follow.result c.follow.ensures.none
    (unfollowed s c.requires.setting part c.in-Some.address begins c.as_slice.result.now c.as_slice.ensures
    c.in_ok-machine.machine c.in_ok-machine.ensures)
