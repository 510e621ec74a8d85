use Rattle.std.proofs.Common.{◌≡◌, refl, false, rules}
use Rattle.cfi_replay.specs.Setting.{members_in}
use Rattle.cfi_replay.proofs.RunLemmas.{stuck_for_good}
use Rattle.cfi_replay.proofs.StartLemmas.{starts_follow}
use Rattle.cfi_replay.proofs.parts.follow.Goals as goal

pub loop-turn-init : goal.loop-turn-init
loop-turn-init c = record {
  replayed = refl;
  follows = starts_follow c.args.setting.now c.args.log.now c.open-cursor.result c.args.start c.requires.can
      c.requires.starts c.open-cursor.ensures;
  counted = c.requires.starts.units;
}

pub returns-then-not-go-clause-none : goal.returns-then-not-go-clause-none
returns-then-not-go-clause-none c = λ last all.
    let s = c.args.setting.now in
    let no_result : c.go.result ≡ false = search rules in
    stuck_for_good s.code.now (members_in s) c.args.log.now c.loop-turn._turn c.args.units c.args.start.state
    c.loop-turn.machine.state last c.loop-turn.invariant.replayed (c.go.ensures.stuck no_result) c.loop-turn-test.true
    all
