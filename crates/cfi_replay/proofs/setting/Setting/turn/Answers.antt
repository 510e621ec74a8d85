use Rattle.std.proofs.Common.{false, Option, Some, None, is_some, sym, ◌≡◌, ◌∙◌}
use Rattle.std.specs.Prelude.{IfNone}
use Rattle.std.proofs.lemmas.Bool.{false≢true}
use Rattle.cfi_replay.proofs.GoLemmas.{can_turn, labels_within, turned}
use Rattle.cfi_replay.proofs.setting.Setting.turn.Goals as goal

-- what is claimed where there is none
none_there : {A : Type 0} {P : Type 0} (found : Option A) → is_some found ≡ false → IfNone found P → P
none_there (Some x) none claim = absurd (false≢true (sym none))
none_there None none claim = claim

pub bounds-self-policy : goal.bounds-self-policy
bounds-self-policy c =
    labels_within c.args.self.now c.args.log.now c.args.cursor.now c.requires.setting c.args.machine.now
    c.requires.follows c.next_policy-policy.result c.next_policy-policy.ensures

pub turn-requires : goal.turn-requires
turn-requires c =
    can_turn c.args.self.now c.args.log.now c.args.cursor.now c.requires.setting c.args.machine.now c.requires.follows
    c.next_policy-policy.result c.next_policy-policy.ensures c.requires.going c.requires.few

pub returns-clause-yes : goal.returns-clause-yes
returns-clause-yes c = λ some.
    turned c.args.self.now c.args.log.now c.args.cursor.now c.requires.setting c.args.machine.now c.requires.follows
    c.next_policy-policy.result c.next_policy-policy.ensures c.requires.going c.index-self-policy.result
    c.turn.new.self c.turn.result (sym c.is_some.ensures ∙ some) c.turn.ensures.some

pub returns-clause-no : goal.returns-clause-no
returns-clause-no c = λ none. none_there c.turn.result (sym c.is_some.ensures ∙ none) c.turn.ensures.none
