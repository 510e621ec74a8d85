use Rattle.std.proofs.Common.{◌≡◌, ◌≢◌, true, Option, None, is_some, sym, ap, ◌∙◌}
use Rattle.std.proofs.lemmas.Bool.{false≢true}
use Rattle.cfi_replay.proofs.EndLemmas.{end_from, end_to}
use Rattle.cfi_replay.proofs.ended.has_ended.Goals as goal

-- what is some is not none
not_none : {A : Type 0} (o : Option A) → is_some o ≡ true → o ≢ None
not_none {A = A} o some none = false≢true (sym (ap (λ (x : Option A). is_some x) none) ∙ some)

pub returns-then-is_some : goal.returns-then-is_some
returns-then-is_some c = λ course comes.
    let part = c.args.part.now in
    let last = c.args.machine.now.state in
    let stopped = not_none part.stop (sym c.is_some.ensures ∙ c.if-is_some.true) in (
      λ has. end_to course part last comes stopped (c.has_end.ensures.0 has),
      λ ended. c.has_end.ensures.1 (end_from course part last comes ended),
    )
