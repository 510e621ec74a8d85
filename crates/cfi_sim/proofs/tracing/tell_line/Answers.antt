use Rattle.std.proofs.Common.{ℕ, List, ◌++◌, false, refl, ap, ◌∙◌}
use Rattle.cfi_sim.specs.Trace.{heading_text}
use Rattle.cfi_sim.proofs.FollowLemmas.{none_follows, line_stuck}
use Rattle.cfi_sim.proofs.TraceLemmas.{line_told, no_line}
use Rattle.cfi_sim.proofs.tracing.tell_line.Goals as goal

-- the line is none
pub returns-in_default-clause-fault : goal.returns-in_default-clause-fault
returns-in_default-clause-fault c = (
  refl,
  none_follows c.args.standing.now c.args.text.now c.read.result c.read.ensures.some c.read.ensures.only
      c.in_default.is,
)

-- it makes nothing
pub returns-then-not-made-clause-fault : goal.returns-then-not-made-clause-fault
returns-then-not-made-clause-fault c = (
  refl,
  line_stuck c.args.standing.now c.args.text.now c.read.result c.read.ensures.some c.read.ensures.only c.in-Some.line
      c.in-Some.is c.tell_line.new.self false refl
      (no_line c.args.standing.now c.tell_line.new.self c.in-Some.line c.put_heading.new.out.items
      c.tell_line.new.out.items c.in_ok-made.made c.if-not-made.true c.in_ok-made.ensures),
)

pub returns-clause-ok : goal.returns-clause-ok
returns-clause-ok c =
    line_told c.args.standing.now c.args.number c.args.text.now c.read.result c.read.ensures.some c.in-Some.line
    c.in-Some.is c.tell_line.new.self c.args.out.now.items c.put_heading.new.out.items c.tell_line.new.out.items
    c.in_ok-made.made c.if-not-made.false
    (c.in_ok-put_heading.ensures
    ∙ ap (λ (s : List ℕ). c.args.out.now.items ++ heading_text c.args.number s c.in-Some.line) c.statement.ensures)
    c.in_ok-made.ensures
