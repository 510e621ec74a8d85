use Rattle.cfi_graph.specs.Live.{HasNoUserBelow}
use Rattle.cfi_retire.proofs.user.user_of.Given as goal

abbrev pub invariant-loop-number : goal.invariant-loop-number
invariant-loop-number l = HasNoUserBelow l.modules l.live l.target l.number
