use Rattle.cfi_retire.proofs.LiveListLemmas.{GivesLive}
use Rattle.cfi_retire.proofs.live.live_list.Given as goal

abbrev pub invariant-loop-number : goal.invariant-loop-number
invariant-loop-number l = GivesLive l.modules l.live l.number l.list.items
