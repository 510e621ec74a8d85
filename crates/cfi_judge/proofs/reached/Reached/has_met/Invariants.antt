use Rattle.cfi_judge.proofs.HasMeetingLemmas.{NoneShows}
use Rattle.cfi_judge.proofs.reached.Reached.has_met.Given as goal

-- none of the rows so far says so
abbrev pub invariant-loop-policy : goal.invariant-loop-policy
invariant-loop-policy l = NoneShows l.least l.self.rows.items l.number l.kind l.policy
