use Rattle.cfi_ledger.specs.Roster.{members_in_roster}
use Rattle.cfi_labels.proofs.SetLemmas.{AreSets}
use Rattle.cfi_labels.specs.Labels.{AreLabelsAt}
use Rattle.cfi_labels.proofs.labels.policy_labels.Given as goal

abbrev pub invariant-loop-policy : goal.invariant-loop-policy
invariant-loop-policy l = AreSets (AreLabelsAt (members_in_roster l.roster)) l.policy l.sets.items
