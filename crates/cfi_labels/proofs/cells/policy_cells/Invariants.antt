use Rattle.std.proofs.Common.{◌≡◌, ℕ, List}
use Rattle.cfi_ledger.specs.Roster.{members_in_roster}
use Rattle.cfi_unit.specs.declared.fill.Fill.{Fill}
use Rattle.cfi_valid.specs.Loaded.{cells_at}
use Rattle.cfi_labels.proofs.SetLemmas.{AreSets}
use Rattle.cfi_labels.proofs.cells.policy_cells.Given as goal

abbrev pub invariant-loop-policy : goal.invariant-loop-policy
invariant-loop-policy l =
    AreSets (λ (policy : ℕ) (cells : List Fill). cells ≡ cells_at policy (members_in_roster l.roster)) l.policy
    l.sets.items
