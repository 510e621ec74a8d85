use Rattle.std.proofs.Common.{◌≡◌, ◌≤◌, length, take}
use Rattle.std.specs.Prelude.{nat_le, filter}
use Rattle.cfi_plan.specs.declared.journal.ModuleLine.{ModuleLine}
use Rattle.cfi_ledger.proofs.roster.Roster.count_by_policy.Given as goal

-- the lines so far of such policies
abbrev pub invariant-loop-line : goal.invariant-loop-line
invariant-loop-line l =
    (l.count ≤ l.line-index)
    × (l.count ≡ length (filter (λ (line : ModuleLine). nat_le line.policy l.policy) (take l.line-index l.line-items)))
