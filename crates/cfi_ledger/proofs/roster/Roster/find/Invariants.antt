use Rattle.std.proofs.Common.{◌≢◌, ℕ, ◌<◌, get_or}
use Rattle.cfi_plan.specs.declared.journal.ModuleLine.{ModuleLine}
use Rattle.cfi_ledger.proofs.roster.Roster.find.Given as goal

-- none of the lines so far has the number
abbrev pub invariant-loop-at : goal.invariant-loop-at
invariant-loop-at l = (k : ℕ) (d : ModuleLine) → k < l.at → (get_or l.self.lines k d).number ≢ l.number
