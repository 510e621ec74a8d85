use Rattle.std.specs.Prelude.{◌≡◌, drop}
use Rattle.cfi_model.specs.Log.{pick_entries}
use Rattle.cfi_judge.proofs.steps.has_no_pick.Given as goal

-- the entries that are left have all picks
abbrev pub invariant-loop-entry : goal.invariant-loop-entry
invariant-loop-entry l = pick_entries l.log ≡ pick_entries (drop l.entry-index l.log)
