-- One line of a journal, as far as the lines of a report's modules follow.
use Rattle.std.specs.Prelude.{ℕ, List, ◌∷◌, drop, Option, Some, None}
use Rattle.cfi_aux.specs.declared.modules.Module.{Module}
use Rattle.cfi_plan.specs.declared.journal.ModuleLine.{ModuleLine}
use Rattle.cfi_plan.specs.declared.plan.Plan.{Plan}
use Rattle.cfi_valid.specs.Loaded.{LoadedModule}
use Rattle.cfi_judge.specs.declared.entries.Change.{Change}
use Rattle.cfi_judge.specs.declared.modules.Followed.{Followed}
use Rattle.cfi_judge.specs.inner.Next.{GoesOn}
use Rattle.cfi_judge.specs.inner.Told.{Follow}

-- what a line changes leads so far; nowhere where the rest cannot follow
abbrev pub Comes : Plan → List Module → (before : List LoadedModule) → (gone : List ℕ) → Change → List ModuleLine
    → (old : Followed) → Option Followed → Type 0
Comes plan modules before gone change lines old (Some new) =
    GoesOn plan modules before gone change (drop old.at lines) new.next (drop new.at lines)
Comes plan modules before gone change lines old None =
    (more : List Change) → ¬ Follow plan modules before gone (change ∷ more) (drop old.at lines)
