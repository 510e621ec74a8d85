-- The line of an answer.
use Rattle.std.proofs.Common.{◌≡◌, ℕ, Bool, true, false, Some, refl, ap, ◌∙◌}
use Rattle.std.specs.Prelude.{if◌then◌else◌}
use Rattle.cfi_plan.specs.declared.journal.JournalLine.TheVariants.{LoadOk, LoadAgain}
use Rattle.cfi_tables.specs.declared.fault.UpdateFault.{UpdateFault}
use Rattle.cfi_tables.specs.declared.fault.UpdateFault.TheVariants.{EpochsSpent, VersionsSpent}
use Rattle.cfi_loader.specs.declared.loaded.Loaded.{Loaded}
use Rattle.cfi_loader.specs.Results.{loaded_line, fault_line}
use Rattle.cfi_loader.specs.inner.Loads.{load_fault_by, update_line}

-- the line of an answer
pub line_new : (number : ℕ) (answer : Loaded) (epoch policy : ℕ) → answer.again ≡ false → answer.epoch ≡ epoch
    → answer.policy ≡ policy → loaded_line number answer ≡ LoadOk number epoch policy
line_new number answer epoch policy again epoch_is policy_is =
    ap (λ (b : Bool). if b then LoadAgain number answer.policy else LoadOk number answer.epoch answer.policy) again
    ∙ ap (λ (n : ℕ). LoadOk number n answer.policy) epoch_is
    ∙ ap (λ (n : ℕ). LoadOk number epoch n) policy_is

pub line_again : (number : ℕ) (answer : Loaded) (policy : ℕ) → answer.again ≡ true → answer.policy ≡ policy
    → loaded_line number answer ≡ LoadAgain number policy
line_again number answer policy again policy_is =
    ap (λ (b : Bool). if b then LoadAgain number answer.policy else LoadOk number answer.epoch answer.policy) again
    ∙ ap (λ (n : ℕ). LoadAgain number n) policy_is

-- a refused update says as much of a load
pub line_refused : (number : ℕ) (fault : UpdateFault)
    → fault_line number (load_fault_by fault) ≡ Some (update_line number fault)
line_refused number EpochsSpent = refl
line_refused number (VersionsSpent guest quiet) = refl
