-- What is said of a plan.
use Rattle.std.specs.Prelude.{◌≡◌, ℕ, List, Ok}
use Rattle.cfi_plan.specs.declared.plan.Plan.{Plan}
use Rattle.cfi_plan.specs.Reading.{plan_in}

-- the bytes are a plan, and the text is what is said so of it and its files
pub record IsSaid (Says : Plan → (files : List (List ℕ)) → (text : List ℕ) → Type 0) (bytes : List ℕ)
    (files : List (List ℕ)) (text : List ℕ) : Type 0 where
  pub plan : Plan
  pub is : plan_in bytes ≡ Ok plan
  pub says : Says plan files text
