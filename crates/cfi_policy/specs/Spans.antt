-- Few edges in place of many: a relation between slots and addresses that has the chains of another one.
use Rattle.std.specs.Prelude.{ℕ}
use Rattle.cfi_word.specs.Chain.{Chain}

-- each of the few edges is one of the many, and each of the many is a chain of the few
pub record Spans (few many : (slot address : ℕ) → Type 0) : Type 0 where
  pub sound : (slot address : ℕ) → few slot address → many slot address
  pub whole : (slot address : ℕ) → many slot address → Chain few slot address
