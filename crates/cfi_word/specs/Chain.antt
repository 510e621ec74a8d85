-- Chains of edges (MCFI, PLDI 2014: overlapping sets of targets are merged).
-- A chain goes from a branch slot to a target, back to a slot that shares the target, on to another target, and so on.
use Rattle.std.specs.Prelude.{ℕ, zero, suc}

-- a chain of so many more edges than one, over the relation of slots and addresses
abbrev pub ChainOf : (joins : (slot address : ℕ) → Type 0) → (more slot address : ℕ) → Type 0
ChainOf joins zero slot address = joins slot address
ChainOf joins (suc more) slot address =
    (shared : ℕ) × (other : ℕ) × joins slot shared × joins other shared × ChainOf joins more other address

-- some chain leads from the slot to the address
pub record Chain (joins : (slot address : ℕ) → Type 0) (slot address : ℕ) : Type 0 where
  pub more : ℕ
  pub chain : ChainOf joins more slot address
