-- The spans of the entries of a log, while it is gone through.
use Rattle.std.specs.Prelude.{◌≡◌, ℕ, ◌+◌, ◌≤◌, List, take, drop}
use Rattle.cfi_model.specs.Log.{last_policy}
use Rattle.cfi_unit.specs.declared.log.Log.{Log}
use Rattle.cfi_valid.specs.Log.{next_policy}
use Rattle.cfi_judge.specs.declared.span.Ahead.{Ahead}
use Rattle.cfi_judge.specs.declared.span.Span.{Span}

-- the bounds are those of the span of the entry at a place
pub record IsSpan (force : ℕ) (log : List Log) (at : ℕ) (span : Span) : Type 0 where
  pub least : span.least ≡ last_policy (take at log)
  pub most : span.most ≡ next_policy force (drop (at + 1) log)

-- the policy is the next one from each place on, from this one up to its own
abbrev pub IsAhead : (force : ℕ) → List Log → (from : ℕ) → Ahead → Type 0
IsAhead force log from ahead =
    (k : ℕ) → from ≤ k → k ≤ ahead.place → next_policy force (drop k log) ≡ ahead.policy
