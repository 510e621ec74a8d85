-- The next policy that a log tells, place by place.
use Rattle.std.proofs.Common.{◌≡◌, ℕ, ◌+◌, ◌<◌, ◌≤◌, List, length, drop, ap, ◌∙◌, ⊎_elim, arith}
use Rattle.std.proofs.lemmas.Bool.{cases_lt}
use Rattle.std.proofs.lemmas.List.{drop_all}
use Rattle.cfi_unit.specs.declared.log.Log.{Log}
use Rattle.cfi_valid.specs.Log.{next_policy}
use Rattle.cfi_judge.specs.inner.Span.{IsAhead}

module _ (force : ℕ) (log : List Log) (from : ℕ) where
  -- between these places no policy is logged
  abbrev pub IsSameTo : (place : ℕ) → Type 0
  IsSameTo place =
      (k : ℕ) → from ≤ k → k ≤ place → next_policy force (drop k log) ≡ next_policy force (drop place log)

  pub same_here : IsSameTo from
  same_here = λ k least most.
      let here : k ≡ from = omega (arith, least, most) in
      ap (λ (n : ℕ). next_policy force (drop n log)) here

  module _ (place : ℕ) (same : IsSameTo place) where
    -- an entry that tells one
    pub ahead_here : (policy : ℕ) → next_policy force (drop place log) ≡ policy
        → IsAhead force log from (record { policy = policy; place = place })
    ahead_here policy is = λ k least most. same k least most ∙ is

    -- or none
    pub same_next : next_policy force (drop place log) ≡ next_policy force (drop (place + 1) log)
        → IsSameTo (place + 1)
    same_next past = λ k least most. ⊎_elim
        (λ (early : k < place + 1). same k least (omega (arith, early)) ∙ past)
        (λ (late : place + 1 ≤ k).
        let here : k ≡ place + 1 = omega (arith, most, late) in
        ap (λ (n : ℕ). next_policy force (drop n log)) here)
        (cases_lt k (place + 1))

    -- or no entry is left
    pub ahead_end : length log ≤ place → place ≤ length log
        → IsAhead force log from (record { policy = force; place = length log })
    ahead_end past most = λ k least less.
        same k least (omega (arith, less, past)) ∙ ap (next_policy force) (drop_all place log past)
