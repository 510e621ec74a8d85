-- Policies of a log, and the spans of its entries.
use Rattle.std.proofs.Common.{◌≡◌, ℕ, zero, suc, ◌+◌, ◌≤◌, List, [], ◌∷◌, take, drop, refl, arith}
use Rattle.std.specs.List.{AllByRecursion, fold}
use Rattle.cfi_unit.specs.declared.log.Log.{Log}
use Rattle.cfi_unit.specs.declared.log.Log.TheVariants.{Pick, Open, Cause}
use Rattle.cfi_model.specs.Log.{policy_after, last_policy}
use Rattle.cfi_valid.specs.Log.{next_policy, IsInSpan, NeverFall}

-- ---- a span that was closed lies in the report's

-- no policy of an entry is below this one
abbrev IsAtLeast : (settled : ℕ) → Log → Type 0
IsAtLeast settled entry = settled ≤ policy_after settled entry

next_least : (force settled : ℕ) (later : List Log) → settled ≤ force → AllByRecursion (IsAtLeast settled) later
    → settled ≤ next_policy force later
next_least force settled [] within all = within
next_least force settled (Pick policy count ∷ later) within all = all.0
next_least force settled (Open number address policy ∷ later) within all = all.0
next_least force settled (Cause number cause ∷ later) within all = next_least force settled later within all.1

pub settled_lies : (force : ℕ) (log : List Log) (at policy settled : ℕ) → last_policy (take at log) ≤ policy
    → policy ≤ settled → settled ≤ force → AllByRecursion (IsAtLeast settled) (drop (at + 1) log)
    → IsInSpan force log at policy
settled_lies force log at policy settled least within low all =
    let next = next_least force settled (drop (at + 1) log) low all in
    record { least = least; most = omega (arith, within, next) }

-- ---- policies never fall

-- the last one is not below the first
pub fall_least : (before : ℕ) (log : List Log) → NeverFall before log → before ≤ fold policy_after before log
fall_least before [] never = omega arith
fall_least before (entry ∷ log) never =
    let rest = fall_least (policy_after before entry) log never.1 in omega (arith, never.0, rest)

-- from an entry on
pub fall_behind : (at before : ℕ) (log : List Log) → NeverFall before log
    → NeverFall (fold policy_after before (take at log)) (drop at log)
fall_behind zero before log never = never
fall_behind (suc at) before [] never = tt
fall_behind (suc at) before (entry ∷ log) never = fall_behind at (policy_after before entry) log never.1

pub last_behind : (at before : ℕ) (log : List Log)
    → fold policy_after (fold policy_after before (take at log)) (drop at log) ≡ fold policy_after before log
last_behind zero before log = refl
last_behind (suc at) before [] = refl
last_behind (suc at) before (entry ∷ log) = last_behind at (policy_after before entry) log

-- the next one is not above the one in force
pub next_most : (force before : ℕ) (later : List Log) → NeverFall before later
    → fold policy_after before later ≤ force → next_policy force later ≤ force
next_most force before [] never most = omega arith
next_most force before (Pick policy count ∷ later) never most =
    let rest = fall_least policy later never.1 in omega (arith, rest, most)
next_most force before (Open number address policy ∷ later) never most =
    let rest = fall_least policy later never.1 in omega (arith, rest, most)
next_most force before (Cause number cause ∷ later) never most = next_most force before later never.1 most

-- it rises with the one in force
pub next_rises : (low high : ℕ) (later : List Log) → low ≤ high → next_policy low later ≤ next_policy high later
next_rises low high [] within = within
next_rises low high (Pick policy count ∷ later) within = omega arith
next_rises low high (Open number address policy ∷ later) within = omega arith
next_rises low high (Cause number cause ∷ later) within = next_rises low high later within
