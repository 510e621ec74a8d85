-- What holds of a guest's fields together, and what may be asked of it.
use Rattle.std.specs.Prelude.{◌≡◌, ◌≢◌, ℕ, ◌+◌, ◌≤◌, ◌<◌, ◌^◌, ◌==◌, ◌&&◌, Bool, false, is_none, if◌then◌else◌, List, Option, Some, None, ⊤}
use Rattle.std.specs.List.{All}
use Rattle.cfi_unit.specs.declared.log.Log.{Log}
use Rattle.cfi_unit.specs.declared.log.Stop.TheVariants.{Fuel}
use Rattle.cfi_word.specs.Word.{policy_in}
use Rattle.cfi_model.specs.declared.act.Wait.{Wait}
use Rattle.cfi_model.specs.declared.act.Wait.TheVariants as waits
use Rattle.cfi_word.specs.declared.limits.TheConstants.{MAX_POLICY, MAX_OPENS}
use Rattle.cfi_word.specs.declared.services.TheConstants as services
use Rattle.cfi_model.specs.Data.{LiesInData}
use Rattle.cfi_model.specs.Log.{last_policy, last_picks, opens}
use Rattle.cfi_model.specs.Service.{Reply}
use Rattle.cfi_model.specs.Raw.{Raw}

-- the policy of the kept Tary word is not below the last one that is logged
abbrev pub KeepsPolicy : Option ℕ → List Log → Type 0
KeepsPolicy None log = ⊤
KeepsPolicy (Some word) log = last_policy log ≤ policy_in word

-- a service is counted as a unit when it ends
abbrev pub pending : Option Wait → ℕ
pending None = 0
pending (Some (waits.Tary at rd)) = 0
pending (Some (waits.Bary slot rd)) = 0
pending (Some (waits.Service number)) = 1

-- the register of a wait is one of the 32
abbrev pub IsWait : Option Wait → Type 0
IsWait None = ⊤
IsWait (Some (waits.Tary at rd)) = rd < 32
IsWait (Some (waits.Bary slot rd)) = rd < 32
IsWait (Some (waits.Service number)) = ⊤

-- `inner` counts the fetched instructions that ended no unit
pub record IsCounted (inner steps : ℕ) (log : List Log) (tary : Option ℕ) (wait : Option Wait) : Type 0 where
  pub inner_least : pending wait ≤ inner
  pub steps_most : steps < 2 ^ 32
  pub picks_most : last_picks log + inner ≤ steps
  pub keeps : KeepsPolicy tary log
  pub register : IsWait wait

-- the loaded word may come: the policy of a Tary word is not below the last one that is logged
abbrev pub MayLoad : Option Wait → List Log → (word : ℕ) → Type 0
MayLoad None log word = ⊤
MayLoad (Some (waits.Tary at rd)) log word = last_policy log ≤ policy_in word
MayLoad (Some (waits.Bary slot rd)) log word = ⊤
MayLoad (Some (waits.Service number)) log word = ⊤

-- the answer may come
pub record MayAnswer (reply : Reply) (r : Raw) : Type 0 where
  pub waiting : r.waits ≡ Some (waits.Service services.OPEN)
  pub inside : All LiesInData reply.fills
  pub few : reply.cause ≢ services.TOO_MANY → opens r.base.log < MAX_OPENS
  pub rises : last_policy r.base.log ≤ reply.policy
  pub most : reply.policy ≤ MAX_POLICY

-- the guest waits in a service other than exit, put and open
abbrev pub WaitsElse : Option Wait → Type 0
WaitsElse (Some (waits.Service number)) = (number ≢ services.EXIT) × (number ≢ services.PUT) × (number ≢ services.OPEN)
WaitsElse (Some (waits.Tary at rd)) = ⊥
WaitsElse (Some (waits.Bary slot rd)) = ⊥
WaitsElse None = ⊥

-- the guest has not stopped, and has run as many instructions as it was given
abbrev pub is_spent : (fuel : ℕ) → Raw → Bool
is_spent fuel r = is_none r.base.stop && (r.base.steps == fuel)

-- a guest that has stopped where its fuel is spent
abbrev pub spent : (fuel : ℕ) → Raw → Raw
spent fuel r =
    record r { base = record r.base { stop = if is_spent fuel r then Some Fuel else r.base.stop } }

-- the guest waits in a service
abbrev pub WaitsIn : Option Wait → Type 0
WaitsIn (Some (waits.Service number)) = ⊤
WaitsIn (Some (waits.Tary at rd)) = ⊥
WaitsIn (Some (waits.Bary slot rd)) = ⊥
WaitsIn None = ⊥

-- the guest waits in a quiet
abbrev pub is_quiet : Option Wait → Bool
is_quiet (Some (waits.Service number)) = number == services.QUIET
is_quiet (Some (waits.Tary at rd)) = false
is_quiet (Some (waits.Bary slot rd)) = false
is_quiet None = false
