-- When a unit can be run, fact by fact.
use Rattle.std.proofs.Common.{◌≡◌, ℕ, ◌+◌, ◌/◌, ◌%◌, ◌≤◌, ◌<◌, ◌^◌, false, List, None}
use Rattle.cfi_model.specs.Log.{last_policy}
use Rattle.cfi_model.specs.Plain.{CanRun, PlainState}
use Rattle.cfi_unit.specs.Code.{BeginsAt}
use Rattle.cfi_unit.specs.declared.unit.Unit.{Unit as CodeUnit}
use Rattle.cfi_word.specs.declared.limits.TheConstants.{MAX_POLICY}

-- the machine runs none, one begins at its address, and the policy does not fall
pub can_run : (code : List ℕ) (policy : ℕ) (m : PlainState) (unit : CodeUnit) → m.state.stop ≡ None → m.waits ≡ false
    → m.state.pc % 4 ≡ 0 → BeginsAt code (m.state.pc / 4) unit → last_policy m.state.log ≤ policy → policy ≤ MAX_POLICY
    → m.state.units + 1 < 2 ^ 32 → CanRun code policy m
can_run code policy m unit going idle aligned begins rises most few = record {
  can = record { going = going; idle = idle; rises = rises; most = most; few = few };
  unit = unit;
  stands = record { aligned = aligned; begins = begins };
}
