-- Machines that can run a unit, and be answered.
use Rattle.std.proofs.Common.{ℕ, ◌≤◌, true, false, pos, List, [], ◌∷◌, refl, arith}
use Rattle.std.proofs.lemmas.List.Elements.{All-nil}
use Rattle.cfi_unit.specs.declared.unit.Unit.TheVariants as units
use Rattle.cfi_word.specs.declared.limits.TheConstants.{MAX_POLICY}
use Rattle.cfi_model.specs.Data.{LiesInData}
use Rattle.cfi_model.specs.Service.{Reply, reply_of}
use Rattle.cfi_model.specs.Plain.{PlainState, plain_opened, CanRun, CanEnd}

-- the word `j .`
abbrev pub code : List ℕ
code = 111 ∷ []

pub can_run : (policy : ℕ) → policy ≤ MAX_POLICY → CanRun code policy (plain_opened 0 0 [])
can_run policy most = record {
  can = record { going = refl; idle = refl; rises = omega arith; most = most; few = omega arith };
  unit = units.Jump false (pos 0);
  stands = record { aligned = refl; begins = record { fits = (omega arith, refl); spelled = refl } };
}

-- an answer without data
abbrev pub reply : (policy : ℕ) → Reply
reply policy = reply_of 0 0 policy []

-- a machine that waits
abbrev pub asking : PlainState
asking = record (plain_opened 0 0 []) { waits = true }

pub can_end : (policy : ℕ) → policy ≤ MAX_POLICY → CanEnd (reply policy) asking
can_end policy most = record { waiting = refl; inside = All-nil LiesInData; rises = omega arith; most = most }
