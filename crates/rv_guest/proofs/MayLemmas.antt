-- A guest that may be answered, and words that may come.
use Rattle.std.proofs.Common.{ℕ, ◌≤◌, [], Option, Some, None, refl, arith}
use Rattle.std.proofs.lemmas.List.Elements.{All-nil}
use Rattle.cfi_word.specs.declared.limits.TheConstants.{MAX_POLICY}
use Rattle.cfi_model.specs.declared.act.Wait.{Wait}
use Rattle.cfi_model.specs.declared.act.Wait.TheVariants as waits
use Rattle.cfi_word.specs.declared.services.TheConstants.{OPEN}
use Rattle.cfi_model.specs.Data.{LiesInData}
use Rattle.cfi_model.specs.Service.{Reply, reply_of}
use Rattle.cfi_model.specs.Raw.{Raw, raw_opened}
use Rattle.rv_guest.specs.Guest.{MayAnswer, MayLoad}

-- an answer without data
abbrev pub reply : (policy : ℕ) → Reply
reply policy = reply_of 0 0 policy []

-- a guest that waits in an open
abbrev pub asking : Raw
asking = record (raw_opened 0 0 []) { waits = Some (waits.Service OPEN) }

pub may_answer : (policy : ℕ) → policy ≤ MAX_POLICY → MayAnswer (reply policy) asking
may_answer policy most = record {
  waiting = refl;
  inside = All-nil LiesInData;
  few = λ apart. omega arith;
  rises = omega arith;
  most = most;
}

pub may_load : (wait : Option Wait) (word : ℕ) → MayLoad wait [] word
may_load None word = tt
may_load (Some (waits.Tary at rd)) word = omega arith
may_load (Some (waits.Bary slot rd)) word = tt
may_load (Some (waits.Service number)) word = tt
