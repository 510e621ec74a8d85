-- What a unit makes of the log's policies and picks.
use Rattle.std.proofs.Common.{◌≡◌, ℕ, ◌+◌, ◌-◌, ◌<◌, ◌≤◌, ◌==◌, ℤ, Bool, true, false, cond, List, [], ◌∷◌, ◌++◌, length, take, slice_set, Option, Some, None, refl, sym, ◌∙◌, ap, subst, arith, rules}
use Rattle.std.specs.Prelude.{⊤}
use Rattle.cfi_unit.specs.declared.log.Log.{Log}
use Rattle.cfi_unit.specs.declared.log.Log.TheVariants.{Pick, Open, Cause}
use Rattle.cfi_unit.specs.declared.unit.Unit.{Unit as CodeUnit}
use Rattle.cfi_unit.specs.declared.unit.Unit.TheVariants as units
use Rattle.cfi_word.specs.declared.services.TheConstants.{OPEN, TOO_MANY}
use Rattle.cfi_model.specs.Log.{last_of, is_pick_of, picks_of, picked, last_policy, pick_entries, is_pick}
use Rattle.cfi_model.specs.State.{State, register, displaced}
use Rattle.cfi_model.specs.Service.{Reply, Service, Ends, Puts, Quiets, Opens, Unknown, served_log, succeeds, argument, asked, service_of}
use Rattle.cfi_model.specs.Effect.{effect, is_in_code}
use Rattle.cfi_model.specs.Fits.{FitsOpen}
use Rattle.cfi_model.specs.Shows.{End, IsAnswered}
use Rattle.cfi_model.proofs.LogLemmas.{within, ends_with, set_last, policy_push, picks_push}

-- a log that ends with a pick is not empty
pub ends_in_pick : (log : List Log) (policy : ℕ) (e : Option Log) → last_of log ≡ e → is_pick_of policy e ≡ true
    → (x : Log) × (last_of log ≡ Some x)
ends_in_pick log policy (Some e) is picks = (e, is)
ends_in_pick log policy None is picks = absurd (cc)

-- what a log says after a pick: one more entry, or the last one anew
pub record AfterPick (policy : ℕ) (old new : List Log) : Type 0 where
  pub last : last_policy new ≡ policy
  some : 0 < pick_entries new
  least : pick_entries old ≤ pick_entries new

pushed : (log : List Log) (policy : ℕ) → AfterPick policy log (log ++ Pick policy 1 ∷ [])
pushed log policy =
    let picks = picks_push log (Pick policy 1) in
    record { last = policy_push log (Pick policy 1); some = omega arith; least = omega arith }

bit_most : (b : Bool) → cond b 1 0 ≤ 1
bit_most true = omega arith
bit_most false = omega arith

set_again : (log : List Log) (policy count : ℕ) (x : Log) → last_of log ≡ Some x
    → AfterPick policy log (slice_set log (length log - 1) (Pick policy count))
set_again log policy count x is =
    let front : List Log = take (length log - 1) log in
    let old : pick_entries log ≡ pick_entries front + cond (is_pick x) 1 0 =
    ap pick_entries (ends_with log x is) ∙ picks_push front x in
    let new = set_last log (Pick policy count) (within log x is) in
    let picks : pick_entries (slice_set log (length log - 1) (Pick policy count)) ≡ pick_entries front + 1 =
    ap pick_entries new ∙ picks_push front (Pick policy count) in
    let most : cond (is_pick x) 1 0 ≤ 1 = bit_most (is_pick x) in
    record {
      last = ap last_policy new ∙ policy_push front (Pick policy count);
      some = omega arith;
      least = omega arith;
    }

after_pick : (log : List Log) (policy : ℕ) (b : Bool) → is_pick_of policy (last_of log) ≡ b
    → AfterPick policy log
    (cond b (slice_set log (length log - 1) (Pick policy (picks_of policy (last_of log) + 1)))
    (log ++ Pick policy 1 ∷ []))
after_pick log policy true is =
    let entry = ends_in_pick log policy (last_of log) refl is in
    set_again log policy (picks_of policy (last_of log) + 1) entry.0 entry.1
after_pick log policy false is = pushed log policy

pub picked_is : (log : List Log) (policy : ℕ) → AfterPick policy log (picked policy log)
picked_is log policy = after_pick log policy (is_pick_of policy (last_of log)) refl

-- the logged policies have not fallen, and no pick is lost
pub record Rises (old new : List Log) : Type 0 where
  pub policies : last_policy old ≤ last_policy new
  pub picks : pick_entries old ≤ pick_entries new

same_log : (log : List Log) → Rises log log
same_log log = record { policies = omega arith; picks = omega arith }

-- a check's log, where its target may lie in the code
checked_rises : (b : Bool) (log : List Log) (policy : ℕ) → (b ≡ true → last_policy log ≤ policy)
    → Rises log (cond b (picked policy log) log)
checked_rises true log policy rises =
    let new = picked_is log policy in
    let below = rises refl in
    record { policies = omega (arith, new.last); picks = new.least }
checked_rises false log policy rises = same_log log

-- an open's log
opened_rises : (reply : Reply) (s : State) (b c : Bool) → (b ≡ true → last_policy s.log ≤ reply.policy)
    → Rises s.log
    (cond b (s.log ++ Open (argument s) reply.address reply.policy ∷ [])
    (cond c s.log (s.log ++ Cause (argument s) reply.cause ∷ [])))
opened_rises reply s true c rises =
    let below = rises refl in
    let last = policy_push s.log (Open (argument s) reply.address reply.policy) in
    let picks = picks_push s.log (Open (argument s) reply.address reply.policy) in
    record { policies = omega arith; picks = omega arith }
opened_rises reply s false true rises = same_log s.log
opened_rises reply s false false rises =
    let last = policy_push s.log (Cause (argument s) reply.cause) in
    let picks = picks_push s.log (Cause (argument s) reply.cause) in
    record { policies = omega arith; picks = omega arith }

-- the service of opens has one number
pub opens_by : (a b c d : Bool) → cond a Ends (cond b Puts (cond c Quiets (cond d Opens Unknown))) ≡ Opens → d ≡ true
opens_by true b c d is = absurd (cc)
opens_by false true c d is = absurd (cc)
opens_by false false true d is = absurd (cc)
opens_by false false false true is = refl
opens_by false false false false is = absurd (cc)

pub opens_is : (number : ℕ) → service_of number ≡ Opens → number ≡ OPEN
opens_is number is =
    let test : (number == OPEN) ≡ true = opens_by (number == 1) (number == 2) (number == 3) (number == OPEN) is in
    search (rules, arith)

served_rises : (service : Service) (reply : Reply) (s : State) → (service ≡ Opens → FitsOpen reply s)
    → Rises s.log (served_log service reply s)
served_rises Ends reply s fits = same_log s.log
served_rises Puts reply s fits = same_log s.log
served_rises Quiets reply s fits = same_log s.log
served_rises Opens reply s fits =
    opened_rises reply s (succeeds reply) (reply.cause == TOO_MANY)
    (λ e. (fits refl).answer.rises (search (rules, arith)))
served_rises Unknown reply s fits = same_log s.log

-- a check's pick is not below what is logged
abbrev pub IsRising : CodeUnit → (pick : ℕ) → State → Type 0
IsRising (units.Check link rs1 imm slot) pick s =
    is_in_code (displaced (register s rs1) imm) ≡ true → last_policy s.log ≤ pick
IsRising unit pick s = ⊤

-- the logged policies never fall, nor does the number of entries of picks
pub effect_rises : (unit : CodeUnit) (pick : ℕ) (allows : ℕ → ℕ → Bool) (end : End) (reply : Reply) (s : State)
    → IsAnswered unit end reply s → IsRising unit pick s
    → Rises s.log (effect unit pick allows reply s).log
effect_rises (units.Plain insn) pick allows end reply s answered rising = same_log s.log
effect_rises (units.Load kind rd rs1 imm) pick allows end reply s answered rising = same_log s.log
effect_rises (units.Store kind rs1 rs2 imm) pick allows end reply s answered rising = same_log s.log
effect_rises (units.Branch c rs1 rs2 off) pick allows end reply s answered rising = same_log s.log
effect_rises (units.Jump link off) pick allows end reply s answered rising = same_log s.log
effect_rises (units.Check link rs1 imm slot) pick allows end reply s answered rising =
    checked_rises (is_in_code (displaced (register s rs1) imm)) s.log pick rising
effect_rises units.Service pick allows end reply s answered rising =
    served_rises (service_of (asked s)) reply s (λ is. answered.fits (opens_is (asked s) is))

-- a check's pick is logged
pub pick_logged : (pick : ℕ) (allows : ℕ → ℕ → Bool) (reply : Reply) (s : State) (link : Bool) (rs1 : ℕ) (imm : ℤ)
    (slot : ℕ) → is_in_code (displaced (register s rs1) imm) ≡ true
    → 0 < pick_entries (effect (units.Check link rs1 imm slot) pick allows reply s).log
pick_logged pick allows reply s link rs1 imm slot inside =
    subst (λ b. 0 < pick_entries (cond b (picked pick s.log) s.log)) (sym inside) (picked_is s.log pick).some
