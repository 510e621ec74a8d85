-- What a unit leaves of the log's last policy and of the stop, and an access of the count of instructions.
use Rattle.std.proofs.Common.{◌≡◌, ◌≢◌, ℕ, ◌+◌, ◌≤◌, ◌==◌, Bool, true, false, cond, List, [], ◌∷◌, ◌++◌, Option, Some, None, refl, arith, rules}
use Rattle.rv_insn.specs.declared.insn.Insn.{Insn}
use Rattle.cfi_unit.specs.declared.log.Log.{Log}
use Rattle.cfi_unit.specs.declared.log.Log.TheVariants.{Open, Cause}
use Rattle.cfi_unit.specs.declared.log.Stop.{Stop}
use Rattle.cfi_unit.specs.declared.log.Stop.TheVariants as stops
use Rattle.cfi_unit.specs.declared.unit.Unit.{Unit as CodeUnit}
use Rattle.cfi_unit.specs.declared.unit.Unit.TheVariants as units
use Rattle.cfi_word.specs.declared.services.TheConstants.{TOO_MANY}
use Rattle.cfi_model.specs.Begin.{HasStepBy, begin_by}
use Rattle.cfi_model.specs.Effect.{effect, is_in_code}
use Rattle.cfi_model.specs.Log.{last_policy, picked}
use Rattle.cfi_model.specs.Raw.{Raw}
use Rattle.cfi_model.specs.Service.{Reply, Service, Ends, Puts, Quiets, Opens, Unknown, served_log, served_stop, service_of, succeeds, argument, asked}
use Rattle.cfi_model.specs.State.{State, register, displaced}
use Rattle.cfi_model.proofs.LogLemmas.{policy_push}
use Rattle.cfi_model.proofs.PickLemmas.{picked_is}
use Rattle.cfi_model.proofs.StepLemmas.{counts_step}

-- ---- the log's last policy

picked_by : (b : Bool) (log : List Log) (pick most : ℕ) → last_policy log ≤ most → pick ≤ most
    → last_policy (cond b (picked pick log) log) ≤ most
picked_by true log pick most low new = omega (arith, (picked_is log pick).last, new)
picked_by false log pick most low new = low

opened_by : (reply : Reply) (s : State) (b c : Bool) (most : ℕ) → last_policy s.log ≤ most
    → (b ≡ true → reply.policy ≤ most)
    → last_policy (cond b (s.log ++ Open (argument s) reply.address reply.policy ∷ [])
    (cond c s.log (s.log ++ Cause (argument s) reply.cause ∷ []))) ≤ most
opened_by reply s true c most low new =
    let policy = new refl in
    omega (arith, policy_push s.log (Open (argument s) reply.address reply.policy), policy)
opened_by reply s false true most low new = low
opened_by reply s false false most low new =
    omega (arith, policy_push s.log (Cause (argument s) reply.cause), low)

served_by : (service : Service) (reply : Reply) (s : State) (most : ℕ) → last_policy s.log ≤ most
    → (reply.cause ≡ 0 → reply.policy ≤ most) → last_policy (served_log service reply s) ≤ most
served_by Ends reply s most low new = low
served_by Puts reply s most low new = low
served_by Quiets reply s most low new = low
served_by Opens reply s most low new =
    opened_by reply s (succeeds reply) (reply.cause == TOO_MANY) most low (λ e. new (search (rules, arith)))
served_by Unknown reply s most low new = low

-- no policy is logged but that of a pick and that of an answer
pub effect_logs : (unit : CodeUnit) (pick : ℕ) (allows : ℕ → ℕ → Bool) (reply : Reply) (s : State) (most : ℕ)
    → last_policy s.log ≤ most → pick ≤ most → (unit ≡ units.Service → reply.cause ≡ 0 → reply.policy ≤ most)
    → last_policy (effect unit pick allows reply s).log ≤ most
effect_logs (units.Plain insn) pick allows reply s most low new answer = low
effect_logs (units.Load kind rd rs1 imm) pick allows reply s most low new answer = low
effect_logs (units.Store kind rs1 rs2 imm) pick allows reply s most low new answer = low
effect_logs (units.Branch c rs1 rs2 off) pick allows reply s most low new answer = low
effect_logs (units.Jump link off) pick allows reply s most low new answer = low
effect_logs (units.Check link rs1 imm slot) pick allows reply s most low new answer =
    picked_by (is_in_code (displaced (register s rs1) imm)) s.log pick most low new
effect_logs units.Service pick allows reply s most low new answer =
    served_by (service_of (asked s)) reply s most low (answer refl)

-- ---- the stop

goes_unspent : (b : Bool) (stop : Option Stop) (other : Stop) → stop ≡ None → other ≢ stops.Fuel
    → cond b stop (Some other) ≢ Some stops.Fuel
goes_unspent true stop other going apart = λ same. absurd (cc)
goes_unspent false stop other going apart = λ same. apart (cc)

served_unspent : (service : Service) (s : State) → s.stop ≡ None → served_stop service s ≢ Some stops.Fuel
served_unspent Ends s going = λ same. absurd (cc)
served_unspent Puts s going = λ same. absurd (cc)
served_unspent Quiets s going = λ same. absurd (cc)
served_unspent Opens s going = λ same. absurd (cc)
served_unspent Unknown s going = λ same. absurd (cc)

-- no unit stops with Fuel
pub effect_unspent : (unit : CodeUnit) (pick : ℕ) (allows : ℕ → ℕ → Bool) (reply : Reply) (s : State) → s.stop ≡ None
    → (effect unit pick allows reply s).stop ≢ Some stops.Fuel
effect_unspent (units.Plain insn) pick allows reply s going = λ same. absurd (cc)
effect_unspent (units.Load kind rd rs1 imm) pick allows reply s going =
    goes_unspent _ s.stop _ going (λ same. absurd (cc))
effect_unspent (units.Store kind rs1 rs2 imm) pick allows reply s going =
    goes_unspent _ s.stop _ going (λ same. absurd (cc))
effect_unspent (units.Branch c rs1 rs2 off) pick allows reply s going = λ same. absurd (cc)
effect_unspent (units.Jump link off) pick allows reply s going = λ same. absurd (cc)
effect_unspent (units.Check link rs1 imm slot) pick allows reply s going =
    goes_unspent _ s.stop _ going (λ same. absurd (cc))
effect_unspent units.Service pick allows reply s going = served_unspent (service_of (asked s)) s going

-- ---- the count of instructions

pub begin_counts : (r : Raw) (o : Option Insn) → HasStepBy o r → (begin_by o r).base.steps ≡ r.base.steps + 1
begin_counts r None has = absurd has
begin_counts r (Some insn) has = counts_step insn r has
