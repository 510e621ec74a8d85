-- A replay ends in one state.
use Rattle.std.proofs.Common.{◌≡◌, ◌≢◌, ℕ, zero, suc, ◌<◌, ◌≤◌, ◌+◌, ◌*◌, ◌/◌, ◌&&◌, Bool, true, false, List, Option, Some, None, refl, sym, ap, subst, ◌∙◌, ⊎_elim, arith}
use Rattle.std.specs.Prelude.{◌↔◌, nat_lt, if◌then◌else◌}
use Rattle.std.proofs.lemmas.Bool.{false≢true, cases_lt}
use Rattle.cfi_unit.specs.declared.log.Log.{Log}
use Rattle.cfi_unit.specs.declared.log.Log.TheVariants.{Pick, Open, Cause}
use Rattle.cfi_unit.specs.declared.log.Stop.TheVariants.{Halt}
use Rattle.cfi_unit.specs.Unit.{link_register}
use Rattle.cfi_unit.specs.declared.unit.Unit.{Unit as CodeUnit}
use Rattle.cfi_unit.specs.declared.unit.Unit.TheVariants as units
use Rattle.cfi_unit.proofs.CodeLemmas.{BeginsAt-one}
use Rattle.cfi_model.specs.Data.{is_aligned}
use Rattle.cfi_model.specs.Log.{picked}
use Rattle.cfi_model.specs.Effect.{effect, checked, is_in_code, asks}
use Rattle.cfi_model.specs.Service.{Reply}
use Rattle.cfi_model.specs.State.{State, register, regs_with, displaced, after}
use Rattle.cfi_valid.specs.Loaded.{Members, AllowedAt, Cells}
use Rattle.cfi_word.specs.declared.map.TheConstants.{CODE_BYTES}
use Rattle.cfi_word.specs.declared.sizes.TheConstants.{CHECK_WORDS, OUTSIDE_STEPS, MISALIGNED_STEPS, PASSED_STEPS, FORBIDDEN_STEPS}
use Rattle.cfi_valid.specs.Replay.{next_in, IsReplyOf, TakesPick, TakesAnswer, TakesFrom, IsReplayed, Replays}

-- two tests of one fact are the same
same_test : {P : Type 0} (a b : Bool) → ((a ≡ true → P) × (P → a ≡ true)) → ((b ≡ true → P) × (P → b ≡ true)) → a ≡ b
same_test true true p q = refl
same_test true false p q = absurd (false≢true (q.1 (p.0 refl)))
same_test false true p q = absurd (false≢true (p.1 (q.0 refl)))
same_test false false p q = refl

-- ---- a check

-- what a check does, by whether its target is before the end of the code, and aligned
abbrev checked_by : (before aligned : Bool) → (pick : ℕ) (allowed : Bool) (link : Bool) (target : ℕ) → State → State
checked_by before aligned pick allowed link target s = record s {
  regs = if (before && aligned) && allowed
      then regs_with s.regs (link_register link) (after (4 * CHECK_WORDS) s.pc)
      else s.regs;
  pc = if (before && aligned) && allowed then target else s.pc;
  log = if before && aligned then picked pick s.log else s.log;
  units = s.units + 1;
  steps = s.steps + (if before
      then (if aligned then (if allowed then PASSED_STEPS else FORBIDDEN_STEPS) else MISALIGNED_STEPS)
      else OUTSIDE_STEPS);
  stop = if (before && aligned) && allowed then s.stop else Some (Halt target);
}

-- one whose target is none of the code picks nothing
outside_same : (before aligned : Bool) (pick other : ℕ) (allowed let_through : Bool) (link : Bool) (target : ℕ)
    (s : State) → before && aligned ≡ false
    → checked_by before aligned pick allowed link target s ≡ checked_by before aligned other let_through link target s
outside_same true true pick other allowed let_through link target s outside = absurd (false≢true (sym outside))
outside_same true false pick other allowed let_through link target s outside = refl
outside_same false true pick other allowed let_through link target s outside = refl
outside_same false false pick other allowed let_through link target s outside = refl

module _ (cells : Cells) (members : Members) (next : Option Log) (s : State) where
  picks_once : (slot : ℕ) (link : Bool) (target : ℕ) (inside : Bool) → is_in_code target ≡ inside
      → (pick other : ℕ) (allowed let_through : Bool)
      → TakesPick inside members next slot target pick allowed
      → TakesPick inside members next slot target other let_through
      → checked pick allowed link target s ≡ checked other let_through link target s
  picks_once slot link target true is pick other allowed let_through p q =
      let both : Some (Pick pick 1) ≡ Some (Pick other 1) = sym p.is ∙ q.is in
      let same : pick ≡ other = cc in
      let exact = subst (λ (policy : ℕ). (allowed ≡ true) ↔ AllowedAt members policy slot target) same p.exact in
      let tests : allowed ≡ let_through = same_test allowed let_through exact q.exact in
      ap (λ (policy : ℕ). checked policy allowed link target s) same
      ∙ ap (λ (passes : Bool). checked other passes link target s) tests
  picks_once slot link target false is pick other allowed let_through p q =
      outside_same (nat_lt target CODE_BYTES) (is_aligned 4 target) pick other allowed let_through link target s is

  -- ---- a service

  reply_once : (entry : Option Log) (a b : Reply) → IsReplyOf cells members s entry a
      → IsReplyOf cells members s entry b → a ≡ b
  reply_once (Some (Open number address policy)) a b p q = p ∙ sym q
  reply_once (Some (Cause number cause)) a b p q = p ∙ sym q
  reply_once (Some (Pick policy count)) a b p q = absurd p
  reply_once None a b p q = absurd p

  answer_once : (asked : Bool) (a b : Reply) → TakesAnswer cells asked members s next a
      → TakesAnswer cells asked members s next b → a ≡ b
  answer_once true a b p q = reply_once next a b p q
  answer_once false a b p q = p ∙ sym q

  -- ---- one unit

  effect_once : (unit : CodeUnit) (pick other : ℕ) (allowed let_through : Bool) (a b : Reply)
      → TakesFrom cells members next unit s pick allowed a → TakesFrom cells members next unit s other let_through b
      → effect unit pick (λ slot target. allowed) a s ≡ effect unit other (λ slot target. let_through) b s
  effect_once (units.Plain insn) pick other allowed let_through a b p q = refl
  effect_once (units.Load kind rd rs1 imm) pick other allowed let_through a b p q = refl
  effect_once (units.Store kind rs1 rs2 imm) pick other allowed let_through a b p q = refl
  effect_once (units.Branch cond rs1 rs2 off) pick other allowed let_through a b p q = refl
  effect_once (units.Jump link off) pick other allowed let_through a b p q = refl
  effect_once (units.Check link rs1 imm slot) pick other allowed let_through a b p q =
      let target = displaced (register s rs1) imm in
      picks_once slot link target (is_in_code target) refl pick other allowed let_through p q
  effect_once units.Service pick other allowed let_through a b p q =
      let same = answer_once (asks s) a b p q in
      ap (λ (reply : Reply). effect units.Service pick (λ slot target. allowed) reply s) same

-- ---- units

module _ (cells : Cells) (code : List ℕ) (members : Members) (log : List Log) where
  unit_once : (s a b : State) → IsReplayed cells code members log s a → IsReplayed cells code members log s b → a ≡ b
  unit_once s a b p q =
      let same : p.unit ≡ q.unit =
      BeginsAt-one code (s.pc / 4) p.unit q.unit p.stands.begins q.stands.begins in
      let takes =
      subst (λ (unit : CodeUnit). TakesFrom cells members (next_in log s) unit s p.pick p.allowed p.reply) same
      p.takes in
      let is : a ≡ effect q.unit p.pick (λ slot target. p.allowed) p.reply s =
      p.is ∙ ap (λ (unit : CodeUnit). effect unit p.pick (λ slot target. p.allowed) p.reply s) same in
      is
      ∙ effect_once cells members (next_in log s) s q.unit p.pick q.pick p.allowed q.allowed p.reply q.reply takes
      q.takes
      ∙ sym q.is

  pub replay_once : (count : ℕ) (s a b : State) → Replays cells code members log count s a
      → Replays cells code members log count s b → a ≡ b
  replay_once zero s a b p q = p ∙ sym q
  replay_once (suc count) s a b p q =
      let same : p.0 ≡ q.0 = replay_once count s p.0 q.0 p.1 q.1 in
      unit_once q.0 a b (subst (λ (mid : State). IsReplayed cells code members log mid a) same p.2) q.2

  -- a guest that has stopped runs no unit more
  pub stopped_last : (less count : ℕ) (s a b : State) → Replays cells code members log less s a → a.stop ≢ None
      → Replays cells code members log count s b → less < count → ⊥
  stopped_last less zero s a b p stopped q before = absurd (omega (arith, before))
  stopped_last less (suc count) s a b p stopped q before = ⊎_elim
      (λ (earlier : less < count). stopped_last less count s a q.0 p stopped q.1 earlier)
      (λ (later : count ≤ less).
      let here : less ≡ count = omega (arith, before, later) in
      let same : a ≡ q.0 =
      replay_once count s a q.0 (subst (λ (n : ℕ). Replays cells code members log n s a) here p) q.1 in
      stopped (ap (λ (r : State). r.stop) same ∙ q.2.going))
      (cases_lt less count)
