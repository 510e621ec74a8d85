-- A raw state within a unit, part by part.
use Rattle.std.proofs.Common.{◌≡◌, ℕ, ◌<◌, ◌==◌, nat_lt, true, false, cond, Option, List, refl, ◌∙◌, ap, arith, rules}
use Rattle.cfi_unit.specs.declared.log.Log.{Log}
use Rattle.cfi_unit.specs.declared.log.Stop.{Stop}
use Rattle.cfi_model.specs.declared.act.Wait.{Wait}
use Rattle.cfi_model.specs.Pages.{Memory}
use Rattle.cfi_model.specs.State.{State, register, regs_with}
use Rattle.cfi_model.specs.Raw.{Raw, reg, with_reg}

-- the policy state with some parts replaced
abbrev pub state : State → (regs : List ℕ) → (pc : ℕ) → Memory → List Log → (units steps : ℕ) → Option Stop
    → State
state p regs pc memory log units steps stop =
    record p { regs = regs; pc = pc; memory = memory; log = log; units = units; steps = steps; stop = stop }

pub same_state : (p : State) (regs regs' : List ℕ) (pc pc' : ℕ) (memory memory' : Memory) (log log' : List Log)
    (units units' steps steps' : ℕ) (stop stop' : Option Stop)
    → regs ≡ regs' → pc ≡ pc' → memory ≡ memory' → log ≡ log' → units ≡ units' → steps ≡ steps' → stop ≡ stop'
    → state p regs pc memory log units steps stop ≡ state p regs' pc' memory' log' units' steps' stop'
same_state p regs regs' pc pc' memory memory' log log' units units' steps steps' stop stop' a b c d e f g =
    ap (λ x. state p x pc memory log units steps stop) a
    ∙ ap (λ x. state p regs' x memory log units steps stop) b
    ∙ ap (λ x. state p regs' pc' x log units steps stop) c
    ∙ ap (λ x. state p regs' pc' memory' x units steps stop) d
    ∙ ap (λ x. state p regs' pc' memory' log' x steps stop) e
    ∙ ap (λ x. state p regs' pc' memory' log' units' x stop) f
    ∙ ap (λ x. state p regs' pc' memory' log' units' steps' x) g

-- the raw state whose base is the policy state's but for the address and the counts
abbrev pub inner : State → (units pc steps x28 x29 x30 x31 : ℕ) → (bary tary : Option ℕ) → Option Wait → Raw
inner p units pc steps x28 x29 x30 x31 bary tary wait = record {
  base = record p { pc = pc; units = units; steps = steps };
  x28 = x28;
  x29 = x29;
  x30 = x30;
  x31 = x31;
  bary = bary;
  tary = tary;
  waits = wait;
}

pub same_inner : (p : State) (units units' pc pc' steps steps' x28 x28' x29 x29' x30 x30' x31 x31' : ℕ)
    (bary tary : Option ℕ) (wait : Option Wait)
    → units ≡ units' → pc ≡ pc' → steps ≡ steps' → x28 ≡ x28' → x29 ≡ x29' → x30 ≡ x30' → x31 ≡ x31'
    → inner p units pc steps x28 x29 x30 x31 bary tary wait
    ≡ inner p units' pc' steps' x28' x29' x30' x31' bary tary wait
same_inner p units units' pc pc' steps steps' x28 x28' x29 x29' x30 x30' x31 x31' bary tary wait a b c d e f g =
    ap (λ x. inner p x pc steps x28 x29 x30 x31 bary tary wait) a
    ∙ ap (λ x. inner p units' x steps x28 x29 x30 x31 bary tary wait) b
    ∙ ap (λ x. inner p units' pc' x x28 x29 x30 x31 bary tary wait) c
    ∙ ap (λ x. inner p units' pc' steps' x x29 x30 x31 bary tary wait) d
    ∙ ap (λ x. inner p units' pc' steps' x28' x x30 x31 bary tary wait) e
    ∙ ap (λ x. inner p units' pc' steps' x28' x29' x x31 bary tary wait) f
    ∙ ap (λ x. inner p units' pc' steps' x28' x29' x30' x bary tary wait) g

-- a register that is not the instrumentation's is the policy state's
pub reg-free : (p : State) (units pc steps x28 x29 x30 x31 : ℕ) (bary tary : Option ℕ) (wait : Option Wait) (k : ℕ)
    → k < 28 → reg (inner p units pc steps x28 x29 x30 x31 bary tary wait) k ≡ register p k
reg-free p units pc steps x28 x29 x30 x31 bary tary wait k h =
    let free : nat_lt k 28 ≡ true = search (rules, arith) in
    ap (λ b. cond b (register p k) (cond (k == 28) x28 (cond (k == 29) x29 (cond (k == 30) x30 x31)))) free

-- a register that is not the instrumentation's is written in the policy state
pub with_reg-free : (p : State) (units pc steps x28 x29 x30 x31 : ℕ) (bary tary : Option ℕ) (wait : Option Wait)
    (k value : ℕ) → k < 28
    → with_reg (inner p units pc steps x28 x29 x30 x31 bary tary wait) k value
    ≡ inner (record p { regs = regs_with p.regs k value }) units pc steps x28 x29 x30 x31 bary tary wait
with_reg-free p units pc steps x28 x29 x30 x31 bary tary wait k value h =
    let free : nat_lt k 28 ≡ true = search (rules, arith) in
    let no28 : (k == 28) ≡ false = search (rules, arith) in
    let no29 : (k == 29) ≡ false = search (rules, arith) in
    let no30 : (k == 30) ≡ false = search (rules, arith) in
    let no31 : (k == 31) ≡ false = search (rules, arith) in
    ap (λ b. inner (record p { regs = cond b (regs_with p.regs k value) p.regs }) units pc steps
    (cond (k == 28) value x28) (cond (k == 29) value x29) (cond (k == 30) value x30) (cond (k == 31) value x31)
    bary tary wait) free
    ∙ same_inner (record p { regs = regs_with p.regs k value }) _ _ _ _ _ _ _ _ _ _ _ _ _ _ bary tary wait
    refl refl refl
    (ap (λ b. cond b value x28) no28) (ap (λ b. cond b value x29) no29)
    (ap (λ b. cond b value x30) no30) (ap (λ b. cond b value x31) no31)
