-- How a check ends.
use Rattle.std.proofs.Common.{◌≡◌, ◌≢◌, ℕ, ◌+◌, ◌*◌, ◌%◌, ◌^◌, ◌<◌, ◌≤◌, ◌==◌, pos, nat_lt, ◌&&◌, Bool, true, false, cond, Option, Some, None, refl, sym, ◌∙◌, ap, subst, arith, rules}
use Rattle.rv_insn.specs.declared.insn.Insn.TheVariants as insns
use Rattle.rv_insn.specs.declared.insn.LoadKind.TheVariants.{Lw}
use Rattle.cfi_unit.specs.declared.log.Stop.TheVariants.{Halt}
use Rattle.cfi_unit.specs.Unit.{link_register}
use Rattle.cfi_word.specs.Word.{policy_in}
use Rattle.cfi_word.specs.declared.map.TheConstants.{CODE_BYTES}
use Rattle.cfi_model.specs.Log.{picked}
use Rattle.cfi_model.specs.State.{State, regs_with, after}
use Rattle.cfi_model.specs.Raw.{Raw}
use Rattle.cfi_model.specs.Effect.{checked}
use Rattle.cfi_model.specs.Begin.{begin_as, waiting, stopped}
use Rattle.cfi_model.specs.declared.act.Wait.TheVariants as waits
use Rattle.cfi_model.specs.Shows.{IsBetween}
use Rattle.cfi_model.proofs.InnerLemmas.{state, same_state, inner}
use Rattle.cfi_model.proofs.CheckLemmas.{looks}

-- what a check makes of a state, by its three tests: the target is below the code's end, whole, and allowed
abbrev checked_by : (low whole allowed : Bool) → (pick : ℕ) → (link : Bool) → (target : ℕ) → State → State
checked_by low whole allowed pick link target p =
    state p (cond ((low && whole) && allowed) (regs_with p.regs (link_register link) (after 56 p.pc)) p.regs)
    (cond ((low && whole) && allowed) target p.pc) p.memory (cond (low && whole) (picked pick p.log) p.log)
    (p.units + 1)
    (p.steps + cond low (cond whole (cond allowed 10 13) 8) 4)
    (cond ((low && whole) && allowed) p.stop (Some (Halt target)))

checked_is : (pick : ℕ) (link allowed : Bool) (target : ℕ) (p : State) (low whole : Bool)
    → nat_lt target CODE_BYTES ≡ low → (target % 4 == 0) ≡ whole
    → checked pick allowed link target p ≡ checked_by low whole allowed pick link target p
checked_is pick link allowed target p low whole a b =
    ap (λ x. checked_by x (target % 4 == 0) allowed pick link target p) a
    ∙ ap (λ x. checked_by low x allowed pick link target p) b

-- the target is past the code
pub far_ends : (p : State) (retries x28 x29 x30 target : ℕ) (bary : Option ℕ) (pick : ℕ) (allowed link : Bool)
    → 2 ^ 18 ≤ target
    → IsBetween retries (checked pick allowed link target p)
    (begin_as insns.Ebreak
    (inner p p.units (p.pc + 48) (p.steps + 9 * retries + 3) x28 x29 x30 target bary None None))
far_ends p retries x28 x29 x30 target bary pick allowed link high =
    let low : nat_lt target CODE_BYTES ≡ false = search (rules, arith) in
    subst (λ s. IsBetween retries s (begin_as insns.Ebreak
    (inner p p.units (p.pc + 48) (p.steps + 9 * retries + 3) x28 x29 x30 target bary None None)))
    (sym (checked_is pick link allowed target p false (target % 4 == 0) low refl))
    (record {
      base = same_state p _ _ _ _ _ _ _ _ _ _ _ _ _ _ refl refl refl refl refl (omega arith) refl;
      idle = refl;
      fresh = λ e. absurd (cc);
    })

-- the target is no multiple of 4
pub odd_ends : (p : State) (retries x28 x29 target : ℕ) (bary tary : Option ℕ) (pick : ℕ) (allowed link : Bool)
    → target < 2 ^ 18 → target % 4 ≢ 0
    → IsBetween retries (checked pick allowed link target p)
    (begin_as (insns.Load Lw 30 30 (pos 0))
    (inner p p.units (p.pc + 28) (p.steps + 9 * retries + 7) x28 x29 (0x10000000 + target) target bary tary None))
odd_ends p retries x28 x29 target bary tary pick allowed link below odd =
    let r : Raw =
    inner p p.units (p.pc + 28) (p.steps + 9 * retries + 7) x28 x29 (0x10000000 + target) target bary tary None in
    let low : nat_lt target CODE_BYTES ≡ true = search (rules, arith) in
    let whole : (target % 4 == 0) ≡ false = search (rules, arith) in
    let place = looks p (p.pc + 28) (p.steps + 9 * retries + 7) x28 x29 target bary tary below in
    let halts = ap (λ b. cond b (waiting (waits.Tary target 30) 0 r) (stopped (Halt target) r)) whole in
    subst (IsBetween retries (checked pick allowed link target p)) (sym (place ∙ halts))
    (subst (λ s. IsBetween retries s (stopped (Halt target) r))
    (sym (checked_is pick link allowed target p true false low whole))
    (record {
      base = same_state p _ _ _ _ _ _ _ _ _ _ _ _ _ _ refl refl refl refl refl (omega arith) refl;
      idle = refl;
      fresh = λ e. absurd (cc);
    }))

-- the policy does not allow the target
pub not_ends : (p : State) (retries x28 x29 x30 target word : ℕ) (bary : Option ℕ) (allowed link : Bool)
    → target < 2 ^ 18 → target % 4 ≡ 0 → allowed ≡ false
    → IsBetween retries (checked (policy_in word) allowed link target p)
    (begin_as insns.Ebreak
    (inner p p.units (p.pc + 48) (p.steps + 9 * retries + 12) x28 x29 x30 target bary (Some word) None))
not_ends p retries x28 x29 x30 target word bary allowed link below even refused =
    let low : nat_lt target CODE_BYTES ≡ true = search (rules, arith) in
    let whole : (target % 4 == 0) ≡ true = search (rules, arith) in
    let is = checked_is (policy_in word) link allowed target p true true low whole
    ∙ ap (λ a. checked_by true true a (policy_in word) link target p) refused in
    subst (λ s. IsBetween retries s (begin_as insns.Ebreak
    (inner p p.units (p.pc + 48) (p.steps + 9 * retries + 12) x28 x29 x30 target bary (Some word) None)))
    (sym is)
    (record {
      base = same_state p _ _ _ _ _ _ _ _ _ _ _ _ _ _ refl refl refl refl refl (omega arith) refl;
      idle = refl;
      fresh = λ e. absurd (cc);
    })

-- the jump to an allowed target
pub jump_ends : (p : State) (retries x28 x29 x30 target word : ℕ) (bary : Option ℕ) (allowed link : Bool)
    → target < 2 ^ 18 → target % 4 ≡ 0 → allowed ≡ true → p.stop ≡ None
    → IsBetween retries (checked (policy_in word) allowed link target p)
    (begin_as (insns.Jalr (link_register link) 31 (pos 0))
    (inner p p.units (p.pc + 52) (p.steps + 9 * retries + 9) x28 x29 x30 target bary (Some word) None))
jump_ends p retries x28 x29 x30 target word bary allowed true below even granted going =
    let low : nat_lt target CODE_BYTES ≡ true = search (rules, arith) in
    let whole : (target % 4 == 0) ≡ true = search (rules, arith) in
    let is = checked_is (policy_in word) true allowed target p true true low whole
    ∙ ap (λ a. checked_by true true a (policy_in word) true target p) granted in
    let link : (p.pc + 52 + 4) % 2 ^ 32 ≡ (p.pc + 56) % 2 ^ 32 = omega arith in
    subst (λ s. IsBetween retries s (begin_as (insns.Jalr 1 31 (pos 0))
    (inner p p.units (p.pc + 52) (p.steps + 9 * retries + 9) x28 x29 x30 target bary (Some word) None)))
    (sym is)
    (record {
      base = same_state p _ _ _ _ _ _ _ _ _ _ _ _ _ _
          (ap (λ a. regs_with p.regs 1 a) link) refl refl refl refl (omega arith) refl;
      idle = refl;
      fresh = λ e. (omega arith, refl, refl);
    })
jump_ends p retries x28 x29 x30 target word bary allowed false below even granted going =
    let low : nat_lt target CODE_BYTES ≡ true = search (rules, arith) in
    let whole : (target % 4 == 0) ≡ true = search (rules, arith) in
    let is = checked_is (policy_in word) false allowed target p true true low whole
    ∙ ap (λ a. checked_by true true a (policy_in word) false target p) granted in
    subst (λ s. IsBetween retries s (begin_as (insns.Jalr 0 31 (pos 0))
    (inner p p.units (p.pc + 52) (p.steps + 9 * retries + 9) x28 x29 x30 target bary (Some word) None)))
    (sym is)
    (record {
      base = same_state p _ _ _ _ _ _ _ _ _ _ _ _ _ _ refl refl refl refl refl (omega arith) refl;
      idle = refl;
      fresh = λ e. (omega arith, refl, refl);
    })
