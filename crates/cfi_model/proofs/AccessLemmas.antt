-- How a masked access ends.
use Rattle.std.proofs.Common.{◌≡◌, ℕ, ◌+◌, ◌*◌, ◌%◌, ◌^◌, ◌<◌, ℤ, pos, ◌||◌, Bool, true, false, cond, None, List, refl, sym, ◌∙◌, ap, subst, arith}
use Rattle.std.proofs.lemmas.Bool.Decides.{nat_tests}
use Rattle.rv_insn.specs.declared.insn.Insn.TheVariants as insns
use Rattle.rv_insn.specs.declared.insn.LoadKind.{LoadKind}
use Rattle.rv_insn.specs.declared.insn.StoreKind.{StoreKind}
use Rattle.cfi_unit.specs.declared.unit.Unit.TheVariants as units
use Rattle.cfi_word.specs.declared.map.TheConstants.{DATA_START}
use Rattle.cfi_model.specs.Data.{load_width, store_width, is_aligned, loaded}
use Rattle.cfi_model.specs.Pages.{Memory, memory_stored}
use Rattle.cfi_model.specs.State.{State, register, regs_with}
use Rattle.cfi_model.specs.Raw.{Raw, reg}
use Rattle.cfi_model.specs.Service.{Reply}
use Rattle.cfi_model.specs.Effect.{effect, masked_at, accessed}
use Rattle.cfi_unit.specs.Free.{is_reserved}
use Rattle.cfi_model.specs.Begin.{Private, begin_as, area_of, load_at, store_at, store_private, next, ran, stopped, units_of}
use Rattle.cfi_unit.specs.declared.log.Stop.TheVariants as stops
use Rattle.cfi_model.specs.Shows.{IsBetween}
use Rattle.cfi_model.proofs.InnerLemmas.{same_state, inner, reg-free, with_reg-free}

-- a masked address lies in private data
pub area_private : (o : ℕ) → o < 2 ^ 20 → area_of ((0x40000000 + o + 0) % 2 ^ 32) ≡ Private o
area_private o h = grind (arith, nat_tests)

-- the state before the access itself
abbrev before : State → (retries x28 x29 x30 offset : ℕ) → Raw
before p retries x28 x29 x30 offset =
    inner p p.units (p.pc + 4 * 5) (p.steps + 9 * retries + 5) x28 x29 x30 (0x40000000 + offset) None None None

-- it has ended, or stopped the guest
access_ends : (p : State) (retries x28 x29 x30 offset : ℕ) (regs : List ℕ) (memory : Memory) (fits : Bool)
    → p.pc + 24 < 2 ^ 32 → p.stop ≡ None
    → IsBetween retries (accessed fits offset regs memory p)
    (cond fits
    (ran ((p.pc + 4 * 5 + 4) % 2 ^ 32) 1
    (record (before p retries x28 x29 x30 offset) {
      base = record (before p retries x28 x29 x30 offset).base { regs = regs; memory = memory };
    }))
    (stopped (stops.Align (DATA_START + offset)) (before p retries x28 x29 x30 offset)))
access_ends p retries x28 x29 x30 offset regs memory true small going = record {
  base = same_state p _ _ _ _ _ _ _ _ _ _ _ _ _ _ refl refl refl refl refl (omega arith) refl;
  idle = refl;
  fresh = λ e. (omega arith, refl, refl);
}
access_ends p retries x28 x29 x30 offset regs memory false small going = record {
  base = same_state p _ _ _ _ _ _ _ _ _ _ _ _ _ _ refl refl refl refl refl (omega arith) refl;
  idle = refl;
  fresh = λ e. absurd (cc);
}

pub load_ends : (p : State) (retries x28 x29 x30 : ℕ) (kind : LoadKind) (rd rs1 : ℕ) (imm : ℤ)
    (pick : ℕ) (allows : ℕ → ℕ → Bool) (reply : Reply) → rd < 28 → p.pc + 24 < 2 ^ 32 → p.stop ≡ None
    → IsBetween retries (effect (units.Load kind rd rs1 imm) pick allows reply p)
    (begin_as (insns.Load kind rd 31 (pos 0)) (before p retries x28 x29 x30 (masked_at rs1 imm p)))
load_ends p retries x28 x29 x30 kind rd rs1 imm pick allows reply free small going =
    let o : ℕ = masked_at rs1 imm p in
    let r : Raw = before p retries x28 x29 x30 o in
    let low : o < 2 ^ 20 = omega arith in
    let value : ℕ = loaded kind p.memory.bytes o in
    let fits : Bool = is_aligned (load_width kind) o in
    let place = ap (λ a. load_at a kind rd (units_of (is_reserved rd || true)) r) (area_private o low) in
    let written = with_reg-free p p.units (p.pc + 4 * 5) (p.steps + 9 * retries + 5) x28 x29 x30 (0x40000000 + o)
    None None None rd value free in
    let ends = ap (λ w. cond fits (ran (next r) 1 w) (stopped (stops.Align (DATA_START + o)) r)) written in
    subst (IsBetween retries (accessed fits o (regs_with p.regs rd value) p.memory p)) (sym (place ∙ ends))
    (access_ends p retries x28 x29 x30 o (regs_with p.regs rd value) p.memory fits small going)

pub store_ends : (p : State) (retries x28 x29 x30 : ℕ) (kind : StoreKind) (rs1 rs2 : ℕ) (imm : ℤ)
    (pick : ℕ) (allows : ℕ → ℕ → Bool) (reply : Reply) → rs2 < 28 → p.pc + 24 < 2 ^ 32 → p.stop ≡ None
    → IsBetween retries (effect (units.Store kind rs1 rs2 imm) pick allows reply p)
    (begin_as (insns.Store kind 31 rs2 (pos 0)) (before p retries x28 x29 x30 (masked_at rs1 imm p)))
store_ends p retries x28 x29 x30 kind rs1 rs2 imm pick allows reply free small going =
    let o : ℕ = masked_at rs1 imm p in
    let r : Raw = before p retries x28 x29 x30 o in
    let low : o < 2 ^ 20 = omega arith in
    let fits : Bool = is_aligned (store_width kind) o in
    let value = reg-free p p.units (p.pc + 4 * 5) (p.steps + 9 * retries + 5) x28 x29 x30 (0x40000000 + o)
    None None None rs2 free in
    let place = ap (λ a. store_at a kind (reg r rs2) r) (area_private o low) in
    let ends = ap (λ v. store_private kind o v r) value in
    let memory : Memory = memory_stored kind p.memory o (register p rs2) in
    subst (IsBetween retries (accessed fits o p.regs memory p)) (sym (place ∙ ends))
    (access_ends p retries x28 x29 x30 o p.regs memory fits small going)
