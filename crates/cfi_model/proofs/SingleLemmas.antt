-- How the units of one instruction end.
use Rattle.std.proofs.Common.{◌≡◌, ℕ, ◌+◌, ◌*◌, ◌<◌, ◌||◌, ℤ, Bool, true, false, cond, Some, None, List, refl, sym, ◌∙◌, ap, subst, arith, rules}
use Rattle.std.specs.Int.{w32, cast_unsigned}
use Rattle.rv_insn.specs.declared.insn.Insn.{Insn}
use Rattle.rv_insn.specs.declared.insn.Insn.TheVariants as insns
use Rattle.rv_insn.specs.declared.insn.Cond.{Cond}
use Rattle.rv_alu.specs.Alu.{value_of_op, value_of_imm_op, takes}
use Rattle.cfi_unit.specs.declared.unit.Unit.TheVariants as units
use Rattle.cfi_unit.specs.Unit.{IsPlain, link_register}
use Rattle.cfi_model.specs.declared.act.Wait.TheVariants as waits
use Rattle.cfi_model.specs.State.{State, register, regs_with, displaced, after}
use Rattle.cfi_model.specs.Raw.{Raw, reg, with_reg}
use Rattle.cfi_model.specs.Service.{Reply, Service, Ends, Puts, Quiets, Opens, Unknown, served, service_of, asked}
use Rattle.cfi_model.specs.Effect.{effect, going_to}
use Rattle.cfi_unit.specs.Free.{is_reserved}
use Rattle.cfi_model.specs.Begin.{begin_as, units_of, ran}
use Rattle.cfi_model.specs.Run.{serve_by}
use Rattle.cfi_model.specs.Shows.{IsBetween}
use Rattle.cfi_model.proofs.InnerLemmas.{same_state, inner, reg-free, with_reg-free}
use Rattle.cfi_model.proofs.FetchLemmas.{start_raw}

free_is : (k : ℕ) → k < 28 → is_reserved k ≡ false
free_is k h = search (rules, arith)

module _ (p : State) (n x28 x29 x30 x31 : ℕ) (going : p.stop ≡ None) (pick : ℕ) (allows : ℕ → ℕ → Bool)
    (reply : Reply) where
  abbrev r : Raw
  r = start_raw p n x28 x29 x30 x31

  -- an instruction has ended as a unit, with these registers
  unit_ends : (regs : List ℕ) (to count : ℕ) → count ≡ 1
      → IsBetween n (going_to to 1 (record p { regs = regs }))
      (ran to count (inner (record p { regs = regs }) p.units p.pc (p.steps + 9 * n) x28 x29 x30 x31 None None None))
  unit_ends regs to count one = record {
    base = same_state (record p { regs = regs }) _ _ _ _ _ _ _ _ _ _ _ _ _ _
        refl refl refl refl (ap (λ c. p.units + c) one) (omega arith) refl;
    idle = refl;
    fresh = λ e. (refl, refl, refl);
  }

  -- an instruction that writes a register
  write_ends : (rd value value' to : ℕ) (reserved : Bool) → rd < 28 → reserved ≡ false → value ≡ value'
      → IsBetween n (going_to to 1 (record p { regs = regs_with p.regs rd value' }))
      (ran to (units_of reserved) (with_reg r rd value))
  write_ends rd value value' to reserved free named same =
      let written = with_reg-free p p.units p.pc (p.steps + 9 * n) x28 x29 x30 x31 None None None rd value free
      in
      let count : units_of reserved ≡ 1 = ap units_of named in
      subst (λ v. IsBetween n (going_to to 1 (record p { regs = regs_with p.regs rd v }))
      (ran to (units_of reserved) (with_reg r rd value))) same
      (subst (IsBetween n (going_to to 1 (record p { regs = regs_with p.regs rd value })))
      (sym (ap (ran to (units_of reserved)) written))
      (unit_ends (regs_with p.regs rd value) to (units_of reserved) count))

  reg_is : (k : ℕ) → k < 28 → reg r k ≡ register p k
  reg_is k free = reg-free p p.units p.pc (p.steps + 9 * n) x28 x29 x30 x31 None None None k free

  pub plain_ends : (insn : Insn) → IsPlain insn
      → IsBetween n (effect (units.Plain insn) pick allows reply p) (begin_as insn r)
  plain_ends (insns.Lui rd imm) plain = write_ends rd _ _ _ _ plain.0 (free_is rd plain.0) refl
  plain_ends (insns.Auipc rd imm) plain = write_ends rd _ _ _ _ plain.0 (free_is rd plain.0) refl
  plain_ends (insns.OpImm op rd rs1 imm) plain =
      write_ends rd _ _ _ _ plain.0
      (ap (λ b. b || is_reserved rs1) (free_is rd plain.0) ∙ free_is rs1 plain.1)
      (ap (λ x. value_of_imm_op op x (cast_unsigned w32 imm)) (reg_is rs1 plain.1))
  plain_ends (insns.Op op rd rs1 rs2) plain =
      write_ends rd _ _ _ _ plain.0
      (ap (λ b. (b || is_reserved rs1) || is_reserved rs2) (free_is rd plain.0)
      ∙ ap (λ b. b || is_reserved rs2) (free_is rs1 plain.1) ∙ free_is rs2 plain.2)
      (ap (λ x. value_of_op op x (reg r rs2)) (reg_is rs1 plain.1)
      ∙ ap (λ y. value_of_op op (register p rs1) y) (reg_is rs2 plain.2))
  plain_ends (insns.Fence fields) plain = unit_ends p.regs _ 1 refl
  plain_ends (insns.Jal rd off) plain = absurd plain
  plain_ends (insns.Jalr rd rs1 imm) plain = absurd plain
  plain_ends (insns.Branch c rs1 rs2 off) plain = absurd plain
  plain_ends (insns.Load kind rd rs1 imm) plain = absurd plain
  plain_ends (insns.Store kind rs1 rs2 imm) plain = absurd plain
  plain_ends insns.Ecall plain = absurd plain
  plain_ends insns.Ebreak plain = absurd plain

  pub branch_ends : (c : Cond) (rs1 rs2 : ℕ) (off : ℤ) → rs1 < 28 → rs2 < 28
      → IsBetween n (effect (units.Branch c rs1 rs2 off) pick allows reply p) (begin_as (insns.Branch c rs1 rs2 off) r)
  branch_ends c rs1 rs2 off free1 free2 =
      let test = ap (λ x. takes c x (reg r rs2)) (reg_is rs1 free1)
      ∙ ap (λ y. takes c (register p rs1) y) (reg_is rs2 free2) in
      let count = ap units_of (ap (λ b. b || is_reserved rs2) (free_is rs1 free1) ∙ free_is rs2 free2) in
      subst (λ b. IsBetween n
      (going_to (cond (takes c (register p rs1) (register p rs2)) (displaced p.pc off) (after 4 p.pc)) 1 p)
      (ran (cond b (displaced p.pc off) (after 4 p.pc)) (units_of (is_reserved rs1 || is_reserved rs2)) r)) (sym test)
      (unit_ends p.regs _ _ count)

  pub jump_ends : (link : Bool) (off : ℤ)
      → IsBetween n (effect (units.Jump link off) pick allows reply p) (begin_as (insns.Jal (link_register link) off) r)
  jump_ends true off = write_ends 1 (after 4 p.pc) (after 4 p.pc) _ false (omega arith) refl refl
  jump_ends false off = write_ends 0 (after 4 p.pc) (after 4 p.pc) _ false (omega arith) refl refl

-- a guest waits in a service
abbrev pub service_raw : State → (n x28 x29 x30 x31 : ℕ) → Raw
service_raw p n x28 x29 x30 x31 =
    inner p p.units (after 4 p.pc) (p.steps + 9 * n + 1) x28 x29 x30 x31 None None (Some (waits.Service (asked p)))

pub ecall_waits : (p : State) (n x28 x29 x30 x31 : ℕ)
    → begin_as insns.Ecall (start_raw p n x28 x29 x30 x31) ≡ service_raw p n x28 x29 x30 x31
ecall_waits p n x28 x29 x30 x31 =
    let none : p.units + 0 ≡ p.units = omega arith in
    ap (λ u. inner p u (after 4 p.pc) (p.steps + 9 * n + 1) x28 x29 x30 x31 None None (Some (waits.Service (asked p))))
    none

-- what a service makes of the rest does not depend on the address and the counts
service_ends : (p : State) (n x28 x29 x30 x31 : ℕ) (service : Service) (reply : Reply)
    → IsBetween n (going_to (after 4 p.pc) 1 (served service reply p))
    (serve_by service reply (service_raw p n x28 x29 x30 x31))
service_ends p n x28 x29 x30 x31 Ends reply = record {
  base = ap (λ s. record (served Ends reply p) { pc = after 4 p.pc; units = p.units + 1; steps = s }) (omega arith);
  idle = refl;
  fresh = λ e. (refl, refl, refl);
}
service_ends p n x28 x29 x30 x31 Puts reply = record {
  base = ap (λ s. record (served Puts reply p) { pc = after 4 p.pc; units = p.units + 1; steps = s }) (omega arith);
  idle = refl;
  fresh = λ e. (refl, refl, refl);
}
service_ends p n x28 x29 x30 x31 Quiets reply = record {
  base = ap (λ s. record (served Quiets reply p) { pc = after 4 p.pc; units = p.units + 1; steps = s }) (omega arith);
  idle = refl;
  fresh = λ e. (refl, refl, refl);
}
service_ends p n x28 x29 x30 x31 Opens reply = record {
  base = ap (λ s. record (served Opens reply p) { pc = after 4 p.pc; units = p.units + 1; steps = s }) (omega arith);
  idle = refl;
  fresh = λ e. (refl, refl, refl);
}
service_ends p n x28 x29 x30 x31 Unknown reply = record {
  base = ap (λ s. record (served Unknown reply p) { pc = after 4 p.pc; units = p.units + 1; steps = s }) (omega arith);
  idle = refl;
  fresh = λ e. (refl, refl, refl);
}

pub serve_ends : (p : State) (n x28 x29 x30 x31 pick : ℕ) (allows : ℕ → ℕ → Bool) (reply : Reply)
    → IsBetween n (effect units.Service pick allows reply p)
    (serve_by (service_of (asked p)) reply (service_raw p n x28 x29 x30 x31))
serve_ends p n x28 x29 x30 x31 pick allows reply = service_ends p n x28 x29 x30 x31 (service_of (asked p)) reply
