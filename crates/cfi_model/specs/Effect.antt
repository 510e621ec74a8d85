-- The policy machine: what one unit makes of a state, in how many instructions.
use Rattle.std.specs.Prelude.{ℕ, ◌+◌, ◌*◌, ◌%◌, ◌^◌, ◌==◌, nat_lt, ◌&&◌, Bool, if◌then◌else◌, ℤ, List, Some}
use Rattle.std.specs.Int.{w32, cast_unsigned}
use Rattle.std.specs.List.{list_any}
use Rattle.rv_insn.specs.declared.insn.Insn.{Insn}
use Rattle.rv_insn.specs.declared.insn.Insn.TheVariants.{Lui, Auipc, OpImm, Op}
use Rattle.rv_alu.specs.Alu.{value_of_op, value_of_imm_op, takes}
use Rattle.cfi_unit.specs.declared.unit.Unit.{Unit as CodeUnit}
use Rattle.cfi_unit.specs.declared.unit.Unit.TheVariants as units
use Rattle.cfi_unit.specs.declared.log.Stop.TheVariants.{Halt, Align}
use Rattle.cfi_unit.specs.Unit.{link_register}
use Rattle.cfi_word.specs.declared.lists.Edge.{Edge}
use Rattle.cfi_word.specs.declared.map.TheConstants.{DATA_START, DATA_BYTES, CODE_BYTES}
use Rattle.cfi_word.specs.declared.services.TheConstants.{OPEN}
use Rattle.cfi_word.specs.declared.limits.TheConstants.{MAX_OPENS}
use Rattle.cfi_model.specs.Data.{load_width, store_width, is_aligned, loaded}
use Rattle.cfi_model.specs.Pages.{Memory, memory_stored}
use Rattle.cfi_model.specs.Log.{picked, opens}
use Rattle.cfi_model.specs.State.{State, register, regs_with, displaced, after}
use Rattle.cfi_model.specs.Service.{Reply, service_of, served, asked}
use Rattle.cfi_word.specs.declared.sizes.TheConstants.{ACCESS_WORDS, CHECK_WORDS, OUTSIDE_STEPS, MISALIGNED_STEPS, PASSED_STEPS, FORBIDDEN_STEPS}

-- a unit has ended after so many instructions, and the next is at this address
abbrev pub going_to : (to steps : ℕ) → State → State
going_to to steps s = record s { pc = to; units = s.units + 1; steps = s.steps + steps }

-- what a plain instruction does to the registers (RISC-V Unprivileged ISA 20191213, 2.4); FENCE does nothing
abbrev pub plain_regs : Insn → State → List ℕ
plain_regs (Lui rd imm) s = regs_with s.regs rd ((imm * 2 ^ 12) % 2 ^ 32)
plain_regs (Auipc rd imm) s = regs_with s.regs rd ((s.pc + (imm * 2 ^ 12) % 2 ^ 32) % 2 ^ 32)
plain_regs (OpImm op rd rs1 imm) s =
    regs_with s.regs rd (value_of_imm_op op (register s rs1) (cast_unsigned w32 imm))
plain_regs (Op op rd rs1 rs2) s = regs_with s.regs rd (value_of_op op (register s rs1) (register s rs2))
plain_regs _ s = s.regs

-- the offset of a masked access in private data
abbrev pub masked_at : (rs1 : ℕ) → ℤ → State → ℕ
masked_at rs1 imm s = displaced (register s rs1) imm % DATA_BYTES

-- an access at the offset has ended, or stopped the guest at its address
abbrev pub accessed : (fits : Bool) → (offset : ℕ) → (regs : List ℕ) → Memory → State → State
accessed fits offset regs memory s = record s {
  regs = if fits then regs else s.regs;
  memory = if fits then memory else s.memory;
  pc = if fits then after (4 * ACCESS_WORDS) s.pc else s.pc;
  units = s.units + 1;
  steps = s.steps + ACCESS_WORDS;
  stop = if fits then s.stop else Some (Align (DATA_START + offset));
}

-- a load of a value: it traps where it is not aligned
abbrev pub load_effect : (width value offset rd : ℕ) → State → State
load_effect width value offset rd s =
    accessed (is_aligned width offset) offset (regs_with s.regs rd value) s.memory s

-- a store that leaves this memory: so does it
abbrev pub store_effect : (width offset : ℕ) → Memory → State → State
store_effect width offset memory s = accessed (is_aligned width offset) offset s.regs memory s

-- an address of a word of the code
abbrev pub is_in_code : (target : ℕ) → Bool
is_in_code target = nat_lt target CODE_BYTES && is_aligned 4 target

-- how many instructions a check runs
abbrev pub check_steps : (target : ℕ) → (allowed : Bool) → ℕ
check_steps target allowed =
    if nat_lt target CODE_BYTES
    then (if is_aligned 4 target then (if allowed then PASSED_STEPS else FORBIDDEN_STEPS) else MISALIGNED_STEPS)
    else OUTSIDE_STEPS

-- a check goes to its target, or stops the guest; a target in the code is a pick
abbrev pub checked : (pick : ℕ) → (allowed : Bool) → (link : Bool) → (target : ℕ) → State → State
checked pick allowed link target s = record s {
  regs = if is_in_code target && allowed then regs_with s.regs (link_register link) (after (4 * CHECK_WORDS) s.pc) else s.regs;
  pc = if is_in_code target && allowed then target else s.pc;
  log = if is_in_code target then picked pick s.log else s.log;
  units = s.units + 1;
  steps = s.steps + check_steps target allowed;
  stop = if is_in_code target && allowed then s.stop else Some (Halt target);
}

-- what a unit does: a check picks this policy, which allows these targets of slots; an open gets this answer
abbrev pub effect : CodeUnit → (pick : ℕ) → (allows : ℕ → ℕ → Bool) → Reply → State → State
effect (units.Plain insn) pick allows reply s = going_to (after 4 s.pc) 1 (record s { regs = plain_regs insn s })
effect (units.Load kind rd rs1 imm) pick allows reply s =
    load_effect (load_width kind) (loaded kind s.memory.bytes (masked_at rs1 imm s)) (masked_at rs1 imm s) rd s
effect (units.Store kind rs1 rs2 imm) pick allows reply s =
    store_effect
    (store_width kind) (masked_at rs1 imm s) (memory_stored kind s.memory (masked_at rs1 imm s) (register s rs2)) s
effect (units.Branch cond rs1 rs2 off) pick allows reply s =
    going_to (if takes cond (register s rs1) (register s rs2) then displaced s.pc off else after 4 s.pc) 1 s
effect (units.Jump link off) pick allows reply s =
    going_to (displaced s.pc off) 1 (record s { regs = regs_with s.regs (link_register link) (after 4 s.pc) })
effect (units.Check link rs1 imm slot) pick allows reply s =
    let target = displaced (register s rs1) imm in checked pick (allows slot target) link target s
effect units.Service pick allows reply s = going_to (after 4 s.pc) 1 (served (service_of (asked s)) reply s)

-- the list has the pair
abbrev pub allows_by : List Edge → (slot target : ℕ) → Bool
allows_by pairs slot target = list_any (λ pair. (pair.branch == slot) && (pair.target == target)) pairs

-- a service unit asks for the answer to an open
abbrev pub asks : State → Bool
asks s = (asked s == OPEN) && nat_lt (opens s.log) MAX_OPENS
