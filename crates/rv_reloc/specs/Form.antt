-- Instructions with a number in their immediate: a case for each form that has the field, which the others have not.
-- All else of the instruction stays (RISC-V ELF psABI, "Relocations").
use Rattle.std.specs.Prelude.{ℕ, ◌^◌, ℤ, Bool, true, Option, Some, None}
use Rattle.rv_insn.specs.declared.insn.Insn.{Insn}
use Rattle.rv_insn.specs.declared.insn.Insn.TheVariants as insns
use Rattle.rv_insn.specs.declared.insn.ImmOp.{ImmOp}
use Rattle.rv_insn.specs.declared.insn.ImmOp.TheVariants.{Addi}
use Rattle.rv_reloc.specs.declared.table.Form.{Form}
use Rattle.rv_reloc.specs.declared.table.Form.TheVariants as forms
use Rattle.rv_reloc.specs.Formula.{signed_of, is_reach}
use Rattle.rv_insn.specs.Fields.{high_of, low_of}

-- a conditional branch
abbrev pub with_branch : (off : ℤ) → Insn → Option Insn
with_branch off (insns.Branch cond rs1 rs2 was) = Some (insns.Branch cond rs1 rs2 off)
with_branch off insn = None

-- JAL
abbrev pub with_jal : (off : ℤ) → Insn → Option Insn
with_jal off (insns.Jal rd was) = Some (insns.Jal rd off)
with_jal off insn = None

-- LUI
abbrev pub with_lui : (imm : ℕ) → Insn → Option Insn
with_lui imm (insns.Lui rd was) = Some (insns.Lui rd imm)
with_lui imm insn = None

-- AUIPC
abbrev pub with_auipc : (imm : ℕ) → Insn → Option Insn
with_auipc imm (insns.Auipc rd was) = Some (insns.Auipc rd imm)
with_auipc imm insn = None

-- JALR
abbrev pub with_jalr : (imm : ℤ) → Insn → Option Insn
with_jalr imm (insns.Jalr rd rs1 was) = Some (insns.Jalr rd rs1 imm)
with_jalr imm insn = None

-- ADDI, of the operations on an immediate
abbrev pub with_addi : (op : ImmOp) (rd rs1 : ℕ) (imm : ℤ) → Option Insn
with_addi Addi rd rs1 imm = Some (insns.OpImm Addi rd rs1 imm)
with_addi op rd rs1 imm = None

-- a load, ADDI or JALR
abbrev pub with_low_i : (imm : ℤ) → Insn → Option Insn
with_low_i imm (insns.Load kind rd rs1 was) = Some (insns.Load kind rd rs1 imm)
with_low_i imm (insns.OpImm op rd rs1 was) = with_addi op rd rs1 imm
with_low_i imm (insns.Jalr rd rs1 was) = Some (insns.Jalr rd rs1 imm)
with_low_i imm insn = None

-- a store
abbrev pub with_low_s : (imm : ℤ) → Insn → Option Insn
with_low_s imm (insns.Store kind rs1 rs2 was) = Some (insns.Store kind rs1 rs2 imm)
with_low_s imm insn = None

-- the number fits: the displacement of a branch is from -4096 to 4094, that of JAL from -1048576 to 1048574, and each
-- is even; a high or low part is always in range
abbrev pub fits : Form → (number : ℕ) → Bool
fits forms.Branch number = is_reach (2 ^ 12) number
fits forms.Jal number = is_reach (2 ^ 20) number
fits form number = true

-- the instruction with the number in the form's field, none where it has another form
unfoldable pub with_number : Form → (number : ℕ) → Insn → Option Insn
with_number forms.Branch number insn = with_branch (signed_of number) insn
with_number forms.Jal number insn = with_jal (signed_of number) insn
with_number forms.Lui number insn = with_lui (high_of number) insn
with_number forms.Auipc number insn = with_auipc (high_of number) insn
with_number forms.Jalr number insn = with_jalr (low_of number) insn
with_number forms.LowI number insn = with_low_i (low_of number) insn
with_number forms.LowS number insn = with_low_s (low_of number) insn
