-- What the arithmetic and the comparisons of RV32I give (RISC-V Unprivileged ISA 20191213, 2.4 and 2.5).
-- Operands and results are words, from 0 to 2 ^ 32 - 1.
use Rattle.std.specs.Prelude.{ℕ, ◌+◌, ◌-◌, ◌*◌, ◌/◌, ◌%◌, ◌^◌, ◌==◌, nat_lt, not, Bool, if◌then◌else◌, int_lt, bit_and, bit_or, bit_xor}
use Rattle.std.specs.Int.{w32, cast_signed, cast_unsigned, int_shr}
use Rattle.rv_insn.specs.declared.insn.Op.{Op}
use Rattle.rv_insn.specs.declared.insn.Op.TheVariants as op
use Rattle.rv_insn.specs.declared.insn.ImmOp.{ImmOp}
use Rattle.rv_insn.specs.declared.insn.ImmOp.TheVariants as imm_op
use Rattle.rv_insn.specs.declared.insn.Cond.{Cond}
use Rattle.rv_insn.specs.declared.insn.Cond.TheVariants as cond

-- x is below y as signed numbers
abbrev pub signed_lt : ℕ → ℕ → Bool
signed_lt x y = int_lt (cast_signed w32 x) (cast_signed w32 y)

-- what an operation of two registers writes
abbrev pub value_of_op : Op → ℕ → ℕ → ℕ
value_of_op op.Add x y = (x + y) % 2 ^ 32
value_of_op op.Sub x y = (x + (2 ^ 32 - y)) % 2 ^ 32
value_of_op op.Sll x y = (x * 2 ^ (y % 32)) % 2 ^ 32
value_of_op op.Slt x y = if signed_lt x y then 1 else 0
value_of_op op.Sltu x y = if nat_lt x y then 1 else 0
value_of_op op.Xor x y = bit_xor x y
value_of_op op.Srl x y = x / 2 ^ (y % 32)
value_of_op op.Sra x y = cast_unsigned w32 (int_shr (cast_signed w32 x) (y % 32))
value_of_op op.Or x y = bit_or x y
value_of_op op.And x y = bit_and x y

-- the operation of two registers that one with an immediate makes of its register and the immediate
abbrev pub op_of : ImmOp → Op
op_of imm_op.Addi = op.Add
op_of imm_op.Slli = op.Sll
op_of imm_op.Slti = op.Slt
op_of imm_op.Sltiu = op.Sltu
op_of imm_op.Xori = op.Xor
op_of imm_op.Srli = op.Srl
op_of imm_op.Srai = op.Sra
op_of imm_op.Ori = op.Or
op_of imm_op.Andi = op.And

-- what an operation with an immediate writes
abbrev pub value_of_imm_op : ImmOp → ℕ → ℕ → ℕ
value_of_imm_op kind x y = value_of_op (op_of kind) x y

-- a conditional branch goes to its target
abbrev pub takes : Cond → ℕ → ℕ → Bool
takes cond.Beq x y = x == y
takes cond.Bne x y = not (x == y)
takes cond.Blt x y = signed_lt x y
takes cond.Bge x y = not (signed_lt x y)
takes cond.Bltu x y = nat_lt x y
takes cond.Bgeu x y = not (nat_lt x y)
